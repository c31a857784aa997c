use Rattle.std.proofs.Common.{IfSome, Option, sym, subst}
use Rattle.byte_mem.specs.declared.values.Value.{Value}
use Rattle.byte_mem.specs.Scalar.{IsValue}
use Rattle.byte_mem.proofs.AgainLemmas.{load_held_is_value}
use Rattle.byte_mem.proofs.stores.Store.value_at.Goals as goal

pub returns-in-Some-clause-value : goal.returns-in-Some-clause-value
returns-in-Some-clause-value c =
    subst (λ (o : Option Value). IfSome o (IsValue c.args.self.now.abi c.args.s)) (sym c.load.ensures) (load_held_is_value c.args.self.now.abi c.in-Some.object c.args.at.offset c.args.s)
