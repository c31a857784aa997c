use Rattle.std.proofs.Common.{ℕ, sym, ap, subst}
use Rattle.type_graph.specs.declared.nodes.QualType.{QualType}
use Rattle.type_graph.specs.Shapes.{shape}
use Rattle.type_compat.specs.Parts.{GainsParts}
use Rattle.unit_types.proofs.QualifiedLaws.{array_gains}
use Rattle.unit_types.proofs.types.Types.+qualified.Goals as goal

pub returns-in_ok-array-in-Array-clause-gains : goal.returns-in_ok-array-in-Array-clause-gains
returns-in_ok-array-in-Array-clause-gains t c =
    subst (λ (u : ℕ). GainsParts c.args.self.now c.array.new.self (shape c.array.new.self.nodes u)) (sym (ap (λ (q : QualType). q.of.0) c.unqualified.ensures))
    (array_gains c.args.self.now c.qualified.new.self c.array.new.self c.in_ok-of-in-Array.of c.in-Array.bound c.in_ok-array-in-Array.array.0 c.in_ok-of-in-Array.ensures.gains c.in_ok-array-in-Array.ensures.makes)
