-- Answers: an integer is stored where the place's pointer leads.
use Rattle.std.proofs.Common.{sym, ap, subst, ◌∙◌}
use Rattle.byte_mem.specs.declared.values.Scalar.TheVariants.{Int as OfKind}
use Rattle.byte_mem.specs.Store.{memory, Stored}
use Rattle.cil_machine.specs.Terms.{term_value, spot_place}
use Rattle.cil_machine.specs.Instructions.{scalar_set}
use Rattle.cil_machine.proofs.Numbers.{stored_there}
use Rattle.cil_machine.proofs.instructions.set_place.Goals as goal

pub returns-in-Int : goal.returns-in-Int
returns-in-Int c =
    subst (λ o. Stored c.set_integer.result c.args.mem.now c.set_integer.new.mem o)
    (stored_there c.args.mem.now.abi (memory c.args.mem.now) (OfKind c.in-Int.kind) (spot_place c.args.mem.now.abi (memory c.args.mem.now) c.args.act c.args.place.now) (term_value c.args.mem.now.abi (memory c.args.mem.now) c.args.act (OfKind c.in-Int.kind) c.args.value.now) c.in_ok-at.at c.in_ok-at.ensures
    ∙ ap (λ s. scalar_set c.args.mem.now.abi (memory c.args.mem.now) c.args.act s c.args.place.now c.args.value.now) (sym c.in-Int.is))
    c.set_integer.ensures
