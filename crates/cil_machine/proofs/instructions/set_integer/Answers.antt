-- Answers: a value that has a number is that number.
use Rattle.std.proofs.Common.{FitsSigned, rules, sym, ap, subst, ◌∙◌}
use Rattle.std.specs.Int.{w128}
use Rattle.std.proofs.lemmas.Int.{to_z-of_z}
use Rattle.byte_mem.specs.declared.values.Scalar.TheVariants.{Int as OfKind}
use Rattle.byte_mem.specs.Steps.{◌>>=◌}
use Rattle.byte_mem.specs.Store.{memory, Stored}
use Rattle.byte_mem.specs.Memory.{store}
use Rattle.cil_machine.specs.Terms.{term_value}
use Rattle.cil_machine.proofs.Numbers.{number_alone}
use Rattle.cil_machine.proofs.instructions.set_integer.Goals as goal

pub returns-in-Some : goal.returns-in-Some
returns-in-Some c =
    let fits : FitsSigned w128 c.in-Some.n = search rules in
    subst (λ o. Stored c.store.result c.args.mem.now c.store.new.self o) (ap (λ v. v >>= λ v. store c.args.mem.now.abi (memory c.args.mem.now) c.args.at (OfKind c.args.kind) v) (sym (number_alone (term_value c.args.mem.now.abi (memory c.args.mem.now) c.args.act (OfKind c.args.kind) c.args.value.now) c.in-Some.n (sym c.in-Some.is ∙ c.term_number.ensures.number)))) (simp (to_z-of_z, fits) at c.store.ensures)
