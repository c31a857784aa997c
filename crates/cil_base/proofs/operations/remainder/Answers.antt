use Rattle.std.proofs.Common.{◌≡◌, ◌≢◌, pos, Some, int_div, int_rem, to_z, of_z, ap, sym, ◌∙◌, rules}
use Rattle.std.specs.Int.{w128}
use Rattle.cil_base.specs.Arithmetic.{settled}
use Rattle.cil_base.proofs.ArithmeticLemmas.{remainder_of}
use Rattle.cil_base.proofs.operations.remainder.Goals as goal

pub returns-in-Some : goal.returns-in-Some
returns-in-Some c =
    let divisor : c.args.b ≢ pos 0 = search rules in
    let value : to_z w128 (of_z w128 c.rest.result) ≡ int_rem c.args.a c.args.b = search rules in
    let quotient : to_z w128 (of_z w128 c.divided.result) ≡ int_div c.args.a c.args.b = search rules in
    let fit : Some c.in-Some.field-0 ≡ settled c.args.kind (int_div c.args.a c.args.b) = sym c.in-Some.is ∙ c.settled.ensures ∙ ap (settled c.args.kind) quotient in
    ap Some value ∙ sym (remainder_of c.args.kind c.args.a c.args.b c.in-Some.field-0 divisor fit)
