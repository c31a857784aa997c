use Rattle.type_things.proofs.StemLaws.{digits_stop, digits_all, digits_more}
use Rattle.std.proofs.Common.{sym, ◌∙◌, arith}
use Rattle.type_things.proofs.stems.count_digits.Goals as goal

pub loop-k-preserved : goal.loop-k-preserved
loop-k-preserved c = digits_more c.args.text.now c.loop-k.k 0 (sym c.is_ascii_digit.ensures.value ∙ c.if-not-is_ascii_digit.false) c.loop-k.invariant

pub returns-then-not-is_ascii_digit-clause-digits : goal.returns-then-not-is_ascii_digit-clause-digits
returns-then-not-is_ascii_digit-clause-digits c = digits_stop c.args.text.now c.loop-k.k 0 c.loop-k-test.true c.loop-k.invariant (sym c.is_ascii_digit.ensures.value ∙ c.if-not-is_ascii_digit.true)

pub returns-clause-digits : goal.returns-clause-digits
returns-clause-digits c = digits_all c.args.text.now c.loop-k.k 0 (omega (arith, c.loop-k-test.false, c.loop-k.auto.k-end)) c.loop-k.invariant
