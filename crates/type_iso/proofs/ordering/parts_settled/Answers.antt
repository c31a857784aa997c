use Rattle.std.proofs.Common.{Some, ap, ◌∙◌, arith}
use Rattle.type_iso.proofs.OrderSteps.{parts_start, parts_more, parts_end}
use Rattle.type_iso.proofs.ordering.parts_settled.Goals as goal

pub loop-i-init : goal.loop-i-init
loop-i-init c = parts_start c.args.settled.now c.args.parts.now

pub loop-i-preserved : goal.loop-i-preserved
loop-i-preserved c = parts_more c.args.settled.now c.args.parts.now c.loop-i.i _ c.loop-i-test.true (c.in_ok-settled_at.ensures ∙ ap Some c.if-not-branch.false) c.loop-i.invariant

pub returns : goal.returns
returns c = λ e. parts_end c.args.settled.now c.args.parts.now c.loop-i.i (omega (arith, c.loop-i-test.false)) c.loop-i.invariant
