use Rattle.std.proofs.Common.{length, ap, ◌∙◌, arith}
use Rattle.type_order.specs.Order.{needed_of}
use Rattle.type_order.proofs.ComingLaws.{all_tried}
use Rattle.type_order.proofs.coming.Coming.attempt_all.Goals as goal

pub loop-x-preserved : goal.loop-x-preserved
loop-x-preserved c = λ h.
    let r = c.loop-x.invariant h in
    let s = c.in_ok-attempt_unless.ensures r.0 in
    (s.0, s.1 ∙ r.1)

pub returns : goal.returns
returns c = λ h.
    let r = c.loop-x.invariant h in
    let l = ap (λ v. length v.items) r.1 in
    (all_tried (needed_of c.args.needs.now) c.args.listed c.loop-x.x c.loop-x.self (omega (arith, l, c.loop-x-test.false, c.loop-x.auto.x-end, c.in_ok-x-end.ensures, c.len.ensures)) r.0, r.1)
