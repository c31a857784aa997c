use Rattle.std.proofs.Common.{arith}
use Rattle.type_iso.proofs.StandingLaws.{numbers_start, numbers_step, numbers_end}
use Rattle.type_iso.proofs.merging.class_numbers.Goals as goal

pub loop-k-init : goal.loop-k-init
loop-k-init c = numbers_start c.args.order.now c.args.standing.now c.in_ok-numbers.numbers.items (c.in_ok-numbers.ensures c.args.order.now)

pub loop-k-preserved : goal.loop-k-preserved
loop-k-preserved c = numbers_step c.args.order.now c.args.standing.now c.loop-k.numbers.items c.put_number.new.numbers.items c.loop-k.k c.in_ok-standing_at.field-0 c.in_ok-standing_at.ensures c.in_ok-put_number.ensures.free c.in_ok-put_number.ensures.set c.loop-k.invariant

pub returns : goal.returns
returns c = numbers_end c.args.order.now c.args.standing.now c.loop-k.numbers.items c.loop-k.k _ (omega (arith, c.loop-k-test.false, c.loop-k.auto.k-end, c.in_ok-k-end.ensures)) c.loop-k.invariant
