use Rattle.std.proofs.Common.{get_or, slice_get, sym, ap, ◌∙◌, arith}
use Rattle.std.proofs.lemmas.List.{get_or_default}
use Rattle.type_iso.proofs.StandingLaws.{ordered_start, ordered_step, ordered_end}
use Rattle.type_iso.proofs.merging.numbered.Goals as goal

pub loop-x-init : goal.loop-x-init
loop-x-init c = ordered_start c.args.order.now c.args.standing.now c.new-of.result.items c.in_ok-numbers.numbers.items c.new-of.ensures.items

pub loop-x-preserved : goal.loop-x-preserved
loop-x-preserved c = ordered_step c.args.order.now c.args.standing.now c.loop-x.of.items c.push.new.self.items c.in_ok-numbers.numbers.items c.loop-x.x _ c.in_ok-number_of.field-0 (get_or_default c.args.standing.now c.loop-x.x c.loop-x.x 0 c.loop-x-test.true)
    (ap (λ l. slice_get l (get_or c.args.standing.now c.loop-x.x 0)) (sym c.deref.ensures.value) ∙ c.in_ok-number_of.ensures) c.in_ok-push.ensures.items c.loop-x.invariant

pub returns : goal.returns
returns c = ordered_end c.args.order.now c.args.standing.now c.loop-x.of.items c.in_ok-numbers.numbers.items c.loop-x.x c.in_ok-numbers.ensures (omega (arith, c.loop-x-test.false, c.loop-x.auto.x-end)) c.loop-x.invariant
