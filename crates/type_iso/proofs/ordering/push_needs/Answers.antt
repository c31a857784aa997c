use Rattle.std.proofs.Common.{subst, sym}
use Rattle.type_iso.specs.Ordering.{AddsNeeds}
use Rattle.type_order.proofs.ComingLaws.{on_ok}
use Rattle.type_iso.proofs.OrderSteps.{adds_with, adds_without}
use Rattle.type_iso.proofs.ordering.push_needs.Goals as goal

pub returns-then-by_value : goal.returns-then-by_value
returns-then-by_value c = on_ok c.push_value.result (λ a. subst (λ b. AddsNeeds c.args.standing.now c.args.values.now c.args.aggregates b c.args.x c.args.ty c.args.all.now.items c.push_value.new.all.items) (sym c.if-by_value.true) (adds_with c.args.standing.now c.args.values.now c.args.aggregates c.args.x c.args.ty c.args.all.now.items c.push.new.self.items c.push_value.new.all.items c.in_ok-check_part.ensures.above c.in_ok-check_part.ensures.below c.in_ok-push.ensures.items a)) c.push_value.ensures

pub returns : goal.returns
returns c = subst (λ b. AddsNeeds c.args.standing.now c.args.values.now c.args.aggregates b c.args.x c.args.ty c.args.all.now.items c.push.new.self.items) (sym c.if-by_value.false) (adds_without c.args.standing.now c.args.values.now c.args.aggregates c.args.x c.args.ty c.args.all.now.items c.push.new.self.items c.in_ok-check_part.ensures.above c.in_ok-check_part.ensures.below c.in_ok-push.ensures.items)
