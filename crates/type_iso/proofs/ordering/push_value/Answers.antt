use Rattle.std.proofs.Common.{refl, ap, Some, ◌∙◌}
use Rattle.type_iso.proofs.OrderSteps.{adds_none, adds_pushed}
use Rattle.type_iso.proofs.ordering.push_value.Goals as goal

pub returns-in-None : goal.returns-in-None
returns-in-None c = adds_none c.args.standing.now c.args.values.now c.args.ty c.args.all.now.items c.args.all.now.items (c.in_ok-value_at.ensures ∙ ap Some c.in-None.is) refl

pub returns-in-Some : goal.returns-in-Some
returns-in-Some c = adds_pushed c.args.standing.now c.args.values.now c.push_standing.result c.args.ty c.in-Some.a c.args.all.now.items c.push_standing.new.all.items (c.in_ok-value_at.ensures ∙ ap Some c.in-Some.is) c.push_standing.ensures.within c.push_standing.ensures.pushed
