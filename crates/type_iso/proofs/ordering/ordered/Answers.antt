use Rattle.std.proofs.Common.{IfOk}
use Rattle.type_iso.specs.Ordering.{IsOrder}
use Rattle.type_iso.proofs.OrderSteps.{found}
use Rattle.type_iso.proofs.ordering.ordered.Goals as goal

pub returns : goal.returns
returns c = λ h i. found (λ ts st. IfOk c.listed.result (λ v. IsOrder ts c.args.web.now.aggregates st v.items)) c.args.web.now c.args.standing.now c.in_ok-values.values.items c.deref.result.now c.deref-2.result.now c.in_ok-settled.settled.items c.deref-3.result.now c.in_ok-needs.needs.items c.deref-4.result.now c.in_ok-come.come.items c.deref-5.result.now c.in_ok-enums.field-0.items
    c.deref.ensures.value c.deref-2.ensures.value c.deref-3.ensures.value c.deref-4.ensures.value c.deref-5.ensures.value h i c.in_ok-values.ensures c.in_ok-settled.ensures c.in_ok-needs.ensures c.in_ok-come.ensures c.in_ok-enums.ensures c.listed.ensures
