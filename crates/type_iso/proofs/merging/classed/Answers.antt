use Rattle.std.proofs.Common.{subst}
use Rattle.type_iso.specs.Places.{ArePlaced}
use Rattle.type_iso.proofs.merging.classed.Goals as goal

pub returns : goal.returns
returns c = λ done j. (c.into_firsts.ensures, (c.in_ok-of.order.items, (c.in_ok-of.ensures done j).0, subst (λ l. ArePlaced c.args.web.firsts.items l c.in_ok-representatives.representatives.items) c.deref.ensures.value c.in_ok-representatives.ensures, (c.in_ok-of.ensures done j).1))
