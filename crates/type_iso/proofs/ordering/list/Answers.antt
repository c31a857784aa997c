use Rattle.std.proofs.Common.{inl, inr, refl, arith}
use Rattle.type_iso.proofs.ordering.list.Goals as goal

pub returns-then-x-aggregates : goal.returns-then-x-aggregates
returns-then-x-aggregates c = inr (omega (arith, c.if-x-aggregates.true), refl)

pub returns : goal.returns
returns c = inl (omega (arith, c.if-x-aggregates.false), c.in_ok-push.ensures.items)
