use Rattle.std.proofs.Common.{inl, inr, refl, subst}
use Rattle.type_joins.specs.Forests.{root}
use Rattle.type_links.specs.Linking.{IsKnown}
use Rattle.type_links.proofs.linking.count.Goals as goal

pub returns-then-branch-clause-counted : goal.returns-then-branch-clause-counted
returns-then-branch-clause-counted c = inl (subst (λ l. IsKnown (root c.args.joining.now.forest.parents.items) l c.args.later.side) c.deref.ensures.value (c.in_ok-is_known.ensures.known c.if-branch.true), refl)

pub returns-clause-counted : goal.returns-clause-counted
returns-clause-counted c = inr c.in_ok-push.ensures.items
