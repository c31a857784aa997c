use Rattle.std.proofs.Common.{inl, inr, refl}
use Rattle.type_iso.proofs.OrderSteps.{of_true, of_false}
use Rattle.type_iso.proofs.ordering.list_enum.Goals as goal

pub returns-then-not-branch : goal.returns-then-not-branch
returns-then-not-branch c = inr (of_false _ _ c.in_ok-is_own_enum.field-0 c.if-not-branch.true c.in_ok-is_own_enum.ensures, refl)

pub returns : goal.returns
returns c = inl (of_true _ _ c.in_ok-is_own_enum.field-0 c.if-not-branch.false c.in_ok-is_own_enum.ensures, c.in_ok-push.ensures.items)
