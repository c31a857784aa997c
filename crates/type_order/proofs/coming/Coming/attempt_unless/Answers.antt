use Rattle.std.proofs.Common.{Some, slice_get, refl, ap, sym, ◌∙◌}
use Rattle.type_order.specs.Order.{needed_of}
use Rattle.type_order.proofs.ComingLaws.{on_ok, tried, passed}
use Rattle.type_order.proofs.coming.Coming.attempt_unless.Goals as goal

pub returns-then-branch : goal.returns-then-branch
returns-then-branch c = λ h. (passed (needed_of c.args.needs.now) c.args.listed c.args.x c.args.self.now (ap (λ l. slice_get l c.args.x) (sym c.deref.ensures.value) ∙ c.in_ok-is_done.ensures ∙ ap Some c.if-branch.true) h, refl)

pub returns : goal.returns
returns c = λ h. on_ok c.attempt.result (λ a. (tried (needed_of c.args.needs.now) c.args.listed c.args.x c.args.self.now c.attempt.new.self a h, a.done)) c.attempt.ensures
