use Rattle.std.proofs.Common.{slice_get, ap, sym, ◌∙◌, arith}
use Rattle.type_order.specs.Order.{needed_of}
use Rattle.type_order.proofs.ComingLaws.{released, all_released}
use Rattle.type_order.proofs.coming.Coming.release.Goals as goal

pub returns-in_default : goal.returns-in_default
returns-in_default c = λ h.
    let r = c.loop-step.invariant h in
    (all_released (needed_of c.args.needs.now) c.args.listed c.loop-step.number c.loop-step.self (omega (arith, c.in_default.ensures)) r.0, r.1)

pub loop-step-preserved : goal.loop-step-preserved
loop-step-preserved c = λ h.
    let r = c.loop-step.invariant h in (
      released (needed_of c.args.needs.now) c.args.listed c.loop-step.number c.in-Some.i c.in_ok-wait.wait c.loop-step.self c.attempt.new.self (omega (arith, c.in-Some.ensures)) (ap (λ l. slice_get l c.in-Some.i) (sym c.deref-in-loop-step.ensures.value) ∙ c.in_ok-wait.ensures) c.in_ok-attempt.ensures r.0,
      c.in_ok-attempt.ensures.done ∙ r.1,
    )
