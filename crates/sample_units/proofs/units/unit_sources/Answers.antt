use Rattle.std.proofs.Common.{◌∙◌, ap, arith, ◌++◌, ◌∷◌, []}
use Rattle.sample_units.proofs.Sources.{unit_more, state_more}
use Rattle.sample_units.proofs.units.unit_sources.Goals as goal

pub loop-u-preserved : goal.loop-u-preserved
loop-u-preserved c = (
  unit_more c.args.seed c.args.units c.loop-u.u c.loop-u.state c.loop-u.texts.items c.push.new.self.items c.in_ok-text.text.items c.loop-u.invariant.0 c.loop-u.invariant.1.0 c.in_ok-text.ensures
      (c.in_ok-push.ensures.items ∙ ap (λ text. c.loop-u.texts.items ++ text ∷ []) c.new.ensures),
  (
    state_more c.args.seed c.loop-u.u c.loop-u.state c.next_state.result c.next_state-state.result c.loop-u.invariant.1.0 c.next_state.ensures.is c.next_state-state.ensures.is,
    omega (arith, c.next_state-state.ensures.below),
  ),
)
