use Rattle.sample_units.specs.Units.{call_line}
use Rattle.sample_units.proofs.Lines.{one_more}
use Rattle.sample_units.proofs.units.push_calls.Goals as goal

pub loop-u-preserved : goal.loop-u-preserved
loop-u-preserved c = one_more call_line c.loop-u.u _ _ _ c.loop-u.invariant c.in_ok-push_call.ensures
