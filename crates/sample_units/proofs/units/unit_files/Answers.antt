use Rattle.sample_units.proofs.Sources.{file_more}
use Rattle.sample_units.proofs.units.unit_files.Goals as goal

pub loop-u-preserved : goal.loop-u-preserved
loop-u-preserved c = file_more c.loop-u.u _ _ c.in_ok-file_name.field-0 c.loop-u.invariant c.in_ok-file_name.ensures c.in_ok-push.ensures.items
