use Rattle.std.proofs.Common.{take}
use Rattle.cil_start.specs.Ready.{AreInStep}
use Rattle.cil_runner.proofs.loading.all_layouts.Given as goal

abbrev pub invariant-loop-i : goal.invariant-loop-i
invariant-loop-i l = AreInStep l.layouts.items (take l.i l.units)
