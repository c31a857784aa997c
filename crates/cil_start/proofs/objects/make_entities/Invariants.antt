use Rattle.std.proofs.Common.{[], map, take}
use Rattle.byte_mem.specs.Store.{Becomes}
use Rattle.execution.specs.Runs.{memory_of}
use Rattle.cil_link.specs.Units.{units_in}
use Rattle.cil_start.specs.Loads.{definer_held}
use Rattle.cil_start.proofs.objects.make_entities.Given as goal

abbrev pub invariant-loop-i : goal.invariant-loop-i
invariant-loop-i l = Becomes l.fn.mem l.mem (memory_of (map (definer_held (units_in l.l.linked)) (take l.i l.l.linked.entities.now.definers.items)) [])
