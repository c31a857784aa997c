-- Device: the status that tells how a machine's run ended.
use Rattle.cil_turns.specs.declared.ends.RunEnd.{RunEnd}
use Rattle.cil_turns.specs.declared.ends.RunEnd.TheVariants as end
use Rattle.cil_lines.specs.declared.status.Status.{Status}
use Rattle.cil_lines.specs.declared.status.Status.TheVariants.{Exited, StillRunning, WentUndefined, ReadFault, WriteFault, Memory}

abbrev pub status_by : RunEnd → Status
status_by (end.Exited status) = Exited status
status_by end.StillRunning = StillRunning
status_by end.Undefined = WentUndefined
status_by end.ReadFault = ReadFault
status_by end.WriteFault = WriteFault
status_by end.Memory = Memory
