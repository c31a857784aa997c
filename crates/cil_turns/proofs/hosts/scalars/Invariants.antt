use Rattle.std.proofs.Common.{◌≡◌, drop}
use Rattle.execution.specs.Calls.{scalar_arguments}
use Rattle.cil_frames.specs.Entering.{arguments_of}
use Rattle.cil_turns.proofs.Scalars.{scalars_on}
use Rattle.cil_turns.proofs.hosts.scalars.Given as goal

abbrev pub invariant-loop-i : goal.invariant-loop-i
invariant-loop-i l = scalars_on l.done.items (scalar_arguments (arguments_of (drop l.i l.arguments))) ≡ scalar_arguments (arguments_of l.arguments)
