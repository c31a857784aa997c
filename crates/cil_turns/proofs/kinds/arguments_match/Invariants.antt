use Rattle.std.proofs.Common.{◌≡◌, drop, map}
use Rattle.execution.specs.Calls.{arguments_match}
use Rattle.cil_code.specs.Calling.{kind_from}
use Rattle.cil_frames.specs.Entering.{arguments_of}
use Rattle.cil_turns.proofs.kinds.arguments_match.Given as goal

abbrev pub invariant-loop-i : goal.invariant-loop-i
invariant-loop-i l = arguments_match (map kind_from (drop l.i l.kinds)) (arguments_of (drop l.i l.arguments)) ≡ arguments_match (map kind_from l.kinds) (arguments_of l.arguments)
