use Rattle.std.proofs.Common.{◌≡◌, drop}
use Rattle.byte_mem.specs.Store.{memory}
use Rattle.cil_code.specs.Calling.{passing_all}
use Rattle.cil_frames.specs.Entering.{arguments_of}
use Rattle.cil_frames.specs.Evaluating.{passed_on}
use Rattle.cil_frames.proofs.calling.arguments.Given as goal

abbrev pub invariant-loop-i : goal.invariant-loop-i
invariant-loop-i l = passed_on (arguments_of l.done.items) (passing_all l.mem.abi (memory l.mem) l.act (drop l.i l.operands)) ≡ passing_all l.mem.abi (memory l.mem) l.act l.operands
