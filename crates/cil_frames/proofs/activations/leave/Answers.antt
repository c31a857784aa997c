use Rattle.std.proofs.Common.{map}
use Rattle.byte_mem.specs.Store.{memory}
use Rattle.execution.specs.Data.{without_objects}
use Rattle.execution.specs.Calls.{number_of, numbers}
use Rattle.cil_frames.specs.Entering.{objects_of}
use Rattle.cil_frames.proofs.Activating.{then_becomes}
use Rattle.cil_frames.proofs.activations.leave.Goals as goal

pub returns : goal.returns
returns c xs long =
    then_becomes c.args.mem.now c.end_objects.new.mem c.end_arguments.new.mem (without_objects c.args.act (numbers 0 xs)) (without_objects c.args.act (map number_of (objects_of c.args.objects.now)) (memory c.args.mem.now)) c.end_objects.ensures (c.end_arguments.ensures xs long)
