use Rattle.byte_mem.specs.Store.{memory}
use Rattle.execution.specs.Data.{with_arguments, with_objects}
use Rattle.cil_frames.specs.Entering.{arguments_of, objects_of}
use Rattle.cil_frames.proofs.Activating.{then_on_ok}
use Rattle.cil_frames.proofs.activations.enter.Goals as goal

pub returns : goal.returns
returns c =
    then_on_ok c.begin_objects.result c.args.mem.now c.begin_arguments.new.mem c.begin_objects.new.mem (with_objects c.args.act (objects_of c.args.objects.now)) (with_arguments c.args.mem.now.abi c.args.act 0 (arguments_of c.args.arguments.now) (memory c.args.mem.now))
    c.in_ok-begin_arguments.ensures c.begin_objects.ensures
