use Rattle.cil_frames.proofs.Beginnings.{value_begun, nothing_begun}
use Rattle.cil_frames.proofs.activations.begin_value.Goals as goal

pub returns-in-Some : goal.returns-in-Some
returns-in-Some c = value_begun c.begin_scalar.result c.args.mem.now c.begin_scalar.new.mem c.args.name c.args.kind c.in-Some.s c.args.v c.in-Some.ensures c.begin_scalar.ensures

pub returns-in-None : goal.returns-in-None
returns-in-None c = nothing_begun c.make.result c.args.mem.now c.make.new.self c.args.name c.args.kind c.args.v c.in-None.ensures c.make.ensures
