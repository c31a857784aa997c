use Rattle.cil_frames.proofs.Beginnings.{scalar_begun}
use Rattle.cil_frames.proofs.activations.begin_scalar.Goals as goal

pub returns : goal.returns
returns c = scalar_begun c.store.result c.args.mem.now c.make.new.self c.store.new.self c.args.name c.args.s c.args.v c.abi.result c.size.result c.abi.ensures c.size.ensures c.in_ok-make.ensures c.store.ensures
