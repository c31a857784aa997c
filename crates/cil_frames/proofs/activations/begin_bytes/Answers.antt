use Rattle.cil_frames.proofs.Beginnings.{bytes_begun}
use Rattle.cil_frames.proofs.activations.begin_bytes.Goals as goal

pub returns : goal.returns
returns c = bytes_begun c.store_bytes.result c.args.mem.now c.make.new.self c.store_bytes.new.self c.args.name c.in_ok-size.size c.args.bytes.now c.in_ok-size.ensures c.in_ok-make.ensures c.store_bytes.ensures
