use Rattle.cil_frames.proofs.Beginnings.{single_begun, bytes_passed}
use Rattle.cil_frames.proofs.activations.begin_argument.Goals as goal

pub returns-in-Single : goal.returns-in-Single
returns-in-Single c = single_begun c.begin_value.result c.args.mem.now c.begin_value.new.mem c.args.name c.args.a.now c.in-Single.v c.in-Single.is c.begin_value.ensures

pub returns-in-Bytes : goal.returns-in-Bytes
returns-in-Bytes c = bytes_passed c.begin_bytes.result c.args.mem.now c.begin_bytes.new.mem c.args.name c.args.a.now c.in-Bytes.bytes c.in-Bytes.is c.begin_bytes.ensures
