use Rattle.std.proofs.Common.{arith}
use Rattle.cil_start.proofs.WordLaws.{filled_by}
use Rattle.cil_start.proofs.words.make_argument.Goals as goal

pub returns : goal.returns
returns c =
    filled_by c.store_bytes-2.result c.args.mem.now c.make.new.self c.store_bytes-2.new.self c.args.i c.len-2.result c.new.result c.args.bytes.items c.new.ensures (omega arith) c.in_ok-make.ensures c.store_bytes-2.ensures
