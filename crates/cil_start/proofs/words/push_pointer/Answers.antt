use Rattle.std.proofs.Common.{◌++◌, arith}
use Rattle.byte_mem.specs.Scalar.{parts_of}
use Rattle.cil_start.proofs.WordLaws.{parts_next}
use Rattle.cil_start.proofs.words.push_pointer.Goals as goal

pub loop-k-preserved : goal.loop-k-preserved
loop-k-preserved c = parts_next c.loop-k.bytes.items c.push.new.self.items (c.args.bytes.now.items ++ parts_of c.args.p 0 c.args.size) c.args.p c.args.size c.loop-k.k (omega arith) c.in_ok-push.ensures.items c.loop-k.invariant
