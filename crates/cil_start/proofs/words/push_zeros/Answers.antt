use Rattle.std.proofs.Common.{◌++◌, replicate, arith}
use Rattle.byte_mem.specs.declared.values.Byte.TheVariants.{Known}
use Rattle.cil_start.proofs.WordLaws.{zeros_next}
use Rattle.cil_start.proofs.words.push_zeros.Goals as goal

pub loop-k-preserved : goal.loop-k-preserved
loop-k-preserved c = zeros_next c.loop-k.bytes.items c.push.new.self.items (c.args.bytes.now.items ++ replicate c.args.count (Known 0)) c.args.count c.loop-k._k (omega arith) c.in_ok-push.ensures.items c.loop-k.invariant
