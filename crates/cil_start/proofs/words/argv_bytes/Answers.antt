use Rattle.std.proofs.Common.{arith}
use Rattle.execution.specs.Runs.{word_pointers}
use Rattle.cil_start.proofs.WordLaws.{pointers_next}
use Rattle.cil_start.proofs.words.argv_bytes.Goals as goal

pub loop-i-preserved : goal.loop-i-preserved
loop-i-preserved c =
    pointers_next c.args.words.now c.args.abi c.loop-i.bytes.items c.push_pointer.new.bytes.items (word_pointers c.args.abi 0 c.args.words.now) c.loop-i.i c.pointer_size-size.result
    (omega arith) c.pointer_size-size.ensures c.in_ok-push_pointer.ensures c.loop-i.invariant
