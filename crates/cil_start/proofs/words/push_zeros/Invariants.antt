use Rattle.std.proofs.Common.{◌≡◌, ◌++◌, ◌-◌, replicate}
use Rattle.byte_mem.specs.declared.values.Byte.TheVariants.{Known}
use Rattle.cil_start.proofs.words.push_zeros.Given as goal

abbrev pub invariant-loop-k : goal.invariant-loop-k
invariant-loop-k l = l.bytes.items ++ replicate (l.count - l._k) (Known 0) ≡ l.fn.bytes.items ++ replicate l.count (Known 0)
