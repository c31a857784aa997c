use Rattle.std.proofs.Common.{◌≡◌, ◌++◌, ◌-◌}
use Rattle.byte_mem.specs.Scalar.{parts_of}
use Rattle.cil_start.proofs.words.push_pointer.Given as goal

abbrev pub invariant-loop-k : goal.invariant-loop-k
invariant-loop-k l = l.bytes.items ++ parts_of l.p l.k (l.size - l.k) ≡ l.fn.bytes.items ++ parts_of l.p 0 l.size
