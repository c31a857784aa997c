use Rattle.std.proofs.Common.{◌≡◌, ◌+◌, ◌-◌, length}
use Rattle.byte_mem.specs.Scalar.{parts_of}
use Rattle.byte_mem.specs.Object.{with_part}
use Rattle.byte_mem.proofs.scalars.write_parts.Given as goal

abbrev pub invariant-loop-k : goal.invariant-loop-k
invariant-loop-k l =
    (with_part (l.at + l.k) (parts_of l.p l.k (l.size - l.k)) l.c ≡ with_part l.at (parts_of l.p 0 l.size) l.initial.c) × (length l.c ≡ length l.initial.c)
