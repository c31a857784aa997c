use Rattle.std.proofs.Common.{◌≡◌, ◌+◌, length, drop}
use Rattle.byte_mem.specs.Object.{with_part}
use Rattle.byte_mem.proofs.scalars.write_bytes.Given as goal

abbrev pub invariant-loop-k : goal.invariant-loop-k
invariant-loop-k l =
    (with_part (l.at + l.k) (drop l.k l.bytes) l.c ≡ with_part l.at l.bytes l.initial.c) × (length l.c ≡ length l.initial.c)
