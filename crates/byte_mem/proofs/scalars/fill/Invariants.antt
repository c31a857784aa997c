use Rattle.std.proofs.Common.{◌≡◌, ◌+◌, ◌-◌, length, replicate}
use Rattle.byte_mem.specs.Object.{with_part}
use Rattle.byte_mem.proofs.scalars.fill.Given as goal

abbrev pub invariant-loop-k : goal.invariant-loop-k
invariant-loop-k l =
    (with_part (l.at + l.k) (replicate (l.size - l.k) l.b) l.c ≡ with_part l.at (replicate l.size l.b) l.initial.c) × (length l.c ≡ length l.initial.c)
