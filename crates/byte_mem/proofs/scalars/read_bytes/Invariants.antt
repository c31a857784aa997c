use Rattle.std.proofs.Common.{◌≡◌}
use Rattle.byte_mem.specs.Object.{part_at}
use Rattle.byte_mem.proofs.scalars.read_bytes.Given as goal

abbrev pub invariant-loop-k : goal.invariant-loop-k
invariant-loop-k l = l.bytes.items ≡ part_at l.at l.k l.c
