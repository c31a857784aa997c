use Rattle.std.proofs.Common.{◌≡◌, ℕ, ◌+◌, ◌-◌, vec_len}
use Rattle.byte_mem.specs.Layers.{page_at}
use Rattle.byte_mem.proofs.pages.grow.Given as goal

abbrev pub invariant-loop-alloc : goal.invariant-loop-alloc
invariant-loop-alloc l = (k : ℕ) → page_at l.pages.items k ≡ page_at l.initial.pages.items k

abbrev pub decreases-loop-alloc : goal.decreases-loop-alloc
decreases-loop-alloc l = l.page + 1 - vec_len l.pages
