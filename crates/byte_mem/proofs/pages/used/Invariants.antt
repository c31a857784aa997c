use Rattle.std.proofs.Common.{◌≡◌, ℕ, ◌≤◌, length, []}
use Rattle.byte_mem.specs.Layers.{page_at}
use Rattle.byte_mem.proofs.pages.used.Given as goal

abbrev pub invariant-loop-last : goal.invariant-loop-last
invariant-loop-last l = (l.last ≤ length l.pages) × ((k : ℕ) → l.last ≤ k → page_at l.pages k ≡ [])

abbrev pub decreases-loop-last : goal.decreases-loop-last
decreases-loop-last l = l.last
