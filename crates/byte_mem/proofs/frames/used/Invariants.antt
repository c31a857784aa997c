use Rattle.std.proofs.Common.{◌≡◌, ℕ, ◌≤◌, length, []}
use Rattle.byte_mem.specs.Layers.{slots_at}
use Rattle.byte_mem.proofs.frames.used.Given as goal

abbrev pub invariant-loop-last : goal.invariant-loop-last
invariant-loop-last l = (l.last ≤ length l.frames) × ((k : ℕ) → l.last ≤ k → slots_at l.frames k ≡ [])

abbrev pub decreases-loop-last : goal.decreases-loop-last
decreases-loop-last l = l.last
