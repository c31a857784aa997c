use Rattle.std.proofs.Common.{◌≡◌, ℕ, ◌≤◌, length, None}
use Rattle.byte_mem.specs.Places.{place_at}
use Rattle.byte_mem.proofs.slots.used.Given as goal

abbrev pub invariant-loop-last : goal.invariant-loop-last
invariant-loop-last l = (l.last ≤ length l.places) × ((k : ℕ) → l.last ≤ k → place_at l.places k ≡ None)

abbrev pub decreases-loop-last : goal.decreases-loop-last
decreases-loop-last l = l.last
