use Rattle.std.proofs.Common.{◌≡◌, ℕ, ◌+◌, ◌-◌, vec_len}
use Rattle.byte_mem.specs.Places.{place_at}
use Rattle.byte_mem.proofs.slots.grow.Given as goal

abbrev pub invariant-loop-places : goal.invariant-loop-places
invariant-loop-places l = (k : ℕ) → place_at l.places.items k ≡ place_at l.initial.places.items k

abbrev pub decreases-loop-places : goal.decreases-loop-places
decreases-loop-places l = l.i + 1 - vec_len l.places
