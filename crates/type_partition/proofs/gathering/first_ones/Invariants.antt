use Rattle.std.proofs.Common.{◌≡◌, ◌<◌, ℕ, Some, length, get_or, slice_get}
use Rattle.type_partition.specs.Keys.{num_at}
use Rattle.type_partition.specs.Gathered.{IsFound}
use Rattle.type_partition.proofs.gathering.first_ones.Given as goal

abbrev pub invariant-loop-x : goal.invariant-loop-x
invariant-loop-x l = record {
  found : IsFound l.found;
  count : length l.all.items ≡ l.x;
  things : (i k y : ℕ) → slice_get l.found.numbers.keys i ≡ Some k → slice_get l.found.things.items i ≡ Some y → num_at l.numbers y ≡ k;
  firsts : (x : ℕ) → x < l.x → (i : ℕ) × (slice_get l.found.numbers.keys i ≡ Some (num_at l.numbers x)) × (slice_get l.found.things.items i ≡ Some (get_or l.all.items x x));
}
