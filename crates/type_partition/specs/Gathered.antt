-- Device: things of one number are joined, and the classes that come.
use Rattle.std.specs.Prelude.{◌≡◌, ◌⊎◌, ℕ, ◌<◌, ◌≤◌, List, length, get_or}
use Rattle.type_partition.specs.declared.gathering.Found.{Found}
use Rattle.type_things.specs.Things.{Thing}
use Rattle.type_joins.specs.Forests.{joined}
use Rattle.type_partition.specs.Partition.{ArePartition}
use Rattle.type_partition.specs.Keys.{Distinct}

-- no number stands twice, and each has a thing
pub record IsFound (f : Found) : Type 0 where
  pub once : Distinct f.numbers.keys
  pub count : length f.things.items ≡ length f.numbers.keys

-- the roots once two things are joined: as before, or the root of one of the two leads to a lesser one of the other
abbrev pub IsUnion : ℕ → ℕ → (ℕ → ℕ) → (ℕ → ℕ) → Type 0
IsUnion x y r q =
    ((r x ≡ r y) × ((z : ℕ) → q z ≡ r z))
    ⊎ ((r x < r y) × ((z : ℕ) → q z ≡ joined (r x) (r y) r z))
    ⊎ ((r y < r x) × ((z : ℕ) → q z ≡ joined (r y) (r x) r z))

-- the classes of things by their least members
pub record AreGathered {H L : Type 0} (ts : List (Thing H L)) (done : List (ℕ × ℕ)) (classes : List ℕ) : Type 0 where
  pub by_class : ℕ → ℕ
  pub partition : ArePartition ts done by_class
  pub least : (x : ℕ) → by_class (by_class x) ≡ by_class x
  pub below : (x : ℕ) → by_class x ≤ x
  pub listed : (x : ℕ) → x < length classes → get_or classes x x ≡ by_class x
