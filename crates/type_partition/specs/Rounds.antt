-- Device: classes of aggregates that are split by the numbers of their parts.
use Rattle.std.specs.Prelude.{◌≡◌, ◌≢◌, ◌⊎◌, ℕ, ◌<◌, ◌≤◌, Bool, true, List}
use Rattle.type_things.specs.Things.{Thing}
use Rattle.type_partition.specs.Partition.{Twins}

-- classes of the first m numbers hold what a relation holds
abbrev pub IsCoarse : ℕ → (ℕ → ℕ → Bool) → (ℕ → ℕ) → Type 0
IsCoarse m R c = (x y : ℕ) → x < m → y < m → R x y ≡ true → c x ≡ c y

module _ {H L : Type 0} (ts : List (Thing H L)) (m : ℕ) where
  -- numbers of all things, once aggregates have classes
  pub record AreRead (c num : ℕ → ℕ) : Type 0 where
    pub classes : (x : ℕ) → x < m → num x ≡ c x
    pub apart : (x y : ℕ) → x < m → m ≤ y → num x ≢ num y
    pub alike : (x y : ℕ) → m ≤ x → m ≤ y → num x ≡ num y → (x ≡ y) ⊎ Twins ts num x y
    pub twins : (x y : ℕ) → m ≤ x → m ≤ y → Twins ts num x y → num x ≡ num y

  -- classes that are split by these numbers
  pub record AreSplit (num d : ℕ → ℕ) : Type 0 where
    pub alike : (x y : ℕ) → x < m → y < m → d x ≡ d y → (x ≡ y) ⊎ Twins ts num x y
    pub twins : (x y : ℕ) → x < m → y < m → Twins ts num x y → d x ≡ d y
