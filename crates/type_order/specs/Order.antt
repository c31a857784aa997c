-- Definition: numbers in an order in which each stands once all that it waits for stands before it, of those that may stand the least one first (own).
use Rattle.std.specs.Prelude.{◌≡◌, ◌⊎◌, ℕ, ◌<◌, ◌≤◌, Bool, true, false, List, [], ◌∷◌, Some, None, Vec, take, slice_get, slice_set}
use Rattle.std.specs.declared.alloc.Global.{Global}

-- a list has a number
abbrev pub IsIn : List ℕ → ℕ → Type 0
IsIn xs x = (i : ℕ) × (slice_get xs i ≡ Some x)

-- what each number waits for
abbrev pub needed_of : List (Vec ℕ Global) → ℕ → List ℕ
needed_of needs x = elim (slice_get needs x) [ None ↦ [] | Some v ↦ v.items ]

-- what has come once these came too
abbrev pub marked : List Bool → List ℕ → List Bool
marked done [] = done
marked done (x ∷ xs) = marked (slice_set done x true) xs

module _ (needs : ℕ → List ℕ) where
  -- all that a number waits for has come
  abbrev pub IsReady : List Bool → ℕ → Type 0
  IsReady done x = (w : ℕ) → IsIn (needs x) w → slice_get done w ≡ Some true

  -- x has not come and may; where it is one of the first numbers, which are listed, all others that may are listed too and greater
  pub record IsNext (listed : ℕ) (done : List Bool) (x : ℕ) : Type 0 where
    pub absent : slice_get done x ≡ Some false
    pub ready : IsReady done x
    pub least : (y : ℕ) → slice_get done y ≡ Some false → IsReady done y → (listed ≤ x) ⊎ ((x ≤ y) × (y < listed))

  -- each number of the order comes next behind those before it, and behind them all nothing more may come
  pub record IsLeastFirst (listed : ℕ) (done : List Bool) (order : List ℕ) : Type 0 where
    pub each : (k x : ℕ) → slice_get order k ≡ Some x → IsNext listed (marked done (take k order)) x
    pub all : (x : ℕ) → slice_get (marked done order) x ≡ Some false → ¬ (IsReady (marked done order) x)
