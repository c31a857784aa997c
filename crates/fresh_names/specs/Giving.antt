-- Device: names that are given one by one, where it is remembered for a base from which number on its suffixed names may be new.
use Rattle.std.specs.Prelude.{◌≡◌, ℕ, ◌<◌, ◌≤◌, false, List, [], ◌∷◌, ◌++◌, Some, None}
use Rattle.std.specs.Map.{lookup}
use Rattle.cil_base.specs.declared.numbers.NameId.{NameId}
use Rattle.fresh_names.specs.declared.fresh.Wish.{Wish}
use Rattle.fresh_names.specs.declared.fresh.Fresh.{Fresh}
use Rattle.cil_base.specs.NamePool.{Stays}
use Rattle.fresh_names.specs.Naming.{same_name, is_taken, IsSuffixed, IsSuffixTaken, IsNamed, AreNamed}

-- the number from which suffixed names of a base may be new, as it is remembered
abbrev pub start_of : List (NameId × ℕ) → NameId → ℕ
start_of next base = elim (lookup (same_name base) next) [ None ↦ 0 | Some k ↦ k ]

-- the name is the base with the least number from one on that is not taken
pub record IsLeastFrom (taken : List NameId) (pool : List (List ℕ)) (base : NameId) (start : ℕ) (name : NameId) (k : ℕ) : Type 0 where
  pub name_is : IsSuffixed pool base name k
  pub new : is_taken taken name ≡ false
  pub above : start ≤ k
  pub before : (j : ℕ) → start ≤ j → j < k → IsSuffixTaken taken pool base j

-- below the number that is remembered for a base its suffixed names are all taken
abbrev pub AreTakenBelow : List NameId → List (List ℕ) → List (NameId × ℕ) → Type 0
AreTakenBelow taken pool next = (base : NameId) (j : ℕ) → j < start_of next base → IsSuffixTaken taken pool base j

-- a name is given
pub record Gives (before after : List NameId) (next : List (NameId × ℕ)) (old new : List (List ℕ)) (wish : Wish) (name : NameId) : Type 0 where
  pub named : IsNamed before new wish name
  pub taken : after ≡ before ++ name ∷ []
  pub stays : Stays old new
  pub below : AreTakenBelow after new next

-- names are given one after another
pub record GivesAll (before after : List NameId) (next : List (NameId × ℕ)) (old new : List (List ℕ)) (wishes : List Wish) (names : List NameId) : Type 0 where
  pub named : AreNamed before new wishes names
  pub taken : after ≡ before ++ names
  pub stays : Stays old new
  pub below : AreTakenBelow after new next

abbrev pub IsReady : Fresh → List (List ℕ) → Type 0
IsReady f pool = AreTakenBelow f.taken.keys pool f.next.entries
