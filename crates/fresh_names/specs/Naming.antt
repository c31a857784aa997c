-- Definition: the names that things get which ask for one in a name space (C11 6.2.3): distinct names, with a suffix where one is needed (own).
use Rattle.std.specs.Prelude.{◌≡◌, ℕ, ◌<◌, Bool, true, false, if◌then◌else◌, List, [], ◌∷◌, ◌++◌, Some, nat_eq, codes, slice_get}
use Rattle.std.specs.List.{list_any}
use Rattle.std.specs.Fmt.{decimal}
use Rattle.cil_base.specs.declared.numbers.NameId.{NameId}
use Rattle.fresh_names.specs.declared.fresh.Wish.{Wish}
use Rattle.fresh_names.specs.declared.fresh.Wish.TheVariants.{Asked, Made}

abbrev pub same_name : NameId → NameId → Bool
same_name a b = nat_eq a.0 b.0

abbrev pub is_taken : List NameId → NameId → Bool
is_taken taken n = list_any (same_name n) taken

-- the names that are taken once one is
abbrev pub with_name : List NameId → NameId → List NameId
with_name taken n = if is_taken taken n then taken else taken ++ n ∷ []

-- the names that are taken once some are
abbrev pub with_names : List NameId → List NameId → List NameId
with_names taken [] = taken
with_names taken (n ∷ ns) = with_names (with_name taken n) ns

-- a thing that has a name asks for it, but one under the base of made names gets a made name
abbrev pub wish_of : NameId → NameId → Wish
wish_of base name = if same_name name base then Made base else Asked name

-- a text with the suffix `___` and a number
abbrev pub suffixed_text : List ℕ → ℕ → List ℕ
suffixed_text stem k = (stem ++ codes "___") ++ decimal k

-- the name is the base with a number
abbrev pub IsSuffixed : List (List ℕ) → NameId → NameId → ℕ → Type 0
IsSuffixed pool base name k = (stem : List ℕ) × (slice_get pool base.0 ≡ Some stem) × (slice_get pool name.0 ≡ Some (suffixed_text stem k))

-- the base with a number is taken
abbrev pub IsSuffixTaken : List NameId → List (List ℕ) → NameId → ℕ → Type 0
IsSuffixTaken taken pool base k = (name : NameId) × IsSuffixed pool base name k × (is_taken taken name ≡ true)

-- the name is the base with the least number with which it is not taken
pub record IsLeast (taken : List NameId) (pool : List (List ℕ)) (base name : NameId) (k : ℕ) : Type 0 where
  pub name_is : IsSuffixed pool base name k
  pub new : is_taken taken name ≡ false
  pub least : (j : ℕ) → j < k → IsSuffixTaken taken pool base j

-- a name that is asked for is given where it is not taken, and else with the least number
abbrev pub IsAnswer : Bool → List NameId → List (List ℕ) → NameId → NameId → Type 0
IsAnswer true taken pool asked name = (k : ℕ) × IsLeast taken pool asked name k
IsAnswer false taken pool asked name = name ≡ asked

-- the name that a thing gets where some are taken; a made name always has a number
abbrev pub IsNamed : List NameId → List (List ℕ) → Wish → NameId → Type 0
IsNamed taken pool (Asked asked) name = IsAnswer (is_taken taken asked) taken pool asked name
IsNamed taken pool (Made base) name = (k : ℕ) × IsLeast taken pool base name k

-- the names that things get one after another; each is taken from then on
abbrev pub AreNamed : List NameId → List (List ℕ) → List Wish → List NameId → Type 0
AreNamed taken pool [] [] = Unit {0}
AreNamed taken pool [] (n ∷ ns) = ⊥
AreNamed taken pool (w ∷ wishes) [] = ⊥
AreNamed taken pool (w ∷ wishes) (n ∷ ns) = IsNamed taken pool w n × AreNamed (taken ++ n ∷ []) pool wishes ns

-- names that are not taken, and none of which is given twice
abbrev pub AreNew : List NameId → List NameId → Type 0
AreNew taken [] = Unit {0}
AreNew taken (n ∷ ns) = (is_taken taken n ≡ false) × AreNew (taken ++ n ∷ []) ns
