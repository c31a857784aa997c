-- Device: units that link alike start alike: functions that a relation holds of, objects whose bytes say no more, under the same names (C11 5.1.2p1, 6.2.2p2).
use Rattle.std.specs.Prelude.{◌≡◌, ℕ, Bool, false, List, [], ◌∷◌, Option, Some, None}
use Rattle.cil_base.specs.declared.kinds.Abi.{Abi}
use Rattle.byte_mem.specs.declared.values.Value.{Value}
use Rattle.byte_mem.specs.Below.{BelowBytes, BelowValue, BelowMemory}
use Rattle.execution.specs.Calls.{Function, Meaning, Object, Code, Host, Linked, meant}
use Rattle.execution.specs.Linking.{Linkable, linked as linked_in, main_entity}
use Rattle.execution.specs.Runs.{start_state}
use Rattle.execution.specs.Likeness.{Past, Computes, LikeMeaning}
use Rattle.simulation_laws.specs.Changes.{itself}

-- objects of which the first says no more, functions that P relates, one function of the host
abbrev pub AlikeMeaning : (Function → Function → Type 0) → Meaning → Meaning → Type 0
AlikeMeaning P (Object read_only bytes) (Object also others) = (read_only ≡ false → also ≡ false) × BelowBytes itself bytes others
AlikeMeaning P (Object read_only bytes) (Code g) = ⊥
AlikeMeaning P (Object read_only bytes) (Host also) = ⊥
AlikeMeaning P (Code f) (Object also others) = ⊥
AlikeMeaning P (Code f) (Code g) = P f g
AlikeMeaning P (Code f) (Host also) = ⊥
AlikeMeaning P (Host name) (Object also others) = ⊥
AlikeMeaning P (Host name) (Code g) = ⊥
AlikeMeaning P (Host name) (Host also) = also ≡ name

-- both mean something, or neither does
abbrev pub AlikeOption : (Function → Function → Type 0) → Option Meaning → Option Meaning → Type 0
AlikeOption P None None = Unit {0}
AlikeOption P None (Some n) = ⊥
AlikeOption P (Some m) None = ⊥
AlikeOption P (Some m) (Some n) = AlikeMeaning P m n

-- with one linkage and one name, and meanings that are alike whichever entities the unit's own are
pub record AlikeLinkable (P : Function → Function → Type 0) (x y : Linkable) : Type 0 where
  pub internal : y.internal ≡ x.internal
  pub name : y.name ≡ x.name
  pub function : y.function ≡ x.function
  pub tentative : y.tentative ≡ x.tentative
  pub means : (entities : List ℕ) → AlikeOption P (x.means entities) (y.means entities)

abbrev pub AlikeUnit : (Function → Function → Type 0) → List Linkable → List Linkable → Type 0
AlikeUnit P [] [] = Unit {0}
AlikeUnit P [] (y ∷ ys) = ⊥
AlikeUnit P (x ∷ xs) [] = ⊥
AlikeUnit P (x ∷ xs) (y ∷ ys) = AlikeLinkable P x y × AlikeUnit P xs ys

abbrev pub AlikeUnits : (Function → Function → Type 0) → List (List Linkable) → List (List Linkable) → Type 0
AlikeUnits P [] [] = Unit {0}
AlikeUnits P [] (v ∷ vs) = ⊥
AlikeUnits P (u ∷ us) [] = ⊥
AlikeUnits P (u ∷ us) (v ∷ vs) = AlikeUnit P u v × AlikeUnits P us vs

abbrev pub AlikeLinked : (Function → Function → Type 0) → Linked → Linked → Type 0
AlikeLinked P [] [] = Unit {0}
AlikeLinked P [] (n ∷ ns) = ⊥
AlikeLinked P (m ∷ ms) [] = ⊥
AlikeLinked P (m ∷ ms) (n ∷ ns) = AlikeOption P m n × AlikeLinked P ms ns

-- as tentative definitions of several units are common or not
pub record StartAlike (P : Function → Function → Type 0) (common : Bool) (us vs : List (List Linkable)) : Type 0 where
  pub linked : AlikeLinked P (linked_in common us) (linked_in common vs)
  pub main : main_entity vs ≡ main_entity us
  -- what corresponds means the same
  pub named : (v w : Value) → BelowValue itself v w → Computes Past (LikeMeaning P) (meant (linked_in common us) v) (meant (linked_in common vs) w)
  -- the first memory says no more at the start
  pub memory : (abi : Abi) (words : List (List ℕ)) (input : List ℕ) (n : ℕ) → BelowMemory itself (start_state abi (linked_in common us) words input n).memory (start_state abi (linked_in common vs) words input n).memory
