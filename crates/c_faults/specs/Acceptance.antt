-- Definition: what a list of translation units of bytes is refused for, and which lists are accepted (own, over C11 5.1.1.2p1 and 5.1.1.3p1): units in order, and behind all of them what only several units show.
use Rattle.std.specs.Prelude.{◌≡◌, ℕ, ◌+◌, List, [], ◌∷◌, ◌++◌, length, Some, None}
use Rattle.cil_base.specs.declared.faults.Place.{Place}
use Rattle.cil_base.specs.declared.faults.Refusal.{Refusal}
use Rattle.cil_base.specs.declared.kinds.Abi.{Abi}
use Rattle.cil_base.specs.declared.kinds.Mode.{Mode}
use Rattle.c_faults.specs.Reading.{Source, Read, IsRead, IsUnitFault}
use Rattle.c_faults.specs.Definitions.{first_twice, duplicate}

-- all units are read, the numbers of names going on from one to the next; so many bytes are before the first
abbrev pub AreRead : Abi → ℕ → List (List ℕ) → List Source → List Read → Type 0
AreRead abi total names [] [] = Unit {0}
AreRead abi total names [] (r ∷ rs) = ⊥
AreRead abi total names (u ∷ us) [] = ⊥
AreRead abi total names (u ∷ us) (r ∷ rs) = IsRead abi total names u r × AreRead abi (total + length u.bytes) r.names us rs

-- the bytes of units
abbrev pub total_of : List Source → ℕ
total_of [] = 0
total_of (u ∷ us) = length u.bytes + total_of us

-- the names that have numbers behind units
abbrev pub names_behind : List (List ℕ) → List Read → List (List ℕ)
names_behind names [] = names
names_behind names (r ∷ rs) = names_behind r.names rs

-- which declarations of one name in two units do not go together (6.2.7p2), and with which refusal
abbrev pub Clashes : Type 1
Clashes = List Read → Refusal → Type 0

-- the refusal that comes first: that of the first unit which has a fault; then the first name with two definitions, then the first declarations that do not go together
pub data FaultAt (Clash : Clashes) (mode : Mode) (names : List (List ℕ)) (units : List Source) : Refusal → Type 0 where
  InUnit : (refusal : Refusal) (before behind : List Source) (u : Source) (reads : List Read)
      → units ≡ before ++ (u ∷ behind) → AreRead mode.abi 0 names before reads → IsUnitFault mode.abi (total_of before) (names_behind names reads) u refusal → FaultAt Clash mode names units refusal
  Twice : (places : Place × Place) (reads : List Read) → AreRead mode.abi 0 names units reads → first_twice mode.common reads ≡ Some places → FaultAt Clash mode names units (duplicate places)
  Apart : (refusal : Refusal) (reads : List Read)
      → AreRead mode.abi 0 names units reads → first_twice mode.common reads ≡ None → Clash reads refusal → FaultAt Clash mode names units refusal

-- nothing is refused
pub record Accepted (Clash : Clashes) (mode : Mode) (names : List (List ℕ)) (units : List Source) : Type 0 where
  pub reads : List Read
  pub read : AreRead mode.abi 0 names units reads
  pub once : first_twice mode.common reads ≡ None
  pub together : (refusal : Refusal) → Clash reads refusal → ⊥
