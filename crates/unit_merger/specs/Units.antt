-- Definition: units of several files, and what they are refused for, each in order (own).
use Rattle.std.specs.Prelude.{◌≡◌, ℕ, ◌<◌, List, length, Option, Some, None, IfSome, slice_get}
use Rattle.cil_base.specs.declared.numbers.NameId.{NameId}
use Rattle.cil_base.specs.declared.faults.Fault.TheVariants.{Limit}
use Rattle.cil_base.specs.declared.faults.What.{What}
use Rattle.cil_base.specs.declared.faults.What.TheVariants.{PrintedBytes}
use Rattle.cil_base.specs.declared.faults.Place.{Place}
use Rattle.cil_base.specs.declared.faults.Refusal.{Refusal}
use Rattle.c_lexer.specs.Lexed.{Lexed, place_at, place_of}
use Rattle.cast_insert.specs.Refusals.{IsPlaceIn, IsCheckedRefusal}
use Rattle.unit_front.specs.Refusals.{Source, HasTokens, IsGrammatical, KeepsFile, IsFrontRefusal}
use Rattle.merge_refusals.specs.Refusals.{IsLateFault, IsTooLong}
use Rattle.unit_merger.specs.Programs.{IsUnitLong}

-- the unit stands among units of these bytes, whose files have these names, at its number
pub record IsUnitOf (units files : List (List ℕ)) (s : Source) : Type 0 where
  pub bytes : slice_get units s.unit.0 ≡ Some s.bytes
  pub name : List ℕ
  pub file : slice_get files s.unit.0 ≡ Some name
  pub named : slice_get s.names s.file.0 ≡ Some name

-- the unit of a number is grammatical (C11 6.9)
pub record IsGrammaticalAt (units files : List (List ℕ)) (i : ℕ) : Type 0 where
  pub source : Source
  pub number : source.unit.0 ≡ i
  pub stands : IsUnitOf units files source
  pub grammatical : IsGrammatical source

-- so are the first units, so many
abbrev pub AreGrammatical : List (List ℕ) → List (List ℕ) → ℕ → Type 0
AreGrammatical units files count = (i : ℕ) → i < count → IsGrammaticalAt units files i

-- a place in one of the units: that of a token of it, or of its end, whose file has in the pool the text that it has among the names of the unit's tokens
pub record IsPlaceAmong (units files pool : List (List ℕ)) (place : Place) : Type 0 where
  pub source : Source
  pub stands : IsUnitOf units files source
  pub tokens : Lexed
  pub are : HasTokens source tokens
  pub at : IsPlaceIn tokens place
  pub file : KeepsFile are.names pool place

-- so is each place of a refusal
pub record ArePlacesAmong (units files pool : List (List ℕ)) (refusal : Refusal) : Type 0 where
  pub at : IsPlaceAmong units files pool refusal.at
  pub other : IfSome refusal.other (IsPlaceAmong units files pool)

-- the refusal of a unit whose bytes pass a limit
abbrev pub over_limit : What → ℕ → NameId → Refusal
over_limit limit unit file = record { fault = Limit limit; at = place_of (record { 0 = unit }) 0 file 1; other = None }

-- why units are refused, behind which one may stand that passes a limit, with the pool that the files of the places are numbers in then: the first that has a fault of its own has that one; or all are grammatical, and one passes the limit; or there is none, and the fault is found behind all
pub data IsRefusedAmong (units : List (List ℕ)) (over : Option What) (files pool : List (List ℕ)) : Refusal → Type 0 where
  InUnit : (refusal : Refusal) (s : Source) → IsUnitOf units files s → AreGrammatical units files s.unit.0 → IsFrontRefusal s pool refusal → IsRefusedAmong units over files pool refusal
  Over : (limit : What) (file : NameId) (name : List ℕ) → over ≡ Some limit → AreGrammatical units files (length units) → slice_get files (length units) ≡ Some name → slice_get pool file.0 ≡ Some name → IsRefusedAmong units over files pool (over_limit limit (length units) file)
  Behind : (refusal : Refusal) → over ≡ None → AreGrammatical units files (length units) → IsLateFault refusal.fault → ArePlacesAmong units files pool refusal → IsRefusedAmong units over files pool refusal

-- units that become a program: each is grammatical, and none passes a limit
pub record AreMerged (units : List (List ℕ)) (over : Option What) (files : List (List ℕ)) : Type 0 where
  pub none : over ≡ None
  pub grammatical : AreGrammatical units files (length units)

-- why a grammatical unit of these tokens, which have these names, is refused that is merged alone: as its walk says, or for the length of its program's text
pub data IsUnitCause (t : Lexed) (names : List (List ℕ)) : Refusal → Type 0 where
  OfCheck : (refusal : Refusal) → IsCheckedRefusal t refusal → IsUnitCause t names refusal
  OfLength : (refusal : Refusal) → refusal.fault ≡ Limit PrintedBytes → IsUnitLong t names → IsTooLong refusal.at → place_at t 0 ≡ Some refusal.at → refusal.other ≡ None → IsUnitCause t names refusal
