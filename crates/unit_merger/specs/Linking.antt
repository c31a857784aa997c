-- Definition: the program that units become, what is said of their links, and of their refusals behind all units (C11 5.1.1.1, 6.2.2p2, 6.2.7p2, 6.9p5).
use Rattle.std.specs.Prelude.{◌≡◌, ◌<◌, ℕ, Bool, List, length, Some, None, IfSome, Result, Ok, Err, slice_get}
use Rattle.cil_base.specs.Limits.{text_bytes}
use Rattle.cil_base.specs.NamePool.{Stays}
use Rattle.cil_base.specs.declared.numbers.NameId.{NameId}
use Rattle.cil_base.specs.declared.kinds.Abi.TheVariants.{Lp64}
use Rattle.cil_base.specs.declared.faults.Fault.{Fault}
use Rattle.cil_base.specs.declared.faults.Fault.TheVariants.{Limit, Duplicate, Incompatible}
use Rattle.cil_base.specs.declared.faults.What.TheVariants.{PrintedBytes}
use Rattle.cil_base.specs.declared.faults.Place.{Place}
use Rattle.cil_base.specs.declared.faults.Refusal.{Refusal}
use Rattle.cil_base.specs.declared.faults.Stop.{Stop}
use Rattle.cil_base.specs.declared.faults.Stop.TheVariants.{Refused, Memory}
use Rattle.cil_tree.specs.declared.globals.CilUnit.{CilUnit}
use Rattle.cil_tree.specs.View.{program_of}
use Rattle.cil_tree.specs.Text.{Text}
use Rattle.cil_tree.specs.Programs.{IsProgram, IsTextOf}
use Rattle.link_names.specs.declared.units.Fronted.{Fronted}
use Rattle.link_names.specs.Linking.{Linked, declared_from, grouped, first_twice}
use Rattle.unit_lower.specs.Externals.{HasExternals}
use Rattle.unit_front.specs.Refusals.{Source}
use Rattle.unit_front.specs.Identifiers.{IsIdentifier, DeclaresIn}
use Rattle.cil_merge.specs.Merging.{graphs_of, Correspond, IsRefusal}
use Rattle.cil_merge.specs.Merged.{IsMerged}
use Rattle.merge_refusals.specs.Refusals.{IsTooLong}
use Rattle.unit_merger.specs.Units.{IsUnitOf, IsPlaceAmong}

-- the CIL program of the unit of a number: it has the external names of a program, each declared and defined at identifiers of that unit
pub record IsFrontedAt (units files pool : List (List ℕ)) (i : ℕ) (f : Fronted) : Type 0 where
  pub source : Source
  pub number : source.unit.0 ≡ i
  pub stands : IsUnitOf units files source
  pub externals : HasExternals f
  pub declared : DeclaresIn source pool f

-- the CIL programs of the first units, so many, each of the unit of its number
pub record AreFronted (units files pool : List (List ℕ)) (count : ℕ) (fs : List Fronted) : Type 0 where
  pub so_many : length fs ≡ count
  pub each : (i : ℕ) (f : Fronted) → slice_get fs i ≡ Some f → IsFrontedAt units files pool i f

-- the external names of programs, each with all that is said of it
abbrev pub names_in : List Fronted → List Linked
names_in fs = grouped (declared_from 0 fs)

-- a place is that of an identifier of one of the units; the names of the unit's tokens stay in the pool
pub record IsNamedAmong (units files pool : List (List ℕ)) (name : NameId) (place : Place) : Type 0 where
  pub among : IsPlaceAmong units files pool place
  pub stays : Stays among.are.names pool
  pub named : IsIdentifier among.tokens name place

-- all places of a refusal are those of one identifier
pub record AreNamedAmong (units files pool : List (List ℕ)) (refusal : Refusal) : Type 0 where
  pub name : NameId
  pub at : IsNamedAmong units files pool name refusal.at
  pub other : IfSome refusal.other (IsNamedAmong units files pool name)

-- no name is defined twice in the CIL programs of the units, and the declarations of each name correspond; names are the texts of all names then, which stay in the pool
pub record AreLinked (common : Bool) (units files pool : List (List ℕ)) : Type 0 where
  pub fronted : List Fronted
  pub names : List (List ℕ)
  pub are : AreFronted units files names (length units) fronted
  pub stays : Stays names pool
  pub once : first_twice common (names_in fronted) ≡ None
  pub correspond : Correspond names (graphs_of fronted) (names_in fronted)

-- a program of LP64 to which linked CIL programs of the units are merged in their order; the texts of all names behind that stay in the pool
pub record IsProgramOf (common : Bool) (units files pool : List (List ℕ)) (program : CilUnit) : Type 0 where
  pub linked : AreLinked common units files pool
  pub named : List (List ℕ)
  pub behind : Stays linked.names named
  pub stays : Stays named pool
  pub merged : IsMerged common linked.names named linked.fronted program
  pub model : program.graph.abi ≡ Lp64

-- the bytes are the text of such a program
pub record IsTextOfUnits (common : Bool) (units files pool : List (List ℕ)) (bytes : List ℕ) : Type 0 where
  pub program : CilUnit
  pub of : IsProgramOf common units files pool program
  pub text : IsTextOf bytes (program_of pool program)

-- the text of such a program is too long; names are the texts of all names when it is measured, which stay in the pool
pub record AreLong (common : Bool) (units files pool : List (List ℕ)) : Type 0 where
  pub names : List (List ℕ)
  pub stays : Stays names pool
  pub program : CilUnit
  pub of : IsProgramOf common units files names program
  pub formed : IsProgram (program_of names program)
  pub long : text_bytes < length (Text (program_of names program))

-- such a text is too long, and the place is that of the first token of the first unit
pub record AreLongAt (common : Bool) (units files pool : List (List ℕ)) (at : Place) : Type 0 where
  pub long : AreLong common units files pool
  pub first : IsTooLong at

-- in the CIL programs of the units the first name is refused that is defined twice; or no name is, and the first link is refused that lets the links up to it correspond in no way. Both places are those of one identifier
pub record IsUnlinked (common : Bool) (units files pool : List (List ℕ)) (refusal : Refusal) : Type 0 where
  pub fronted : List Fronted
  pub names : List (List ℕ)
  pub are : AreFronted units files names (length units) fronted
  pub stays : Stays names pool
  pub refused : IsRefusal (first_twice common (names_in fronted)) names (graphs_of fronted) (names_in fronted) refusal
  pub named : AreNamedAmong units files pool refusal

-- what a fault that is found in linking says
abbrev pub LinkSays : Bool → List (List ℕ) → List (List ℕ) → List (List ℕ) → Refusal → Fault → Type 0
LinkSays common units files pool refusal Duplicate = IsUnlinked common units files pool refusal
LinkSays common units files pool refusal Incompatible = IsUnlinked common units files pool refusal
LinkSays common units files pool refusal _ = Unit {0}

-- a text is told to be too long only where that of a program is to which the units are merged, at the first token of the first unit
abbrev pub LateSays : Bool → List (List ℕ) → List (List ℕ) → List (List ℕ) → Refusal → Fault → Type 0
LateSays common units files pool refusal (Limit PrintedBytes) = AreLongAt common units files pool refusal.at
LateSays common units files pool refusal fault = LinkSays common units files pool refusal fault

-- what an answer says of the links
abbrev pub SaysOfLinks : {A : Type 0} → Bool → List (List ℕ) → List (List ℕ) → List (List ℕ) → Result A Stop → Type 0
SaysOfLinks common units files pool (Ok a) = AreLinked common units files pool
SaysOfLinks common units files pool (Err (Refused refusal)) = LateSays common units files pool refusal refusal.fault
SaysOfLinks common units files pool (Err Memory) = Unit {0}

-- what it says before a program is printed
abbrev pub SaysFirst : {A : Type 0} → Bool → List (List ℕ) → List (List ℕ) → List (List ℕ) → Result A Stop → Type 0
SaysFirst common units files pool (Ok a) = AreLinked common units files pool
SaysFirst common units files pool (Err (Refused refusal)) = LinkSays common units files pool refusal refusal.fault
SaysFirst common units files pool (Err Memory) = Unit {0}
