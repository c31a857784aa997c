-- Definition: what units are refused for, and where.
use Rattle.std.specs.Prelude.{◌≡◌, ℕ, ◌<◌, Bool, true, false, length, Option, Some, None}
use Rattle.std.specs.Option.{ForSome}
use Rattle.cil_base.specs.Limits.{text_bytes}
use Rattle.cil_base.specs.declared.kinds.Abi.TheVariants.{Lp64}
use Rattle.cil_base.specs.declared.faults.Fault.{Fault}
use Rattle.cil_base.specs.declared.faults.Fault.TheVariants.{Lexical, Excluded, Syntax, Constraint, Limit, Duplicate, Incompatible}
use Rattle.cil_base.specs.declared.faults.What.TheVariants.{PrintedBytes}
use Rattle.cil_base.specs.declared.faults.Place.{Place}
use Rattle.cil_base.specs.declared.faults.Refusal.{Refusal}
use Rattle.cil_base.specs.declared.faults.Stop.{Stop}
use Rattle.cil_base.specs.declared.faults.Stop.TheVariants.{Refused, Memory}
use Rattle.cil_tree.specs.Tree.{Program}
use Rattle.cil_tree.specs.Text.{Text}
use Rattle.cil_tree.specs.Programs.{IsProgram}

-- the faults of a grammatical unit: an excluded form, a constraint of C11 that is violated, or a limit that is passed
abbrev pub IsUnitFault : Fault → Type 0
IsUnitFault (Excluded feature) = Unit {0}
IsUnitFault (Constraint code) = Unit {0}
IsUnitFault (Limit what) = Unit {0}
IsUnitFault _ = ⊥

-- a refusal of the first unit, at one place, whose file is among so many names
pub record IsUnitRefusal (count : ℕ) (refusal : Refusal) : Type 0 where
  pub fault : IsUnitFault refusal.fault
  pub unit : refusal.at.unit ≡ record { 0 = 0 }
  pub file : refusal.at.file.0 < count
  pub other : refusal.other ≡ None

-- the faults of `merge`
abbrev pub IsMergeFault : Fault → Type 0
IsMergeFault Lexical = Unit {0}
IsMergeFault (Excluded feature) = Unit {0}
IsMergeFault Syntax = Unit {0}
IsMergeFault (Constraint code) = Unit {0}
IsMergeFault (Limit what) = Unit {0}
IsMergeFault Duplicate = Unit {0}
IsMergeFault Incompatible = Unit {0}

-- the faults that are found behind all units: of names with two definitions, of declarations that do not go together (C11 6.2.7p2, 6.9p5), and of a text that is too long
abbrev pub IsLateFault : Fault → Type 0
IsLateFault Duplicate = Unit {0}
IsLateFault Incompatible = Unit {0}
IsLateFault (Limit PrintedBytes) = Unit {0}
IsLateFault _ = ⊥

-- the faults that have a second place
abbrev pub has_two_places : Fault → Bool
has_two_places Syntax = true
has_two_places Duplicate = true
has_two_places Incompatible = true
has_two_places _ = false

-- a second place stands in one of so many units
abbrev pub IsSecond : ℕ → Option Place → Type 0
IsSecond units other = (place : Place) × (other ≡ Some place) × (place.unit.0 < units)

-- a fault of syntax, a second definition and a declaration that does not go with another have a second place, and no other fault has one
abbrev pub HasOther : ℕ → Fault → Option Place → Type 0
HasOther units Syntax other = IsSecond units other
HasOther units Duplicate other = IsSecond units other
HasOther units Incompatible other = IsSecond units other
HasOther units fault other = other ≡ None

-- a refusal of so many units, whose files are among so many names
pub record IsMergeRefusal (units count : ℕ) (refusal : Refusal) : Type 0 where
  pub fault : IsMergeFault refusal.fault
  pub unit : refusal.at.unit.0 < units
  pub file : refusal.at.file.0 < count
  pub other : HasOther units refusal.fault refusal.other
  pub other_file : ForSome refusal.other (λ place. place.file.0 < count)

-- what is said of a refusal
abbrev pub IfRefusal : Stop → (Refusal → Type 0) → Type 0
IfRefusal (Refused refusal) Says = Says refusal
IfRefusal Memory Says = Unit {0}

-- the text of some well-formed program of LP64 is too long to be printed, and the place is that of the first token of the first unit
pub record IsTooLong (at : Place) : Type 0 where
  pub program : Program
  pub formed : IsProgram program
  pub model : program.graph.abi ≡ Lp64
  pub long : text_bytes < length (Text program)
  pub unit : at.unit ≡ record { 0 = 0 }
  pub token : at.token ≡ 0

-- a text is told to be too long only where it is
abbrev pub PrintedIfLong : Refusal → Type 0
PrintedIfLong refusal = refusal.fault ≡ Limit PrintedBytes → IsTooLong refusal.at
