-- Definition: what a translation unit is refused for behind its grammar, and where: a form that is left out (own), a constraint of C11, or a limit (own), at a token of the unit or at its end.
use Rattle.std.specs.Prelude.{◌≡◌, ℕ, Option, Some, None}
use Rattle.cil_base.specs.declared.faults.Feature.TheVariants.{BitField, VariableArray, IdentifierList, ExternalInline, VariadicDefinition, FlexibleInit}
use Rattle.cil_base.specs.declared.faults.What.TheVariants.{ObjectSize, Locals, Scalars}
use Rattle.cil_base.specs.declared.faults.Fault.{Fault}
use Rattle.cil_base.specs.declared.faults.Fault.TheVariants.{Excluded, Constraint, Limit}
use Rattle.cil_base.specs.declared.faults.Place.{Place}
use Rattle.cil_base.specs.declared.faults.Refusal.{Refusal}
use Rattle.cil_base.specs.declared.faults.Stop.{Stop}
use Rattle.cil_base.specs.declared.faults.Stop.TheVariants.{Refused, Memory}
use Rattle.c_lexer.specs.Lexed.{Lexed, place_at}

-- the faults that are found behind the grammar
abbrev pub IsCheckedFault : Fault → Type 0
IsCheckedFault (Excluded BitField) = Unit {0}
IsCheckedFault (Excluded VariableArray) = Unit {0}
IsCheckedFault (Excluded IdentifierList) = Unit {0}
IsCheckedFault (Excluded ExternalInline) = Unit {0}
IsCheckedFault (Excluded VariadicDefinition) = Unit {0}
IsCheckedFault (Excluded FlexibleInit) = Unit {0}
IsCheckedFault (Constraint code) = Unit {0}
IsCheckedFault (Limit ObjectSize) = Unit {0}
IsCheckedFault (Limit Locals) = Unit {0}
IsCheckedFault (Limit Scalars) = Unit {0}
IsCheckedFault _ = ⊥

-- a place is that of a token, with its presumed file and line, or that of the unit's end
abbrev pub IsPlaceIn : Lexed → Place → Type 0
IsPlaceIn tokens place = (i : ℕ) × (place_at tokens i ≡ Some place)

-- what is said of a refusal
abbrev pub IfRefusal : Stop → (Refusal → Type 0) → Type 0
IfRefusal (Refused refusal) Fits = Fits refusal
IfRefusal Memory Fits = Unit {0}

-- a refusal of a unit of these tokens, at one place
pub record IsCheckedRefusal (tokens : Lexed) (refusal : Refusal) : Type 0 where
  pub fault : IsCheckedFault refusal.fault
  pub at : IsPlaceIn tokens refusal.at
  pub other : refusal.other ≡ None
