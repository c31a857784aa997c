-- Device: units that get their names one by one.
use Rattle.std.specs.Prelude.{◌≡◌, ℕ, suc, List, [], ◌∷◌, Some, slice_get}
use Rattle.cil_base.specs.declared.names.Bases.{Bases}
use Rattle.cil_base.specs.declared.numbers.NameId.{NameId}
use Rattle.link_names.specs.declared.units.Fronted.{Fronted}
use Rattle.static_rename.specs.declared.files.Filed.{Filed}
use Rattle.static_rename.specs.Tags.{NamedClasses}
use Rattle.static_rename.specs.Renamed.{IsNamedUnit}

-- a unit has the names that were found for it
abbrev pub NamesUnit : NamedClasses → List NameId → List (List ℕ) → Bases → List Filed → ℕ → Fronted → Fronted → Type 0
NamesUnit t file pool bases filed u old new = (f : Filed) → slice_get filed u ≡ Some f → IsNamedUnit t u file pool bases f.things.items f.names.items old new

-- units have the names that were found for them; the first of them has this number
abbrev pub AreUnits : NamedClasses → ℕ → List NameId → List (List ℕ) → Bases → List Filed → List Fronted → List Fronted → Type 0
AreUnits t u file pool bases [] [] [] = Unit {0}
AreUnits t u file pool bases (f ∷ filed) (x ∷ old) (y ∷ new) = IsNamedUnit t u file pool bases f.things.items f.names.items x y × AreUnits t (suc u) file pool bases filed old new
AreUnits t u file pool bases _ _ _ = ⊥
