-- Device: the number of a unit, and that of its file's name.
use Rattle.std.specs.Prelude.{◌≡◌, ℕ, List, Some, slice_get}
use Rattle.cil_base.specs.declared.numbers.UnitNo.{UnitNo}
use Rattle.cil_base.specs.declared.numbers.NameId.{NameId}

-- the unit and the name of its file have that number
pub record IsNamed (files : List (List ℕ)) (i : ℕ) (unit : UnitNo) (file : NameId) (names : List (List ℕ)) : Type 0 where
  pub number : unit.0 ≡ i
  pub name : List ℕ
  pub in_files : slice_get files i ≡ Some name
  pub in_names : slice_get names file.0 ≡ Some name
