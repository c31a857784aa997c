-- Device: what is asked of the programs of a run that are loaded.
use Rattle.std.specs.Prelude.{List, [], ◌∷◌}
use Rattle.layout_lp64.specs.declared.layouts.Layouts.{Layouts}
use Rattle.layout_lp64.specs.Tables.{InStep}
use Rattle.cil_tree.specs.declared.globals.CilUnit.{CilUnit}
use Rattle.cil_semantics.specs.Modes.{HaveOneModel}
use Rattle.cil_link.specs.Units.{AreLinked, programs_in}
use Rattle.cil_start.specs.declared.loaded.LoadedUnits.{LoadedUnits}

-- each program's layouts are those of its types
abbrev pub AreInStep : List Layouts → List CilUnit → Type 0
AreInStep [] [] = Unit {0}
AreInStep (y ∷ layouts) (u ∷ units) = InStep y u.graph × AreInStep layouts units
AreInStep [] (u ∷ units) = ⊥
AreInStep (y ∷ layouts) [] = ⊥

-- the programs are linked, each has its layouts, and they have one data model
pub record AreReady (l : LoadedUnits) : Type 0 where
  pub linked : AreLinked l.linked
  pub step : AreInStep l.layouts.now l.linked.units.now
  pub model : HaveOneModel (programs_in l.linked)
