-- Definition: a switch whose labels are walked: its kind, the values of its case labels in the order of the text, and whether it has a default label (C11 6.8.4.2).
use Rattle.std.specs.Prelude.{◌≡◌, ℤ, Bool, List}
use Rattle.cil_base.specs.declared.kinds.IntKind.{IntKind}
use Rattle.case_labels.specs.declared.switches.Switch.{Switch}

pub record IsSwitch (of : IntKind) (cases : List ℤ) (with_default : Bool) (s : Switch) : Type 0 where
  pub kind : s.kind ≡ of
  pub values : s.values.keys ≡ cases
  pub fallback : s.fallback ≡ with_default
