-- Definition: no two case constants of a switch are equal once they are converted, and it has one default label at most (C11 6.8.4.2p3, p5).
use Rattle.std.specs.Prelude.{ℤ, Bool, not, List, Option, Some, None, if◌then◌else◌}
use Rattle.std.specs.List.{list_any}
use Rattle.std.specs.Ordering.{int_eq}
use Rattle.cil_base.specs.declared.kinds.IntKind.{IntKind}
use Rattle.cil_base.specs.Integer.{wrapped}

-- no label before has the value
abbrev pub is_new : List ℤ → ℤ → Bool
is_new before v = not (list_any (int_eq v) before)

-- the value of a case label of a switch of a kind, behind labels with these values; none where one of them has it
abbrev pub case_value : IntKind → List ℤ → ℤ → Option ℤ
case_value kind before v = if is_new before (wrapped kind v) then Some (wrapped kind v) else None
