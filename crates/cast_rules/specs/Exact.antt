-- Definition: an operator is refused by its first violated constraint, and where there is none for a type that is too big alone.
use Rattle.std.specs.Prelude.{◌≡◌, Result, Err, IfErr, Option, Some, None, ◌⊎◌}
use Rattle.cil_base.specs.declared.faults.Code.{Code}
use Rattle.cil_base.specs.declared.faults.Fault.TheVariants.{Constraint, Limit}
use Rattle.cil_base.specs.declared.faults.What.TheVariants.{ObjectSize}
use Rattle.cil_base.specs.declared.faults.RuleStop.{RuleStop}
use Rattle.cil_base.specs.declared.faults.RuleStop.TheVariants as stop

-- no constraint is violated: a type is too big, or memory is wanting
abbrev pub IsNoConstraint : RuleStop → Type 0
IsNoConstraint s = (s ≡ stop.Memory) ⊎ (s ≡ stop.Bad (Limit ObjectSize))

abbrev pub Refuses : {T : Type 0} → Option Code → Result T RuleStop → Type 0
Refuses None r = IfErr r IsNoConstraint
Refuses (Some code) r = r ≡ Err (stop.Bad (Constraint code))
