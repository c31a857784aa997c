-- Definition: why types stop, as a rule's refusal: a type that is too big passes a limit.
use Rattle.cil_base.specs.declared.faults.Fault.TheVariants.{Limit}
use Rattle.cil_base.specs.declared.faults.What.TheVariants.{ObjectSize}
use Rattle.cil_base.specs.declared.faults.RuleStop.{RuleStop}
use Rattle.cil_base.specs.declared.faults.RuleStop.TheVariants as stop
use Rattle.layout_lp64.specs.declared.layouts.LayoutStop.{LayoutStop}
use Rattle.layout_lp64.specs.declared.layouts.LayoutStop.TheVariants.{TooBig, Memory}

abbrev pub refusal : LayoutStop → RuleStop
refusal (TooBig t) = stop.Bad (Limit ObjectSize)
refusal Memory = stop.Memory
