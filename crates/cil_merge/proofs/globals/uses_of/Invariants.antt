use Rattle.cil_merge.specs.Numbering.{GainsTypes}
use Rattle.cil_merge.proofs.globals.uses_of.Given as goal

abbrev pub invariant-loop-e : goal.invariant-loop-e
invariant-loop-e l = GainsTypes l.fn.graph l.graph
