use Rattle.std.proofs.Common.{drop, map}
use Rattle.cil_tree.specs.View.{program_of}
use Rattle.cil_link.specs.Entities.{in_run}
use Rattle.cil_link.specs.Meeting.{IsFound, Finding}
use Rattle.cil_link.proofs.entities.entities_of.Given as goal

abbrev pub invariant-loop-i : goal.invariant-loop-i
invariant-loop-i l =
    IsFound l.names l.found
    × Finding (map (program_of l.names) l.units) l.names (drop l.i (in_run (map (program_of l.names) l.units))) l.found (map (λ v. v.items) l.numbers.items)
