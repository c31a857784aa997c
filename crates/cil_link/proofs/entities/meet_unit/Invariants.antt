use Rattle.std.proofs.Common.{ℕ, List, drop, map}
use Rattle.cil_tree.specs.View.{global_of, program_of}
use Rattle.cil_semantics.specs.Runs.{linkable, linkables}
use Rattle.cil_link.specs.Entities.{InRun}
use Rattle.cil_link.specs.Meeting.{Met, Finds, IsFound, IsUnitOf, FindingIn}
use Rattle.cil_link.proofs.entities.meet_unit.Given as goal

abbrev pub invariant-loop-i : goal.invariant-loop-i
invariant-loop-i l =
    IsFound l.names l.found
    × ((units : List InRun) (entities : List ℕ) (m : Met) → IsUnitOf units l.u l.names entities l.unit → Finds units l.names m l.fn.found
    → FindingIn units l.names entities m (linkables (program_of l.names l.u)) (map (linkable (program_of l.names l.u)) (map (global_of l.u.graph.nodes l.names) (drop l.i l.u.globals.items))) l.found l.numbers.items)
