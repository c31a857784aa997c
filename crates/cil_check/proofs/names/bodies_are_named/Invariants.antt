use Rattle.std.proofs.Common.{◌≡◌, drop, map}
use Rattle.std.specs.List.{list_all}
use Rattle.cil_tree.specs.View.{program_of, global_of}
use Rattle.cil_check.specs.FileNames.{within_is_named}
use Rattle.cil_check.proofs.names.bodies_are_named.Given as goal

abbrev pub invariant-loop-i : goal.invariant-loop-i
invariant-loop-i l = list_all (within_is_named (program_of l.names l.u)) (map (global_of l.u.graph.nodes l.names) (drop l.i l.globals)) ≡ list_all (within_is_named (program_of l.names l.u)) (program_of l.names l.u).globals
