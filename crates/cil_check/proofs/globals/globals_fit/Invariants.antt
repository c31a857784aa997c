use Rattle.std.proofs.Common.{◌≡◌, drop, map}
use Rattle.std.specs.List.{list_all}
use Rattle.cil_tree.specs.View.{program_of, global_of}
use Rattle.cil_tree.specs.Globals.{global_fits}
use Rattle.cil_check.proofs.globals.globals_fit.Given as goal

abbrev pub invariant-loop-i : goal.invariant-loop-i
invariant-loop-i l = list_all (global_fits (program_of l.names l.u)) (map (global_of l.u.graph.nodes l.names) (drop l.i l.globals)) ≡ list_all (global_fits (program_of l.names l.u)) (program_of l.names l.u).globals
