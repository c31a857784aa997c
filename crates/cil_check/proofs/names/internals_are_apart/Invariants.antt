use Rattle.std.proofs.Common.{◌≡◌, drop, map}
use Rattle.std.specs.List.{list_all}
use Rattle.cil_tree.specs.View.{program_of, global_of}
use Rattle.cil_tree.specs.Names.{internal_is_apart}
use Rattle.cil_check.proofs.names.internals_are_apart.Given as goal

abbrev pub invariant-loop-i : goal.invariant-loop-i
invariant-loop-i l = list_all internal_is_apart (map (global_of l.u.graph.nodes l.names) (drop l.i l.globals)) ≡ list_all internal_is_apart (program_of l.names l.u).globals
