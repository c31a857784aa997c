use Rattle.std.proofs.Common.{◌≡◌, drop, map}
use Rattle.cil_tree.specs.View.{global_of}
use Rattle.cil_link.specs.MainGlobals.{main_number}
use Rattle.cil_link.proofs.mains.main_number.Given as goal

abbrev pub invariant-loop-i : goal.invariant-loop-i
invariant-loop-i l =
    main_number (drop l.i l.numbers) (map (global_of l.u.graph.nodes l.names) (drop l.i l.u.globals.items)) ≡ main_number l.numbers (map (global_of l.u.graph.nodes l.names) l.u.globals.items)
