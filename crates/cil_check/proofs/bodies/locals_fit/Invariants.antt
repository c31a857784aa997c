use Rattle.std.proofs.Common.{◌≡◌, drop, map}
use Rattle.std.specs.List.{list_all}
use Rattle.cil_tree.specs.View.{local_of}
use Rattle.cil_tree.specs.Bodies.{local_fits}
use Rattle.cil_check.proofs.bodies.locals_fit.Given as goal

abbrev pub invariant-loop-i : goal.invariant-loop-i
invariant-loop-i l =
    list_all (local_fits l.s.unit.now.graph) (map (local_of l.s.unit.now.graph.nodes l.s.names.now) (drop l.i l.locals))
    ≡ list_all (local_fits l.s.unit.now.graph) (map (local_of l.s.unit.now.graph.nodes l.s.names.now) l.s.body.now.locals.items)
