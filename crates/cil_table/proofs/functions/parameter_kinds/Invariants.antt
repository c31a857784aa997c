use Rattle.std.proofs.Common.{◌≡◌, ◌++◌, drop, map}
use Rattle.type_graph.specs.Shapes.{shape, shapes_of}
use Rattle.cil_semantics.specs.Runs.{kinds_of}
use Rattle.cil_code.specs.Calling.{kind_from}
use Rattle.cil_table.proofs.functions.parameter_kinds.Given as goal

abbrev pub invariant-loop-i : goal.invariant-loop-i
invariant-loop-i l =
    map kind_from l.kinds.items ++ kinds_of l.s.scope.unit.now.graph (shapes_of (shape l.s.scope.unit.now.graph.nodes) (drop l.i l.params))
    ≡ kinds_of l.s.scope.unit.now.graph (shapes_of (shape l.s.scope.unit.now.graph.nodes) l.params)
