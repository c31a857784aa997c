use Rattle.std.proofs.Common.{◌≡◌, ◌++◌, drop, map}
use Rattle.cil_tree.specs.View.{local_of, body_of}
use Rattle.cil_semantics.specs.Runs.{objects_from, body_objects}
use Rattle.cil_frames.specs.Entering.{objects_of}
use Rattle.cil_table.proofs.functions.body_objects.Given as goal

abbrev pub invariant-loop-i : goal.invariant-loop-i
invariant-loop-i l =
    objects_of l.objects.items ++ objects_from l.s.scope.unit.now.graph l.i (drop l.i (map (local_of l.s.scope.unit.now.graph.nodes l.s.scope.names.now) l.s.scope.body.now.locals.items))
    ≡ body_objects l.s.scope.unit.now.graph (body_of l.s.scope.unit.now.graph.nodes l.s.scope.names.now l.s.scope.body.now)
