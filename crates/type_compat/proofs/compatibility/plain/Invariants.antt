use Rattle.std.proofs.Common.{◌≡◌, drop}
use Rattle.type_graph.specs.Shapes.{shape, shapes_of}
use Rattle.type_compat.specs.Compatible.{all_survive}
use Rattle.type_compat.proofs.compatibility.plain.Given as goal

abbrev pub invariant-loop-p : goal.invariant-loop-p
invariant-loop-p l = all_survive (shapes_of (shape l.g.nodes) l.params) ≡ all_survive (shapes_of (shape l.g.nodes) (drop l.p-index l.params))
