use Rattle.std.proofs.Common.{◌≡◌, ◌+◌, ◌-◌, ◌*◌, length, drop}
use Rattle.type_graph.specs.Shapes.{shape, shapes_of}
use Rattle.type_graph.specs.Arena.{EachType}
use Rattle.type_graph.specs.Growth.{Grows, KeepsAggregates}
use Rattle.type_compat.specs.Measure.{most}
use Rattle.type_compat.specs.Pairs.{AllComposed}
use Rattle.type_compat.specs.Parts.{GainsAmong}
use Rattle.type_compat.specs.Composed.{composite_shapes}
use Rattle.type_compat.specs.Functions.{then_types}
use Rattle.type_compat.proofs.composites.+composed.Given as goal

abbrev pub decreases-composed : goal.decreases-composed
decreases-composed l = 8 * l.a.0 + 1

abbrev pub decreases-parts_composed : goal.decreases-parts_composed
decreases-parts_composed l = 8 * l.a.0

abbrev pub decreases-composite_pointer : goal.decreases-composite_pointer
decreases-composite_pointer l = 8 * l.pointee.of.0 + 2

abbrev pub decreases-composite_array : goal.decreases-composite_array
decreases-composite_array l = 8 * l.element.of.0 + 2

abbrev pub decreases-composite_function : goal.decreases-composite_function
decreases-composite_function l = 8 * l.a.0 - 1

abbrev pub decreases-composites : goal.decreases-composites
decreases-composites l = 8 * most l.params.now - 2

abbrev pub decreases-composite_at : goal.decreases-composite_at
decreases-composite_at l = 8 * l.param.0 + 2

abbrev pub invariant-composites-loop-i : goal.invariant-composites-loop-i
invariant-composites-loop-i l = record {
  grows : Grows l.fn.g l.g;
  aggregates : KeepsAggregates l.fn.g l.g;
  pairs : AllComposed l.g l.answers;
  gains : GainsAmong l.fn.g l.g (shapes_of (shape l.g.nodes) l.done.items);
  there : EachType (length l.g.nodes) l.done.items;
  is : then_types (shapes_of (shape l.g.nodes) l.done.items) (composite_shapes (shapes_of (shape l.fn.g.nodes) (drop l.i l.params)) (shapes_of (shape l.fn.g.nodes) (drop l.i l.others))) ≡ composite_shapes (shapes_of (shape l.fn.g.nodes) l.params) (shapes_of (shape l.fn.g.nodes) l.others);
}
