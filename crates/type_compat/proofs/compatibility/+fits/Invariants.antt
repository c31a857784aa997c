use Rattle.std.proofs.Common.{◌≡◌, suc, ◌+◌, ◌-◌, ◌*◌, max, length, drop}
use Rattle.type_graph.specs.Shapes.{shape, shapes_of}
use Rattle.type_compat.specs.Compatible.{compatible_shapes}
use Rattle.type_compat.specs.Measure.{most}
use Rattle.type_compat.specs.Pairs.{AllCompatible}
use Rattle.type_compat.proofs.compatibility.+fits.Given as goal

abbrev pub decreases-fits : goal.decreases-fits
decreases-fits l = 4 * l.a.0 + 1

abbrev pub decreases-parts_fit : goal.decreases-parts_fit
decreases-parts_fit l = 4 * l.a.0

abbrev pub decreases-pointer_fits : goal.decreases-pointer_fits
decreases-pointer_fits l = 4 * l.pointee.of.0 + 2

abbrev pub decreases-array_fits : goal.decreases-array_fits
decreases-array_fits l = 4 * l.element.of.0 + 2

abbrev pub decreases-function_fits : goal.decreases-function_fits
decreases-function_fits l = 4 * max (suc l.ret.0) (most l.prototype.params.now) - 1

abbrev pub decreases-parameters_fit : goal.decreases-parameters_fit
decreases-parameters_fit l = 4 * most l.params.now - 2

abbrev pub invariant-parameters_fit-loop-i : goal.invariant-parameters_fit-loop-i
invariant-parameters_fit-loop-i l = record {
  pairs : AllCompatible l.g l.known;
  lengths : length l.params ≡ length l.others;
  rest : compatible_shapes l.g.aggs (shapes_of (shape l.g.nodes) l.params) (shapes_of (shape l.g.nodes) l.others) ≡ compatible_shapes l.g.aggs (shapes_of (shape l.g.nodes) (drop l.i l.params)) (shapes_of (shape l.g.nodes) (drop l.i l.others));
}
