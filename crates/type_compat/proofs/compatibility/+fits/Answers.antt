use Rattle.std.proofs.Common.{◌<◌, ◌+◌, ◌-◌, ◌*◌, suc, max, length, get_or, sym, subst, arith}
use Rattle.type_graph.specs.Shapes.{shape}
use Rattle.type_graph.specs.Arena.{EachType}
use Rattle.type_compat.specs.Measure.{most}
use Rattle.type_compat.proofs.Parameters.{each_at, each_more, most_at, func_names, func_falls, params_true, params_false, params_end, params_differ}
use Rattle.type_compat.proofs.Reflexive.{same_number}
use Rattle.type_compat.proofs.compatibility.+fits.Goals as goal

pub fits-returns-then-eq-clause-tells : goal.fits-returns-then-eq-clause-tells
fits-returns-then-eq-clause-tells t c = same_number c.args.g.now.aggs c.args.g.now.nodes c.args.a.0 c.args.b.0 (sym c.if-eq.ensures)

pub parts_fit-function_fits-requires : goal.parts_fit-function_fits-requires
parts_fit-function_fits-requires t c =
    let names = func_names c.args.a.0 _ c.node.result.now c.in-Func.ret c.in-Func.params c.in-Func.proto c.in-Func.variadic c.in-Func.is c.node.ensures.names in
    let each : EachType c.args.a.0 c.as_slice.result.now = subst (EachType c.args.a.0) (sym c.as_slice.ensures) names.1 in
    let falls : 4 * max (suc c.in-Func.ret.0) (most c.as_slice.result.now) - 1 < t = subst (λ n. 4 * max (suc c.in-Func.ret.0) (most c.as_slice.result.now) - 1 < n) c.decreases (func_falls c.args.a.0 c.in-Func.ret c.as_slice.result.now names.0 each) in
    let ret : c.in-Func.ret.0 < c.args.a.0 = names.0 in
    (falls, ((omega (arith, c.requires.left), each_more c.args.a.0 (length c.args.g.now.nodes) c.as_slice.result.now (omega (arith, c.requires.left)) each), (c.requires.right, c.requires.pairs)))

pub function_fits-plain-requires : goal.function_fits-plain-requires
function_fits-plain-requires t c =
    let names = func_names c.args.b.0 _ c.node.result.now c.in-Func.other c.in-Func.others c.in-Func.other_proto c.in-Func.other_variadic c.in-Func.is c.node.ensures.names in
    each_more c.args.b.0 (length c.args.g.now.nodes) c.as_slice.result.now (omega (arith, c.requires.right)) (subst (EachType c.args.b.0) (sym c.as_slice.ensures) names.1)

pub function_fits-parameters_fit-requires : goal.function_fits-parameters_fit-requires
function_fits-parameters_fit-requires t c =
    let names = func_names c.args.b.0 _ c.node.result.now c.in-Func.other c.in-Func.others c.in-Func.other_proto c.in-Func.other_variadic c.in-Func.is c.node.ensures.names in
    let falls : 4 * most c.args.prototype.params.now - 2 < t = omega (arith, c.decreases) in
    (falls, (c.requires.left.1, (each_more c.args.b.0 (length c.args.g.now.nodes) c.as_slice-then-prototype-other_variadic.result.now (omega (arith, c.requires.right)) (subst (EachType c.args.b.0) (sym c.as_slice-then-prototype-other_variadic.ensures) names.1), c.fits.ensures.pairs)))

pub parameters_fit-returns-then-params-others-clause-tells : goal.parameters_fit-returns-then-params-others-clause-tells
parameters_fit-returns-then-params-others-clause-tells t c = params_differ c.args.g.now.aggs (shape c.args.g.now.nodes) c.args.params.now c.args.others.now c.if-params-others.true

pub parameters_fit-fits-requires : goal.parameters_fit-fits-requires
parameters_fit-fits-requires t c =
    let below : (get_or c.args.params.now c.loop-i.i (record { 0 = 0 })).0 < most c.args.params.now = most_at c.args.params.now c.loop-i.i (record { 0 = 0 }) c.loop-i-test.true in
    let falls : 4 * (get_or c.args.params.now c.loop-i.i (record { 0 = 0 })).0 + 1 < t = omega (arith, c.decreases) in
    (falls, (each_at (length c.args.g.now.nodes) c.args.params.now c.loop-i.i (record { 0 = 0 }) c.requires.left c.loop-i-test.true, (each_at (length c.args.g.now.nodes) c.args.others.now c.loop-i.i (record { 0 = 0 }) c.requires.right (omega (arith, c.if-params-others.false, c.loop-i-test.true)), c.loop-i.invariant.pairs)))

pub parameters_fit-returns-then-not-fits-clause-tells : goal.parameters_fit-returns-then-not-fits-clause-tells
parameters_fit-returns-then-not-fits-clause-tells t c =
    params_false c.args.g.now.aggs (shape c.args.g.now.nodes) c.args.params.now c.args.others.now c.loop-i.i (record { 0 = 0 }) (record { 0 = 0 }) c.fits.result _ c.loop-i-test.true c.loop-i.invariant.lengths c.loop-i.invariant.rest c.fits.ensures.tells c.if-not-fits.true

pub parameters_fit-returns-clause-tells : goal.parameters_fit-returns-clause-tells
parameters_fit-returns-clause-tells t c = params_end c.args.g.now.aggs (shape c.args.g.now.nodes) c.args.params.now c.args.others.now c.loop-i.i _ c.loop-i-test.false c.loop-i.invariant.lengths c.loop-i.invariant.rest

pub parameters_fit-loop-i-preserved : goal.parameters_fit-loop-i-preserved
parameters_fit-loop-i-preserved t c = record {
  pairs = c.fits.ensures.pairs;
  lengths = c.loop-i.invariant.lengths;
  rest = params_true c.args.g.now.aggs (shape c.args.g.now.nodes) c.args.params.now c.args.others.now c.loop-i.i (record { 0 = 0 }) (record { 0 = 0 }) c.fits.result _ c.loop-i-test.true c.loop-i.invariant.lengths c.loop-i.invariant.rest c.fits.ensures.tells c.if-not-fits.false;
}
