use Rattle.std.proofs.Common.{ℕ, drop, get_or, refl}
use Rattle.cil_base.specs.declared.numbers.TypeId.{TypeId}
use Rattle.type_graph.specs.Shapes.{Shape, shape, shapes_of}
use Rattle.cil_tree.specs.WellFormedTypes.{is_parameter, are_parameters}
use Rattle.cil_check.proofs.TypeSteps.{parameters_from, type_at}
use Rattle.cil_check.proofs.BodySteps.{failed_at, passed_at}
use Rattle.cil_check.proofs.nodes.are_parameters.Goals as goal

pub is_parameter-requires : goal.is_parameter-requires
is_parameter-requires c = type_at _ c.args.params.now c.loop-i.i _ c.requires c.loop-i-test.true

pub returns-then-not-is_parameter : goal.returns-then-not-is_parameter
returns-then-not-is_parameter c =
    let at : ℕ → Shape = shape c.args.g.now.nodes in
    let t : TypeId = record { 0 = 0 } in
    let x : TypeId = get_or c.args.params.now c.loop-i.i t in
    failed_at (λ (k : ℕ). are_parameters (shapes_of at (drop k c.args.params.now))) (λ (y : TypeId). is_parameter (at y.0)) x x c.loop-i.i c.is_parameter.result c.loop-i.invariant refl (parameters_from at c.args.params.now c.loop-i.i t c.loop-i-test.true) c.is_parameter.ensures c.if-not-is_parameter.true

pub loop-i-preserved : goal.loop-i-preserved
loop-i-preserved c =
    let at : ℕ → Shape = shape c.args.g.now.nodes in
    let t : TypeId = record { 0 = 0 } in
    let x : TypeId = get_or c.args.params.now c.loop-i.i t in
    passed_at (λ (k : ℕ). are_parameters (shapes_of at (drop k c.args.params.now))) (λ (y : TypeId). is_parameter (at y.0)) x x c.loop-i.i c.is_parameter.result c.loop-i.invariant refl (parameters_from at c.args.params.now c.loop-i.i t c.loop-i-test.true) c.is_parameter.ensures c.if-not-is_parameter.false
