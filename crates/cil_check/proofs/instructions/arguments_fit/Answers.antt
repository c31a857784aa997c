use Rattle.std.proofs.Common.{◌≡◌, ℕ, List, length, drop, map, get_or, ap, sym, ◌∙◌, arith}
use Rattle.cil_base.specs.declared.numbers.TypeId.{TypeId}
use Rattle.type_graph.specs.Shapes.{Shape, Shapes, NoTypes, shape, shapes_of}
use Rattle.cil_tree.specs.declared.expressions.Exp.{Exp}
use Rattle.cil_tree.specs.View.{exp_of}
use Rattle.cil_tree.specs.Bodies.{arguments_fit, has_type}
use Rattle.cil_check.specs.Seen.{seen_scope}
use Rattle.cil_check.proofs.TypeSteps.{type_at, slice_from}
use Rattle.cil_check.proofs.CallSteps.{argument_next, argument_missing, past_parameters}
use Rattle.cil_check.proofs.BodySteps.{passed_at}
use Rattle.cil_check.proofs.instructions.arguments_fit.Goals as goal

pub has_type-requires : goal.has_type-requires
has_type-requires c = type_at _ c.args.params.now c.loop-i.i _ c.requires c.loop-i-test.true

pub returns-then-i-arguments : goal.returns-then-i-arguments
returns-then-i-arguments c = grind (arith, argument_missing, argument_next)

pub loop-i-preserved : goal.loop-i-preserved
loop-i-preserved c =
    let scope = seen_scope c.args.s.now in
    let nodes = c.args.s.now.unit.now.graph.nodes in
    let at : ℕ → Shape = shape nodes in
    let t : TypeId = record { 0 = 0 } in
    let x : Exp = c.index-arguments-i.result in (
      omega arith,
      passed_at (λ (k : ℕ). arguments_fit scope (shapes_of at (drop k c.args.params.now)) c.args.more (map (exp_of nodes) (drop k c.args.arguments.now))) (λ (e : Exp). has_type scope (exp_of nodes e) (at (get_or c.args.params.now c.loop-i.i t).0)) x _ c.loop-i.i c.has_type.result c.loop-i.invariant.1 c.index-arguments-i.is
          (argument_next scope nodes at c.args.more c.args.params.now c.args.arguments.now c.loop-i.i t x c.loop-i-test.true c.if-i-arguments.false) c.has_type.ensures c.if-not-has_type.false,
    )

pub returns : goal.returns
returns c =
    let scope = seen_scope c.args.s.now in
    let nodes = c.args.s.now.unit.now.graph.nodes in
    let end : length c.args.params.now ≡ c.loop-i.i = omega (arith, c.loop-i-test.false, c.loop-i.auto.i-end) in
    c.rest_fits.ensures
    ∙ ap (λ (es : List Exp). arguments_fit scope NoTypes c.args.more (map (exp_of nodes) es)) (slice_from c.args.arguments.now (length c.args.params.now) c.loop-i.i end)
    ∙ ap (λ (ts : Shapes). arguments_fit scope ts c.args.more (map (exp_of nodes) (drop c.loop-i.i c.args.arguments.now))) (sym (past_parameters (shape nodes) c.args.params.now c.loop-i.i (sym end)))
    ∙ c.loop-i.invariant.1
