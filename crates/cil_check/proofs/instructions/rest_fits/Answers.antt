use Rattle.std.proofs.Common.{ℕ, drop, map, ◌&&◌}
use Rattle.type_graph.specs.Shapes.{NoTypes}
use Rattle.cil_tree.specs.declared.expressions.Exp.{Exp}
use Rattle.cil_tree.specs.View.{exp_of}
use Rattle.cil_tree.specs.Bodies.{arguments_fit, argument_is_promoted}
use Rattle.cil_check.specs.Seen.{seen_scope}
use Rattle.cil_check.proofs.CallSteps.{rest_from}
use Rattle.cil_check.proofs.BodySteps.{failed_at, passed_at}
use Rattle.cil_check.proofs.instructions.rest_fits.Goals as goal

pub returns-then-not-may_follow : goal.returns-then-not-may_follow
returns-then-not-may_follow c =
    let scope = seen_scope c.args.s.now in
    let see = exp_of c.args.s.now.unit.now.graph.nodes in
    let x : Exp = c.index-arguments-i.result in
    failed_at (λ (k : ℕ). arguments_fit scope NoTypes c.args.more (map see (drop k c.args.arguments.now))) (λ (e : Exp). c.args.more && argument_is_promoted scope (see e)) x _ c.loop-i.i c.may_follow.result c.loop-i.invariant c.index-arguments-i.is (rest_from scope c.args.s.now.unit.now.graph.nodes c.args.more c.args.arguments.now c.loop-i.i x c.loop-i-test.true) c.may_follow.ensures c.if-not-may_follow.true

pub loop-i-preserved : goal.loop-i-preserved
loop-i-preserved c =
    let scope = seen_scope c.args.s.now in
    let see = exp_of c.args.s.now.unit.now.graph.nodes in
    let x : Exp = c.index-arguments-i.result in
    passed_at (λ (k : ℕ). arguments_fit scope NoTypes c.args.more (map see (drop k c.args.arguments.now))) (λ (e : Exp). c.args.more && argument_is_promoted scope (see e)) x _ c.loop-i.i c.may_follow.result c.loop-i.invariant c.index-arguments-i.is (rest_from scope c.args.s.now.unit.now.graph.nodes c.args.more c.args.arguments.now c.loop-i.i x c.loop-i-test.true) c.may_follow.ensures c.if-not-may_follow.false
