use Rattle.std.proofs.Common.{◌+◌, arith}
use Rattle.cil_tree.specs.View.{exp_of}
use Rattle.cil_check.specs.Seen.{seen_scope}
use Rattle.cil_code.proofs.CallMeanings.{operands_next}
use Rattle.cil_code.proofs.calls.passed.Goals as goal

pub loop-i-preserved : goal.loop-i-preserved
loop-i-preserved c =
    operands_next (seen_scope c.args.s.now.scope) c.args.s.now.entities.now (exp_of c.args.s.now.scope.unit.now.graph.nodes) c.args.es.now c.loop-i.i (c.loop-i.i + 1) c.index-es-i.result c.loop-i.done.items c.push.new.self.items c.in_ok-resolve_operand.field-0
    (omega arith) c.loop-i-test.true c.index-es-i.is c.loop-i.invariant c.in_ok-resolve_operand.ensures c.in_ok-push.ensures.items
