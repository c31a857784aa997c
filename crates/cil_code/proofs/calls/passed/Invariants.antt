use Rattle.std.proofs.Common.{take, map}
use Rattle.cil_tree.specs.View.{exp_of}
use Rattle.cil_check.specs.Seen.{seen_scope}
use Rattle.cil_code.specs.Calling.{AreOperands}
use Rattle.cil_code.proofs.calls.passed.Given as goal

abbrev pub invariant-loop-i : goal.invariant-loop-i
invariant-loop-i l = AreOperands (seen_scope l.s.scope) l.s.entities.now (map (exp_of l.s.scope.unit.now.graph.nodes) (take l.i l.es)) l.done.items
