use Rattle.std.proofs.Common.{◌≡◌, drop}
use Rattle.type_graph.specs.Shapes.{shape}
use Rattle.cil_tree.specs.View.{stmts_of}
use Rattle.cil_check.specs.Seen.{seen_scope}
use Rattle.cil_check.specs.Statements.{keep_rules}
use Rattle.cil_check.proofs.statements.+statements.Given as goal

abbrev pub invariant-keep_rules-loop-i : goal.invariant-keep_rules-loop-i
invariant-keep_rules-loop-i l =
    keep_rules (seen_scope l.s) (shape l.s.unit.now.graph.nodes l.at.ret.0) l.at.switch l.at.inside (stmts_of l.s.unit.now.graph.nodes (drop l.i l.stmts))
    ≡ keep_rules (seen_scope l.s) (shape l.s.unit.now.graph.nodes l.at.ret.0) l.at.switch l.at.inside (stmts_of l.s.unit.now.graph.nodes l.stmts)
