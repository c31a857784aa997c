use Rattle.std.proofs.Common.{◌≡◌, ◌++◌, drop}
use Rattle.cil_tree.specs.View.{stmts_of}
use Rattle.cil_tree.specs.Bodies.{labels_of}
use Rattle.cil_check.proofs.labels.+labels.Given as goal

abbrev pub invariant-add_labels-loop-i : goal.invariant-add_labels-loop-i
invariant-add_labels-loop-i l = l.labels.items ++ labels_of (stmts_of l.s.unit.now.graph.nodes (drop l.i l.stmts)) ≡ l.initial.labels.items ++ labels_of (stmts_of l.s.unit.now.graph.nodes l.stmts)
