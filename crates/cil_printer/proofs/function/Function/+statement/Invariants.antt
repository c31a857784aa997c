use Rattle.std.proofs.Common.{◌≡◌, drop}
use Rattle.cil_tree.specs.View.{stmts_of}
use Rattle.cil_tree.specs.Text.{lines_of}
use Rattle.cil_printer.specs.Plain.{prints}
use Rattle.cil_printer.specs.Seen.{scope_in, nodes_in}
use Rattle.cil_printer.proofs.function.Function.+statement.Given as goal

abbrev pub invariant-push_statements-loop-i : goal.invariant-push_statements-loop-i
invariant-push_statements-loop-i l = prints l.out l.depth (lines_of (scope_in l.self) (stmts_of (nodes_in l.self) (drop l.i l.body))) ≡ prints l.fn.out l.depth (lines_of (scope_in l.self) (stmts_of (nodes_in l.self) l.body))
