use Rattle.cil_meaning.specs.View.{exp_of}
use Rattle.cil_commands.proofs.Printing.{five_pushed}
use Rattle.cil_commands.proofs.printer.+push_expression.Goals as goal

pub returns-in_ok-push_expression-in-Bin-2 : goal.returns-in_ok-push_expression-in-Bin-2
returns-in_ok-push_expression-in-Bin-2 t c =
    rw c.in-Bin.is (five_pushed (exp_of c.in-Bin.left.value) (exp_of c.in-Bin.right.value) c.in-Bin.op _ _ _ _ _ _ _
    c.in_ok-push_token-in-Bin.ensures
    (rw c.deref.ensures at c.in_ok-push_expression-in-Bin.ensures)
    (rw c.operator_text.ensures at c.in_ok-push_token-in-Bin-2.ensures)
    (rw c.deref-in-Bin.ensures at c.in_ok-push_expression-in-Bin-2.ensures)
    c.push_token-in-Bin-3.ensures)
