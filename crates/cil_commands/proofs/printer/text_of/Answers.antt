use Rattle.cil_commands.proofs.Printing.{text_pushed}
use Rattle.cil_commands.proofs.printer.text_of.Goals as goal

pub returns : goal.returns
returns c =
    text_pushed _ _ _ _ _
    c.in_ok-out.ensures.items
    c.in_ok-extend_from_slice.ensures.items
    c.in_ok-push_expression.ensures
    c.in_ok-extend_from_slice-2.ensures.items
