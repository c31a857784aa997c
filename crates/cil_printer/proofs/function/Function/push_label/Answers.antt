use Rattle.cil_printer.specs.Seen.{scope_in}
use Rattle.cil_printer.proofs.StatementLines.{label_printed}
use Rattle.cil_printer.proofs.function.Function.push_label.Goals as goal

pub returns : goal.returns
returns c =
    label_printed _ _ _ _ _ c.args.depth (scope_in c.args.self.now) c.args.l.0 c.requires.plain c.indent.ensures (rw c.label_name.ensures at c.token.ensures) c.token-2.ensures c.end.ensures
