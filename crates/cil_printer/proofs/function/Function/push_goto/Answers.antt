use Rattle.cil_printer.specs.Seen.{scope_in}
use Rattle.cil_printer.proofs.StatementLines.{goto_printed}
use Rattle.cil_printer.proofs.function.Function.push_goto.Goals as goal

pub returns : goal.returns
returns c =
    goto_printed _ _ _ _ _ c.args.depth (scope_in c.args.self.now) c.args.l.0 c.requires.plain c.indent.ensures c.token.ensures (rw c.label_name.ensures at c.token-2.ensures) c.end.ensures
