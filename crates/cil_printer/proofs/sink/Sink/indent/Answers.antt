use Rattle.std.proofs.Common.{◌*◌, replicate}
use Rattle.cil_printer.proofs.Puts.{indent_known}
use Rattle.cil_printer.proofs.sink.Sink.indent.Goals as goal

pub returns-then-is_counting : goal.returns-then-is_counting
returns-then-is_counting c = c.add.ensures (replicate (2 * c.args.depth) 32) (indent_known c.args.depth _ c.saturating_mul.ensures)
