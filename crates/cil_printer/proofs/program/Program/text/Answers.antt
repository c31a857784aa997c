use Rattle.std.proofs.Common.{◌∙◌, sym}
use Rattle.cil_printer.specs.Seen.{tree_of}
use Rattle.cil_printer.proofs.Counted.{text_kept, text_written}
use Rattle.cil_printer.proofs.program.Program.text.Goals as goal

pub into_bytes-requires : goal.into_bytes-requires
into_bytes-requires c = text_kept _ _ _ (tree_of c.args.self.now) c.requires.counted c.requires.short c.in_ok-out.ensures c.push_program.ensures

pub returns : goal.returns
returns c = c.new.ensures ∙ (sym c.into_bytes.ensures ∙ text_written _ _ _ (tree_of c.args.self.now) c.requires.counted c.requires.short c.in_ok-out.ensures c.push_program.ensures)
