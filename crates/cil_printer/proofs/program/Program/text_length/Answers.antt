use Rattle.cil_printer.specs.Seen.{tree_of}
use Rattle.cil_printer.proofs.Counted.{text_counted, text_length}
use Rattle.cil_printer.proofs.program.Program.text_length.Goals as goal

pub length-requires : goal.length-requires
length-requires c = text_counted _ _ (tree_of c.args.self.now) c.counting-out.ensures c.push_program.ensures

pub returns : goal.returns
returns c = text_length _ _ _ (tree_of c.args.self.now) c.counting-out.ensures c.push_program.ensures c.length.ensures
