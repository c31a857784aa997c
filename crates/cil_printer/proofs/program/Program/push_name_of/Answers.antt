use Rattle.std.proofs.Common.{sym}
use Rattle.cil_printer.specs.Seen.{tree_of}
use Rattle.cil_printer.proofs.Found.{no_type_name}
use Rattle.cil_printer.proofs.program.Program.push_name_of.Goals as goal

pub returns-in-None : goal.returns-in-None
returns-in-None c = sym (no_type_name c.args.out.now (tree_of c.args.self.now) c.args.t c.in-None.ensures)
