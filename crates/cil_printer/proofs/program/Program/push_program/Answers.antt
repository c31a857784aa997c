use Rattle.cil_printer.specs.Seen.{tree_of}
use Rattle.cil_printer.proofs.PartLines.{program_printed}
use Rattle.cil_printer.proofs.program.Program.push_program.Goals as goal

pub returns : goal.returns
returns c =
    program_printed _ _ _ _ _ _ _ (tree_of c.args.self.now) c.requires c.push_aggregates.ensures c.push_aggregates-2.ensures c.push_aggregates-3.ensures c.push_globals.ensures c.push_globals-2.ensures c.push_globals-3.ensures
