use Rattle.cil_printer.specs.Seen.{tree_of}
use Rattle.cil_printer.proofs.Declarations.{entry_added}
use Rattle.cil_printer.proofs.program.Program.+before.Goals as goal

pub push_before-returns-in-Some : goal.push_before-returns-in-Some
push_before-returns-in-Some t c = entry_added _ _ (tree_of c.args.self.now) c.args.t.0 c.in-Some.entry c.in-Some.ensures c.add.ensures
