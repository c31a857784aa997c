use Rattle.cil_printer.specs.Seen.{tree_of}
use Rattle.cil_printer.proofs.AggregateLines.{member_printed}
use Rattle.cil_printer.proofs.program.Program.push_member.Goals as goal

pub returns : goal.returns
returns c = member_printed _ _ _ _ (tree_of c.args.self.now) c.args.m c.requires.plain c.requires.named c.indent.ensures c.push_declared.ensures c.end.ensures
