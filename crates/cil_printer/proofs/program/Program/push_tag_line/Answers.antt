use Rattle.cil_printer.specs.Seen.{tree_of}
use Rattle.cil_printer.proofs.AggregateLines.{no_tag, tag_printed}
use Rattle.cil_printer.proofs.program.Program.push_tag_line.Goals as goal

pub returns-then-is_enum : goal.returns-then-is_enum
returns-then-is_enum c = no_tag c.args.out.now (tree_of c.args.self.now) c.args.x.now (rw c.is_enum.ensures at c.if-is_enum.true)

pub returns : goal.returns
returns c = tag_printed _ _ _ (tree_of c.args.self.now) c.args.x.now c.requires (rw c.is_enum.ensures at c.if-is_enum.false) c.push_tagged.ensures c.end.ensures
