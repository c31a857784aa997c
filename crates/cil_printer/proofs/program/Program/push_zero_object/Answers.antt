use Rattle.cil_tree.specs.View.{global_of}
use Rattle.cil_printer.specs.Seen.{tree_of}
use Rattle.cil_printer.proofs.GlobalTokens.{no_zero, zero_printed}
use Rattle.cil_printer.proofs.program.Program.push_zero_object.Goals as goal

pub returns-then-x : goal.returns-then-x
returns-then-x c = let p = tree_of c.args.self.now in no_zero c.args.out.now p (global_of p.graph.nodes p.names c.args.x.now) c.if-x.true

pub returns : goal.returns
returns c = let p = tree_of c.args.self.now in zero_printed _ _ _ p (global_of p.graph.nodes p.names c.args.x.now) c.requires.plain c.requires.named c.if-x.false c.push_declarator.ensures c.end.ensures
