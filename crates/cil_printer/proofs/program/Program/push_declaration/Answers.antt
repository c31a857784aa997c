use Rattle.cil_tree.specs.View.{global_of}
use Rattle.cil_printer.specs.Seen.{tree_of}
use Rattle.cil_printer.proofs.GlobalTokens.{declaration_printed}
use Rattle.cil_printer.proofs.program.Program.push_declaration.Goals as goal

pub returns : goal.returns
returns c =
    let p = tree_of c.args.self.now in
    declaration_printed _ _ _ _ p (global_of p.graph.nodes p.names c.args.x.now) c.requires.plain c.requires.named c.push_storage.ensures c.push_declarator.ensures c.end.ensures
