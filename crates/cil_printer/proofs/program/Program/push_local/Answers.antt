use Rattle.cil_tree.specs.View.{local_of}
use Rattle.cil_printer.specs.Seen.{tree_of}
use Rattle.cil_printer.proofs.GlobalTokens.{local_printed}
use Rattle.cil_printer.proofs.program.Program.push_local.Goals as goal

pub returns : goal.returns
returns c =
    let p = tree_of c.args.self.now in
    local_printed _ _ _ _ p (local_of p.graph.nodes p.names c.args.x) c.requires.plain c.requires.named c.indent.ensures c.push_declarator.ensures c.end.ensures
