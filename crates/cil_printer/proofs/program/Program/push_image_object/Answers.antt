use Rattle.std.proofs.Common.{map}
use Rattle.cil_tree.specs.View.{item_of, global_of}
use Rattle.cil_printer.specs.Seen.{tree_of}
use Rattle.cil_printer.proofs.GlobalTokens.{image_printed}
use Rattle.cil_printer.proofs.program.Program.push_image_object.Goals as goal

pub returns : goal.returns
returns c =
    let p = tree_of c.args.self.now in
    image_printed _ _ _ _ _ _ p (global_of p.graph.nodes p.names c.args.x.now) (map item_of c.args.items.now) c.requires.plain c.requires.named c.push_linkage.ensures c.push_declarator.ensures c.token.ensures c.push_image.ensures c.end.ensures
