use Rattle.cil_tree.specs.View.{item_of}
use Rattle.cil_printer.specs.Seen.{seen, tree_of}
use Rattle.cil_printer.proofs.ImageTokens.{item_pushed}
use Rattle.cil_printer.proofs.program.Program.push_item.Goals as goal

pub returns : goal.returns
returns c =
    let p = tree_of c.args.self.now in
    item_pushed _ _ _ _ p (seen p.graph.nodes c.args.of) (seen p.graph.nodes c.push_path-t.result) (item_of c.args.item.now) (rw c.deref.ensures.value at c.push_path-t.ensures.leads) (rw c.deref.ensures.value at c.push_path-t.ensures.text) c.token.ensures c.push_scalar.ensures
