use Rattle.std.proofs.Common.{◌≡◌, ◌∙◌, ◌+◌, drop, arith}
use Rattle.cil_printer.specs.Output.{puts}
use Rattle.cil_printer.specs.Sides.{following}
use Rattle.cil_printer.specs.Seen.{seen, tree_of, item_parts}
use Rattle.cil_printer.proofs.ItemLists.{items_from, items_end}
use Rattle.cil_printer.proofs.program.Program.push_following_items.Goals as goal

pub loop-i-preserved : goal.loop-i-preserved
loop-i-preserved c =
    let p = tree_of c.args.self.now in
    let s = seen p.graph.nodes c.args.of in
    let e : puts c.push_item.new.out (following (item_parts p s (drop (c.loop-i.i + 1) c.args.items.now))) ≡ puts c.loop-i.out (following (item_parts p s (drop c.loop-i.i c.args.items.now))) =
    items_from _ _ _ p s c.args.items.now c.loop-i.i _ _ (omega arith) c.loop-i-test.true c.index-items-i.is c.token.ensures c.push_item.ensures in
    e ∙ c.loop-i.invariant

pub returns : goal.returns
returns c = let p = tree_of c.args.self.now in items_end _ _ p (seen p.graph.nodes c.args.of) c.args.items.now c.loop-i.i c.loop-i-test.false c.loop-i.invariant
