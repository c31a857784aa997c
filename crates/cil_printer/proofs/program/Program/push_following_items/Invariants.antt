use Rattle.std.proofs.Common.{◌≡◌, drop}
use Rattle.cil_printer.specs.Output.{puts}
use Rattle.cil_printer.specs.Sides.{following}
use Rattle.cil_printer.specs.Seen.{seen, tree_of, item_parts}
use Rattle.cil_printer.proofs.program.Program.push_following_items.Given as goal

abbrev pub invariant-loop-i : goal.invariant-loop-i
invariant-loop-i l =
    puts l.out (following (item_parts (tree_of l.self) (seen l.self.unit.now.graph.nodes l.of) (drop l.i l.items)))
    ≡ puts l.fn.out (following (item_parts (tree_of l.self) (seen l.self.unit.now.graph.nodes l.of) l.items))
