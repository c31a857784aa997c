use Rattle.std.proofs.Common.{◌≡◌, length}
use Rattle.cil_tree.specs.View.{program_of}
use Rattle.cil_printer.specs.Sides.{AreSides}
use Rattle.cil_printer.proofs.lengths.all_sides.Given as goal

abbrev pub invariant-loop-t : goal.invariant-loop-t
invariant-loop-t l = AreSides l.sides.items (program_of l.names l.unit) × (length l.sides.items ≡ l.t)
