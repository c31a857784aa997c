use Rattle.std.proofs.Common.{◌≡◌, length}
use Rattle.layout_lp64.specs.Tables.{AreTables}
use Rattle.layout_lp64.proofs.layouts.Layouts.add_layouts.Given as goal

abbrev pub invariant-loop-i : goal.invariant-loop-i
invariant-loop-i l = AreTables l.self l.g × (length l.self.spans ≡ length l.g.nodes) × (l.self.completed ≡ l.i)
