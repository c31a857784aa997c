use Rattle.std.proofs.Common.{◌≡◌, length}
use Rattle.layout_lp64.specs.Tables.{AreTables}
use Rattle.layout_lp64.proofs.layouts.Layouts.add_spans.Given as goal

abbrev pub invariant-loop-t : goal.invariant-loop-t
invariant-loop-t l = AreTables l.self l.g × (length l.self.spans ≡ l.t) × (l.self.completed ≡ l.fn.self.completed)
