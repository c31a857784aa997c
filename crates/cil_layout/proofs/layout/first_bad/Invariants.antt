use Rattle.cil_tree.specs.LaidOut.{lines_from, first_bad}
use Rattle.std.proofs.Common.{[]}
use Rattle.cil_layout.proofs.ScanLaws.{Scans}
use Rattle.cil_layout.proofs.layout.first_bad.Given as goal

abbrev pub invariant-loop-at : goal.invariant-loop-at
invariant-loop-at l = Scans l.bytes l.start l.at l.braces (first_bad 0 0 (lines_from [] l.bytes))
