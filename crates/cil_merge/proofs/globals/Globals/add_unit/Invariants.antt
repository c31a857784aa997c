use Rattle.std.proofs.Common.{◌≡◌, map, drop}
use Rattle.cil_merge.specs.Listing.{mark}
use Rattle.cil_merge.specs.Numbering.{with_marks, marks, IsKnown}
use Rattle.cil_merge.proofs.globals.Globals.add_unit.Given as goal

abbrev pub invariant-loop-e : goal.invariant-loop-e
invariant-loop-e l = IsKnown l.self × (with_marks (marks l.self) (map mark (drop l.e l.unit.globals.items)) ≡ with_marks (marks l.fn.self) (map mark l.unit.globals.items))
