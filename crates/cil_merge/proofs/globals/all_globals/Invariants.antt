use Rattle.std.proofs.Common.{◌≡◌, [], drop}
use Rattle.cil_merge.specs.Listing.{marks_of}
use Rattle.cil_merge.specs.Numbering.{with_marks, marks, IsKnown}
use Rattle.cil_merge.proofs.globals.all_globals.Given as goal

abbrev pub invariant-loop-u : goal.invariant-loop-u
invariant-loop-u l = IsKnown l.globals × (with_marks (marks l.globals) (marks_of (drop l.u l.units)) ≡ with_marks [] (marks_of l.units))
