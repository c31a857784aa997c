use Rattle.std.proofs.Common.{◌≡◌, drop}
use Rattle.std.specs.List.{list_all}
use Rattle.cil_tree.specs.WellFormedTypes.{has_member}
use Rattle.cil_reader.proofs.fitting.are_filled.Given as goal

abbrev pub invariant-loop-i : goal.invariant-loop-i
invariant-loop-i l = list_all has_member (drop l.i l.g.aggs) ≡ list_all has_member l.g.aggs
