use Rattle.std.proofs.Common.{◌≡◌, drop}
use Rattle.std.specs.List.{list_all}
use Rattle.cil_tree.specs.WellFormedTypes.{member_fits}
use Rattle.cil_check.proofs.aggregates.have_kind.Given as goal

abbrev pub invariant-loop-i : goal.invariant-loop-i
invariant-loop-i l = list_all (member_fits l.g l.enumerators) (drop l.i l.members) ≡ list_all (member_fits l.g l.enumerators) l.members
