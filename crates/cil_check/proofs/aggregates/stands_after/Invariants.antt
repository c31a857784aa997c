use Rattle.std.proofs.Common.{◌≡◌, drop}
use Rattle.std.specs.List.{list_all}
use Rattle.cil_check.specs.Rules.{member_is_after}
use Rattle.cil_check.proofs.aggregates.stands_after.Given as goal

abbrev pub invariant-loop-i : goal.invariant-loop-i
invariant-loop-i l = list_all (member_is_after l.g l.a.0) (drop l.i l.members) ≡ list_all (member_is_after l.g l.a.0) l.members
