use Rattle.std.proofs.Common.{◌≡◌, ◌++◌, drop, map}
use Rattle.cil_check.specs.NameLists.{member_id}
use Rattle.cil_check.proofs.names.add_member_names.Given as goal

abbrev pub invariant-loop-i : goal.invariant-loop-i
invariant-loop-i l = l.ids.items ++ map member_id (drop l.i l.members) ≡ l.initial.ids.items ++ map member_id l.members
