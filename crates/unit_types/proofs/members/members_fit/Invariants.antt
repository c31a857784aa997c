use Rattle.std.proofs.Common.{◌≡◌, false, nat_lt, drop}
use Rattle.type_graph.specs.Arena.{members_fit}
use Rattle.unit_types.proofs.members.members_fit.Given as goal

abbrev pub invariant-loop-i : goal.invariant-loop-i
invariant-loop-i l = members_fit l.g l.kind (nat_lt 0 l.i) (drop l.i l.members) ≡ members_fit l.g l.kind false l.members
