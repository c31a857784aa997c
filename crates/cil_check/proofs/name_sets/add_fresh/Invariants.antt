use Rattle.std.proofs.Common.{◌≡◌, ◌++◌, nat_eq, drop, map}
use Rattle.cil_check.specs.NameLists.{number}
use Rattle.cil_check.specs.Sets.{fresh}
use Rattle.cil_check.proofs.name_sets.add_fresh.Given as goal

abbrev pub invariant-loop-i : goal.invariant-loop-i
invariant-loop-i l =
    (fresh nat_eq l.seen.keys (map number (drop l.i l.names)) ≡ fresh nat_eq l.initial.seen.keys (map number l.names))
    × (l.seen.keys ++ map number (drop l.i l.names) ≡ l.initial.seen.keys ++ map number l.names)
