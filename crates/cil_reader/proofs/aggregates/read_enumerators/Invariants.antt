use Rattle.std.proofs.Common.{◌≡◌, [], length}
use Rattle.cil_scan.specs.Said.{all_lines}
use Rattle.cil_reader.specs.Pools.{KeepsNames}
use Rattle.cil_reader.specs.Members.{AreThere, MembersKnown, members_in, enumerators_from, enumerators_on}
use Rattle.cil_reader.proofs.aggregates.read_enumerators.Given as goal

abbrev pub invariant-loop-more : goal.invariant-loop-more
invariant-loop-more l =
    AreThere (length l.r.graph.nodes) l.members.items × MembersKnown l.r.graph l.pool l.members.items × KeepsNames l.fn.pool l.pool
    × (enumerators_on (l.more, (members_in l.r.graph.nodes l.pool l.members.items, all_lines l.rest)) ≡ enumerators_from [] (all_lines l.lines))

abbrev pub decreases-loop-more : goal.decreases-loop-more
decreases-loop-more l = length l.rest
