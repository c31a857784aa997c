use Rattle.std.proofs.Common.{◌≡◌, [], length}
use Rattle.cil_text.specs.ReadExps.{bases}
use Rattle.cil_text.specs.ReadAggregates.{read_member}
use Rattle.cil_scan.specs.Said.{all_lines}
use Rattle.cil_text.specs.TypesOf.{AddsParts}
use Rattle.cil_reader.specs.Settings.{Onward, env_in}
use Rattle.cil_reader.specs.Pools.{KeepsNames}
use Rattle.cil_reader.specs.Aggregates.{types_at}
use Rattle.cil_reader.specs.Members.{FieldsKnown, members_in, members_from, members_on}
use Rattle.cil_reader.proofs.aggregates.read_members.Given as goal

abbrev pub invariant-loop-more : goal.invariant-loop-more
invariant-loop-more l =
    FieldsKnown l.r.graph l.pool l.fields.members.items l.fields.names × Onward l.fn.r l.r × KeepsNames l.fn.pool l.pool
    × (members_on (read_member (bases (env_in l.fn.r)) l.left) (l.more, (members_in l.r.graph.nodes l.pool l.fields.members.items, all_lines l.rest)) ≡ members_from (read_member (bases (env_in l.fn.r)) l.left) [] (all_lines l.lines))
    × AddsParts l.fn.r.graph l.r.graph (types_at l.r.graph.nodes l.fields.names.types.items)

abbrev pub decreases-loop-more : goal.decreases-loop-more
decreases-loop-more l = length l.rest
