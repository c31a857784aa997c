use Rattle.std.proofs.Common.{◌≡◌, ◌≤◌, ◌+◌, length}
use Rattle.cil_scan.specs.Said.{all_lines}
use Rattle.cil_reader.specs.Pools.{KeepsNames}
use Rattle.cil_reader.specs.Aggregates.{Holds, AggregatesAdded, aggregates_in, tags_from, tags_on, bit}
use Rattle.cil_reader.proofs.aggregates.read_tags.Given as goal

abbrev pub invariant-loop-found : goal.invariant-loop-found
invariant-loop-found l =
    Holds l.r l.pool l.first × (l.first ≤ length l.r.graph.aggs)
    × (tags_on (l.found, (aggregates_in l.r.graph l.pool, all_lines l.rest)) ≡ tags_from (aggregates_in l.fn.r.graph l.fn.pool) (all_lines l.lines))
    × AggregatesAdded l.fn.r.graph l.r.graph l.fn.pool l.pool
    × KeepsNames l.fn.pool l.pool

abbrev pub decreases-loop-found : goal.decreases-loop-found
decreases-loop-found l = length l.rest + bit l.found
