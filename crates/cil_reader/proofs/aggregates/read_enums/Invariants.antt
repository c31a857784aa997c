use Rattle.std.proofs.Common.{◌≡◌, ◌-◌, length}
use Rattle.cil_scan.specs.Said.{all_lines}
use Rattle.cil_reader.specs.Pools.{KeepsNames}
use Rattle.cil_reader.specs.Aggregates.{Holds, AggregatesAdded, aggregates_in, enums_from, enums_on}
use Rattle.cil_reader.proofs.aggregates.read_enums.Given as goal

abbrev pub invariant-loop-turn : goal.invariant-loop-turn
invariant-loop-turn l =
    Holds l.r l.pool (length l.r.graph.aggs)
    × (enums_on (l.left - l.turn) (l.found, (aggregates_in l.r.graph l.pool, all_lines l.rest)) ≡ enums_from l.left (aggregates_in l.fn.r.graph l.fn.pool) (all_lines l.lines))
    × AggregatesAdded l.fn.r.graph l.r.graph l.fn.pool l.pool
    × KeepsNames l.fn.pool l.pool
