use Rattle.std.proofs.Common.{◌≡◌, length, map, take, drop}
use Rattle.cil_text.specs.ReadExps.{bases}
use Rattle.cil_text.specs.ReadAggregates.{read_member}
use Rattle.cil_scan.specs.Said.{all_lines}
use Rattle.cil_reader.specs.Settings.{env_in}
use Rattle.cil_reader.specs.Pools.{KeepsNames}
use Rattle.cil_reader.specs.Aggregates.{Holds, AggregatesAdded, AreOpen, ArePlain, aggregates_in, tag_back, structs_behind, tagged_structs}
use Rattle.cil_reader.proofs.aggregates.read_structs.Given as goal

abbrev pub invariant-loop-a : goal.invariant-loop-a
invariant-loop-a l =
    let xs = aggregates_in l.r.graph l.pool in
    Holds l.r l.pool l.a × AreOpen (drop l.a xs) × ArePlain (drop l.a xs) × (l.count ≡ length l.r.graph.aggs)
    × (structs_behind (read_member (bases (env_in l.r)) l.left) (take l.a xs) (map tag_back (drop l.a xs)) (all_lines l.rest) ≡ tagged_structs l.fn.r.graph.abi l.left l.first (aggregates_in l.fn.r.graph l.fn.pool) (all_lines l.lines))
    × AggregatesAdded l.fn.r.graph l.r.graph l.fn.pool l.pool
    × KeepsNames l.fn.pool l.pool
