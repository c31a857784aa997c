use Rattle.std.proofs.Common.{◌≡◌, map, take}
use Rattle.type_things.specs.Units.{aggregate_count}
use Rattle.type_things.specs.Weaving.{AllArenas}
use Rattle.type_things.proofs.web.count_aggregates.Given as goal

abbrev pub invariant-loop-u : goal.invariant-loop-u
invariant-loop-u g l = record {
  count : l.count ≡ aggregate_count (take l.u (map g.G.HasGraph.graph_of l.units));
  arenas : AllArenas (take l.u (map g.G.HasGraph.graph_of l.units));
}
