use Rattle.std.proofs.Common.{◌≡◌, ◌+◌, map, take}
use Rattle.type_things.specs.Units.{aggregate_count, firsts_from}
use Rattle.type_things.specs.Webs.{first_pair}
use Rattle.type_things.specs.Weaving.{type_count}
use Rattle.type_things.proofs.web.first_numbers.Given as goal

abbrev pub invariant-loop-u : goal.invariant-loop-u
invariant-loop-u g l = record {
  firsts : map first_pair l.firsts.items ≡ firsts_from 0 l.fn.aggregates (take l.u (map g.G.HasGraph.graph_of l.units));
  aggregate : l.aggregate ≡ aggregate_count (take l.u (map g.G.HasGraph.graph_of l.units));
  ty : l.ty ≡ l.fn.aggregates + type_count (take l.u (map g.G.HasGraph.graph_of l.units));
}
