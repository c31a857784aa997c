use Rattle.std.proofs.Common.{length, map, ap, subst, ◌∙◌}
use Rattle.type_graph.specs.Arena.{Graph, IsArena}
use Rattle.type_things.specs.Units.{aggregate_count}
use Rattle.type_things.specs.Weaving.{AllArenas}
use Rattle.type_things.proofs.WovenSteps.{graph_at, take_end, count_start, count_step, arenas_start, arenas_step}
use Rattle.type_things.proofs.web.count_aggregates.Goals as goal
use Rattle.std.proofs.Common.{◌≡◌, arith}

pub loop-u-init : goal.loop-u-init
loop-u-init g c = record { count = count_start (map g.G.HasGraph.graph_of c.args.units.now); arenas = arenas_start (map g.G.HasGraph.graph_of c.args.units.now) }

pub loop-u-preserved : goal.loop-u-preserved
loop-u-preserved g c = record {
  count = count_step (map g.G.HasGraph.graph_of c.args.units.now) c.loop-u.u c.loop-u.count c.agg_count.result c.in_ok-count.count (g.G.HasGraph.graph_of c.index-units-u.result) (graph_at g.G.HasGraph.graph_of c.args.units.now c.loop-u.u c.index-units-u.result (g.G.HasGraph.graph_of c.index-units-u.result) c.loop-u-test.true (ap g.G.HasGraph.graph_of c.index-units-u.is)) c.loop-u.invariant.count (c.agg_count.ensures.count ∙ ap (λ (z : Graph). length z.aggs) c.graph.ensures) c.in_ok-count.ensures;
  arenas = arenas_step (map g.G.HasGraph.graph_of c.args.units.now) c.loop-u.u (g.G.HasGraph.graph_of c.index-units-u.result) (graph_at g.G.HasGraph.graph_of c.args.units.now c.loop-u.u c.index-units-u.result (g.G.HasGraph.graph_of c.index-units-u.result) c.loop-u-test.true (ap g.G.HasGraph.graph_of c.index-units-u.is)) (subst IsArena c.graph.ensures c.agg_count.ensures.arena) c.loop-u.invariant.arenas;
}

pub returns-clause-count : goal.returns-clause-count
returns-clause-count g c = subst (λ l. c.loop-u.count ≡ aggregate_count l) (take_end g.G.HasGraph.graph_of c.args.units.now c.loop-u.u (omega (arith, c.loop-u-test.false))) c.loop-u.invariant.count

pub returns-clause-arenas : goal.returns-clause-arenas
returns-clause-arenas g c = subst AllArenas (take_end g.G.HasGraph.graph_of c.args.units.now c.loop-u.u (omega (arith, c.loop-u-test.false))) c.loop-u.invariant.arenas
