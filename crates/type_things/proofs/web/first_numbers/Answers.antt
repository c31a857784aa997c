use Rattle.std.proofs.Common.{◌≡◌, length, map, refl, ap, subst, ◌∙◌, arith}
use Rattle.type_graph.specs.Arena.{Graph}
use Rattle.type_things.specs.Units.{firsts_from}
use Rattle.type_things.specs.Webs.{first_pair}
use Rattle.type_things.proofs.WovenSteps.{graph_at, take_end, count_start, count_step, types_start, types_count_step, firsts_start, firsts_step}
use Rattle.type_things.proofs.web.first_numbers.Goals as goal

pub loop-u-init : goal.loop-u-init
loop-u-init g c = record {
  firsts = ap (map first_pair) c.new-firsts.ensures.items ∙ firsts_start (map g.G.HasGraph.graph_of c.args.units.now) c.args.aggregates;
  aggregate = count_start (map g.G.HasGraph.graph_of c.args.units.now);
  ty = types_start (map g.G.HasGraph.graph_of c.args.units.now) c.args.aggregates;
}

pub loop-u-preserved : goal.loop-u-preserved
loop-u-preserved g c = record {
  firsts = firsts_step (map g.G.HasGraph.graph_of c.args.units.now) c.loop-u.u c.args.aggregates c.loop-u.aggregate c.loop-u.ty c.loop-u.firsts.items c.push.new.self.items _ (g.G.HasGraph.graph_of c.index-units-u.result) (graph_at g.G.HasGraph.graph_of c.args.units.now c.loop-u.u c.index-units-u.result (g.G.HasGraph.graph_of c.index-units-u.result) c.loop-u-test.true (ap g.G.HasGraph.graph_of c.index-units-u.is)) c.in_ok-push.ensures.items refl refl c.loop-u.invariant.aggregate c.loop-u.invariant.ty c.loop-u.invariant.firsts;
  aggregate = count_step (map g.G.HasGraph.graph_of c.args.units.now) c.loop-u.u c.loop-u.aggregate c.agg_count.result c.in_ok-aggregate.aggregate (g.G.HasGraph.graph_of c.index-units-u.result) (graph_at g.G.HasGraph.graph_of c.args.units.now c.loop-u.u c.index-units-u.result (g.G.HasGraph.graph_of c.index-units-u.result) c.loop-u-test.true (ap g.G.HasGraph.graph_of c.index-units-u.is)) c.loop-u.invariant.aggregate (c.agg_count.ensures.count ∙ ap (λ (z : Graph). length z.aggs) c.graph-types.ensures) c.in_ok-aggregate.ensures;
  ty = types_count_step (map g.G.HasGraph.graph_of c.args.units.now) c.loop-u.u c.args.aggregates c.loop-u.ty c.len.result c.in_ok-ty.ty (g.G.HasGraph.graph_of c.index-units-u.result) (graph_at g.G.HasGraph.graph_of c.args.units.now c.loop-u.u c.index-units-u.result (g.G.HasGraph.graph_of c.index-units-u.result) c.loop-u-test.true (ap g.G.HasGraph.graph_of c.index-units-u.is)) c.loop-u.invariant.ty (c.len.ensures.count ∙ ap (λ (z : Graph). length z.nodes) c.graph-types.ensures) c.in_ok-ty.ensures;
}

pub returns : goal.returns
returns g c = subst (λ l. map first_pair c.loop-u.firsts.items ≡ firsts_from 0 c.args.aggregates l) (take_end g.G.HasGraph.graph_of c.args.units.now c.loop-u.u (omega (arith, c.loop-u-test.false))) c.loop-u.invariant.firsts
