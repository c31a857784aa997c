use Rattle.std.proofs.Common.{map, ap, subst, arith}
use Rattle.type_graph.specs.Arena.{Graph}
use Rattle.type_things.specs.Units.{aggregate_thing, aggregates_from}
use Rattle.type_things.specs.Weaving.{Adds}
use Rattle.type_things.proofs.WovenSteps.{graph_at, take_end, aggregates_start, aggregates_step}
use Rattle.type_things.proofs.web.weave_aggregates.Goals as goal

pub loop-u-init : goal.loop-u-init
loop-u-init g c = record { spanned = c.requires.spanned; adds = λ names types h q. aggregates_start names types (map g.G.HasGraph.graph_of c.args.units.now) c.args.web.now c.requires.spanned }

pub loop-u-preserved : goal.loop-u-preserved
loop-u-preserved g c = record {
  spanned = (c.in_ok-add_aggregates.ensures c.requires.stems.0 c.requires.stems.1).spanned;
  adds = λ names types h q. aggregates_step names (map g.G.HasGraph.graph_of c.args.units.now) types c.loop-u.u c.in_ok-narrow.field-0 c.args.web.now c.loop-u.web c.add_aggregates.new.web c.in_ok-first.first (g.G.HasGraph.graph_of c.index-units-u.result) c.in_ok-narrow.ensures.is c.in_ok-first.ensures (graph_at g.G.HasGraph.graph_of c.args.units.now c.loop-u.u c.index-units-u.result (g.G.HasGraph.graph_of c.index-units-u.result) c.loop-u-test.true (ap g.G.HasGraph.graph_of c.index-units-u.is)) q (c.loop-u.invariant.adds names types h q)
      (subst (λ (z : Graph). Adds c.loop-u.web c.add_aggregates.new.web (map (aggregate_thing names c.in_ok-first.first.ty) z.aggs)) c.graph.ensures (c.in_ok-add_aggregates.ensures names h));
}

pub returns : goal.returns
returns g c = λ names types h q. subst (λ l. Adds c.args.web.now c.loop-u.web (aggregates_from names types l)) (take_end g.G.HasGraph.graph_of c.args.units.now c.loop-u.u (omega (arith, c.loop-u-test.false))) (c.loop-u.invariant.adds names types h q)
