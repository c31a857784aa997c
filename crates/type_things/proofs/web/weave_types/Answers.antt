use Rattle.std.proofs.Common.{map, ap, subst, arith}
use Rattle.type_graph.specs.Arena.{Graph}
use Rattle.type_things.specs.Units.{type_thing, types_from}
use Rattle.type_things.specs.Weaving.{Adds}
use Rattle.type_things.proofs.WovenSteps.{graph_at, take_end, all_types_start, types_step}
use Rattle.type_things.proofs.web.weave_types.Goals as goal

pub loop-u-init : goal.loop-u-init
loop-u-init g c = record { spanned = c.requires; adds = λ types q. all_types_start types (map g.G.HasGraph.graph_of c.args.units.now) c.args.web.now c.requires }

pub loop-u-preserved : goal.loop-u-preserved
loop-u-preserved g c = record {
  spanned = c.in_ok-add_types.ensures.spanned;
  adds = λ types q. types_step (map g.G.HasGraph.graph_of c.args.units.now) types c.loop-u.u c.in_ok-narrow.field-0 c.args.web.now c.loop-u.web c.add_types.new.web c.in_ok-first.first (g.G.HasGraph.graph_of c.index-units-u.result) c.in_ok-narrow.ensures.is c.in_ok-first.ensures (graph_at g.G.HasGraph.graph_of c.args.units.now c.loop-u.u c.index-units-u.result (g.G.HasGraph.graph_of c.index-units-u.result) c.loop-u-test.true (ap g.G.HasGraph.graph_of c.index-units-u.is)) q (c.loop-u.invariant.adds types q)
      (subst (λ (z : Graph). Adds c.loop-u.web c.add_types.new.web (map (type_thing c.in_ok-first.first.aggregate c.in_ok-first.first.ty) z.nodes)) c.graph.ensures c.in_ok-add_types.ensures);
}

pub returns : goal.returns
returns g c = λ types q. subst (λ l. Adds c.args.web.now c.loop-u.web (types_from 0 types l)) (take_end g.G.HasGraph.graph_of c.args.units.now c.loop-u.u (omega (arith, c.loop-u-test.false))) (c.loop-u.invariant.adds types q)
