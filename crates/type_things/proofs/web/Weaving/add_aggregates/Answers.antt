use Rattle.std.proofs.Common.{arith}
use Rattle.type_things.specs.Units.{aggregate_thing}
use Rattle.type_things.proofs.WovenSteps.{adds_start, adds_next, adds_end}
use Rattle.type_things.proofs.web.Weaving.add_aggregates.Goals as goal

pub loop-a-init : goal.loop-a-init
loop-a-init c = record { spanned = c.requires.spanned; adds = λ names h. adds_start (aggregate_thing names c.args.self.now.first.ty) c.args.g.now.aggs c.args.web.now c.requires.spanned }

pub loop-a-preserved : goal.loop-a-preserved
loop-a-preserved c = record {
  spanned = (c.in_ok-add_aggregate.ensures c.requires.stems.0 c.requires.stems.1).spanned;
  adds = λ names h. adds_next (aggregate_thing names c.args.self.now.first.ty) c.args.g.now.aggs c.loop-a.a c.agg.result.now c.args.web.now c.loop-a.web c.add_aggregate.new.web c.agg.ensures (c.loop-a.invariant.adds names h) (c.in_ok-add_aggregate.ensures names h);
}

pub returns : goal.returns
returns c = λ names h. adds_end (aggregate_thing names c.args.self.now.first.ty) c.args.g.now.aggs c.loop-a.a c.args.web.now c.loop-a.web (omega (arith, c.loop-a-test.false, c.agg_count-a-end.ensures.count)) (c.loop-a.invariant.adds names h)
