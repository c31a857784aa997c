use Rattle.std.proofs.Common.{map, refl, ap, ◌∙◌}
use Rattle.type_things.specs.Webs.{first_pair}
use Rattle.type_things.proofs.WovenSteps.{woven, spanned_none}
use Rattle.type_things.proofs.web.weave.Goals as goal

pub weave_aggregates-requires-clause-spanned : goal.weave_aggregates-requires-clause-spanned
weave_aggregates-requires-clause-spanned g c = spanned_none _ _ c.new-2.ensures.items

pub weave_aggregates-requires-clause-stems : goal.weave_aggregates-requires-clause-stems
weave_aggregates-requires-clause-stems g c = (c.args.names.now, c.in_ok-stems.ensures)

pub weave_types-requires : goal.weave_types-requires
weave_types-requires g c = (c.in_ok-weave_aggregates.ensures c.args.names.now c.in_ok-aggregates.aggregates c.in_ok-stems.ensures c.in_ok-firsts.ensures).spanned

pub returns : goal.returns
returns g c =
    let added = c.in_ok-weave_aggregates.ensures c.args.names.now c.in_ok-aggregates.aggregates c.in_ok-stems.ensures c.in_ok-firsts.ensures in
    woven c.args.names.now (map g.G.HasGraph.graph_of c.args.units.now) _ c.weave_aggregates.new.web c.weave_types.new.web c.in_ok-aggregates.aggregates c.in_ok-aggregates.ensures.count c.new-2.ensures.items refl c.in_ok-firsts.ensures added
    (c.in_ok-weave_types.ensures c.in_ok-aggregates.aggregates (ap (λ v. map first_pair v.items) added.firsts ∙ c.in_ok-firsts.ensures)) c.in_ok-aggregates.ensures.arenas
