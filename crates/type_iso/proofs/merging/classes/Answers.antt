use Rattle.std.proofs.Common.{map}
use Rattle.type_links.specs.Links.{sides_in, links_of}
use Rattle.type_things.specs.Webs.{things_of, first_pairs}
use Rattle.type_joins.proofs.JoinedLaws.{none_of, some_of}
use Rattle.type_iso.proofs.ClassLaws.{are_classes, refused, woven_whole, woven_web, woven_within}
use Rattle.type_iso.proofs.merging.classes.Goals as goal

pub classed-requires-clause-web : goal.classed-requires-clause-web
classed-requires-clause-web g c = woven_web c.args.names.now (map g.G.HasGraph.graph_of c.args.units.now) c.in_ok-web.web c.in_ok-web.ensures

pub classed-requires-clause-within : goal.classed-requires-clause-within
classed-requires-clause-within g c = woven_within c.args.names.now (map g.G.HasGraph.graph_of c.args.units.now) c.in_ok-web.web c.in_ok-web.ensures

pub classed-requires-clause-forest : goal.classed-requires-clause-forest
classed-requires-clause-forest g c = c.in_ok-join_groups.ensures.forest

pub returns-in_ok-clash-in-Some : goal.returns-in_ok-clash-in-Some
returns-in_ok-clash-in-Some g c = refused c.args.names.now (map g.G.HasGraph.graph_of c.args.units.now) c.args.groups.now c.in_ok-web.web c.in-Some.failure c.in_ok-clash-in-Some.field-0 c.in_ok-web.ensures c.in_ok-clash-in-Some.ensures
    (some_of _ _ c.in_ok-join_groups.field-0 c.in-Some.failure c.in-Some.is (c.in_ok-join_groups.ensures.joins (woven_whole c.args.names.now (map g.G.HasGraph.graph_of c.args.units.now) c.in_ok-web.web c.in_ok-web.ensures) c.in_ok-joining.ensures.joining))

pub returns-in_ok-classed-in-None : goal.returns-in_ok-classed-in-None
returns-in_ok-classed-in-None g c =
    let k = c.in_ok-classed-in-None.ensures (links_of (things_of c.in_ok-web.web) (map (sides_in (first_pairs c.in_ok-web.web)) c.args.groups.now))
    (none_of _ c.in_ok-join_groups.field-0 c.in-None.is (c.in_ok-join_groups.ensures.joins (woven_whole c.args.names.now (map g.G.HasGraph.graph_of c.args.units.now) c.in_ok-web.web c.in_ok-web.ensures) c.in_ok-joining.ensures.joining)) in
    are_classes c.args.names.now (map g.G.HasGraph.graph_of c.args.units.now) c.args.groups.now c.in_ok-classed-in-None.field-0 c.in_ok-web.web k.1.0 c.in_ok-web.ensures k.0 k.1.1 k.1.2 k.1.3
