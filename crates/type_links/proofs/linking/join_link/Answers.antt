use Rattle.std.proofs.Common.{◌∷◌, [], ◌++◌}
use Rattle.type_joins.specs.Forests.{root}
use Rattle.type_links.specs.Links.{link}
use Rattle.type_things.specs.Webs.{things_of}
use Rattle.type_links.proofs.LinkSteps.{link_asked}
use Rattle.type_links.proofs.linking.join_link.Goals as goal

pub returns-clause-joins : goal.returns-clause-joins
returns-clause-joins c = λ done j. c.demand.ensures.joins (done ++ link (things_of c.args.web.now) c.args.left c.args.right ∷ [])
    (link_asked (things_of c.args.web.now) done (root c.args.joining.now.forest.parents.items) c.args.joining.now.stand.items c.in_ok-pair.pair c.args.left c.args.right c.in_ok-pair.ensures j)
