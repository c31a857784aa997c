use Rattle.type_links.proofs.LinkSteps.{kept_self, on_any, says_same}
use Rattle.type_links.proofs.linking.says_the_same.Goals as goal

pub returns-then-one-other-clause-kept : goal.returns-then-one-other-clause-kept
returns-then-one-other-clause-kept c = kept_self c.args.joining.now c.requires

pub returns-clause-kept : goal.returns-clause-kept
returns-clause-kept c = on_any c.are_joined.result (record { forest = c.are_joined.ensures.forest; roots = c.are_joined.ensures.kept; stand = c.are_joined.ensures.rest.0; work = c.are_joined.ensures.rest.1 })

pub returns-clause-says : goal.returns-clause-says
returns-clause-says c = says_same c.args.joining.now.forest.parents.items c.are_joined.result c.args.one c.args.other c.if-one-other.false c.are_joined.ensures.same
