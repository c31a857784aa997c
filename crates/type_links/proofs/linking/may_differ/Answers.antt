use Rattle.type_things.specs.Webs.{things_of}
use Rattle.type_links.proofs.LinkSteps.{may_first, may_second, may_third}
use Rattle.type_links.proofs.linking.may_differ.Goals as goal

pub returns-then-lacks_bound : goal.returns-then-lacks_bound
returns-then-lacks_bound c = may_first (things_of c.args.web.now) c.args.left c.args.right c.in_ok-l.l c.in_ok-r.r c.lacks_bound.result c.in_ok-l.ensures c.in_ok-r.ensures c.lacks_bound.ensures c.if-lacks_bound.true

pub returns-then-branch : goal.returns-then-branch
returns-then-branch c = may_second (things_of c.args.web.now) c.args.left c.args.right c.in_ok-l.l c.in_ok-r.r c.lacks_bound.result c.in_ok-one_lacks.field-0 c.in_ok-l.ensures c.in_ok-r.ensures c.lacks_bound.ensures c.if-lacks_bound.false c.in_ok-one_lacks.ensures c.if-branch.true

pub returns : goal.returns
returns c = may_third (things_of c.args.web.now) c.one_lacks-2.result c.args.left c.args.right c.in_ok-l.l c.in_ok-r.r c.lacks_bound.result c.in_ok-one_lacks.field-0 c.in_ok-l.ensures c.in_ok-r.ensures c.lacks_bound.ensures c.if-lacks_bound.false c.in_ok-one_lacks.ensures c.if-branch.false c.one_lacks-2.ensures
