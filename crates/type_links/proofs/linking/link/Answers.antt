use Rattle.type_things.specs.Webs.{things_of}
use Rattle.type_links.proofs.LinkSteps.{link_first, link_whole}
use Rattle.type_links.proofs.linking.link.Goals as goal

pub returns-then-branch : goal.returns-then-branch
returns-then-branch c = link_first (things_of c.args.web.now) c.args.left c.args.right c.in_ok-first_part.field-0 c.in_ok-first_part-2.field-0 c.in_ok-may_differ.field-0 c.in_ok-may_differ.ensures c.if-branch.true c.in_ok-first_part.ensures c.in_ok-first_part-2.ensures

pub returns : goal.returns
returns c = link_whole (things_of c.args.web.now) c.args.left c.args.right c.in_ok-may_differ.field-0 c.in_ok-may_differ.ensures c.if-branch.false
