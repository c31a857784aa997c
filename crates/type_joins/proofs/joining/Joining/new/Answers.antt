use Rattle.type_joins.specs.Forests.{root}
use Rattle.type_things.specs.Webs.{things_of}
use Rattle.type_joins.proofs.JoinedLaws.{begins}
use Rattle.type_joins.proofs.joining.Joining.new.Goals as goal

pub returns-clause-joining : goal.returns-clause-joining
returns-clause-joining c = begins (things_of c.args.web.now) (root c.in_ok-new.field-0.parents.items) c.in_ok-counted.field-0.items c.in_ok-new.ensures.own c.in_ok-counted.ensures.own
