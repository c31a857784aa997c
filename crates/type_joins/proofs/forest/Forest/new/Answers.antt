use Rattle.type_joins.proofs.StepLaws.{own_roots}
use Rattle.type_joins.proofs.forest.Forest.new.Goals as goal

pub returns-clause-own : goal.returns-clause-own
returns-clause-own c = (own_roots c.in_ok-counted.field-0.items c.in_ok-counted.ensures.own).1
