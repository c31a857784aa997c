use Rattle.type_partition.proofs.GatherSteps.{gather_end}
use Rattle.type_joins.specs.Forests.{root}
use Rattle.type_partition.specs.Keys.{num_at}
use Rattle.type_partition.proofs.gathering.gather.Goals as goal

pub returns-clause-partition : goal.returns-clause-partition
returns-clause-partition c = λ ts done st j num.
    gather_end ts c.roots.result done st c.args.forest.parents.items c.join_all.new.forest.parents.items c.args.numbers.now c.in_ok-others.others.items c.deref.result.now c.in_ok-narrow.field-0 c.deref.ensures.value c.in_ok-others.ensures.count c.in_ok-narrow.ensures.is c.in_ok-join_all.ensures.forest j num
    c.in_ok-others.ensures.firsts (c.in_ok-join_all.ensures.gathered ts (root c.args.forest.parents.items) (num_at c.args.numbers.now)) c.roots.ensures.count c.roots.ensures.roots
