use Rattle.std.proofs.Common.{get_or, add-one, arith, subst, sym}
use Rattle.std.proofs.lemmas.List.{get_or_default}
use Rattle.type_joins.specs.Forests.{root}
use Rattle.type_partition.specs.Partition.{IsGathering}
use Rattle.type_partition.specs.Gathered.{IsUnion}
use Rattle.type_partition.proofs.GatherSteps.{gather_step}
use Rattle.type_partition.proofs.gathering.join_all.Goals as goal

pub loop-x-preserved : goal.loop-x-preserved
loop-x-preserved c = record {
  forest = c.in_ok-join.ensures.forest;
  gathered = λ ts r i num fs start. subst (IsGathering ts r (λ x. get_or c.args.others.now x x) (root c.join.new.forest.parents.items)) (sym (add-one c.loop-x.x))
      (gather_step ts i r (λ x. get_or c.args.others.now x x) (root c.loop-x.forest.parents.items) (root c.join.new.forest.parents.items) c.loop-x.x num fs
      (subst (λ y. IsUnion c.loop-x.x y (root c.loop-x.forest.parents.items) (root c.join.new.forest.parents.items)) (get_or_default c.args.others.now c.loop-x.x 0 c.loop-x.x (omega (arith, c.loop-x-test.true, c.in_ok-x-end.ensures))) c.in_ok-join.ensures.joined)
      (c.loop-x.invariant.gathered ts r i num fs start));
}

pub returns-clause-gathered : goal.returns-clause-gathered
returns-clause-gathered c = λ ts r i num fs start. subst (IsGathering ts r (λ x. get_or c.args.others.now x x) (root c.loop-x.forest.parents.items)) (omega (arith, c.loop-x-test.false, c.in_ok-x-end.ensures, c.loop-x.auto.x-end)) (c.loop-x.invariant.gathered ts r i num fs start)
