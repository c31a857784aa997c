use Rattle.std.proofs.Common.{◌++◌, [], map, take, refl, arith}
use Rattle.type_joins.specs.Forests.{root}
use Rattle.type_links.specs.Links.{side_of, links_behind}
use Rattle.type_things.specs.Webs.{things_of, first_pairs}
use Rattle.type_joins.proofs.JoinedLaws.{none_of, some_of}
use Rattle.type_links.proofs.LinkSteps.{empty_of, group_start, group_place, group_next, group_fails, group_end}
use Rattle.type_links.proofs.linking.join_group.Goals as goal

pub loop-later-init : goal.loop-later-init
loop-later-init c = record {
  forest = c.requires.forest;
  empty = c.requires.empty;
  joins = λ done w j. group_start (things_of c.args.web.now) (side_of (first_pairs c.args.web.now)) done c.args.parties.now (root c.args.joining.now.forest.parents.items) c.args.joining.now.stand.items c.new-distinct.result.items c.new-distinct.ensures.items j;
}

pub loop-later-preserved : goal.loop-later-preserved
loop-later-preserved c = record {
  forest = c.in_ok-join_party.ensures.forest;
  empty = empty_of c.join_party.new.joining.work.items c.in_ok-join_party.field-0 c.in-None.is c.in_ok-join_party.ensures.empty;
  joins = λ done w j. (
      let k = c.loop-later.invariant.joins done w j in
      group_next (things_of c.args.web.now) (side_of (first_pairs c.args.web.now)) done c.args.parties.now c.loop-later.later _ c.in_ok-side.side (root c.join_party.new.joining.forest.parents.items) c.join_party.new.joining.stand.items c.join_party.new.distinct.items (omega (arith, c.loop-later-test.true, c.in_ok-later-end.ensures)) c.in_ok-side.ensures
      (none_of _ c.in_ok-join_party.field-0 c.in-None.is (c.in_ok-join_party.ensures.joins (done ++ links_behind (things_of c.args.web.now) [] (take c.loop-later.later (map (side_of (first_pairs c.args.web.now)) c.args.parties.now))) (take c.loop-later.later (map (side_of (first_pairs c.args.web.now)) c.args.parties.now)) w k.1 (group_place (things_of c.args.web.now) (side_of (first_pairs c.args.web.now)) done c.args.parties.now c.loop-later.later (omega (arith, c.loop-later-test.true, c.in_ok-later-end.ensures))) k.0)));
}

pub returns-in-Some-clause-joins : goal.returns-in-Some-clause-joins
returns-in-Some-clause-joins c = λ done w j. (
    let k = c.loop-later.invariant.joins done w j in (
      refl,
      group_fails (things_of c.args.web.now) (side_of (first_pairs c.args.web.now)) done c.args.parties.now c.loop-later.later _ c.in_ok-side.side c.in-Some.failed.earlier c.in-Some.failed.pair (omega (arith, c.loop-later-test.true, c.in_ok-later-end.ensures)) c.in_ok-side.ensures
          (some_of _ _ c.in_ok-join_party.field-0 c.in-Some.failed c.in-Some.is (c.in_ok-join_party.ensures.joins (done ++ links_behind (things_of c.args.web.now) [] (take c.loop-later.later (map (side_of (first_pairs c.args.web.now)) c.args.parties.now))) (take c.loop-later.later (map (side_of (first_pairs c.args.web.now)) c.args.parties.now)) w k.1 (group_place (things_of c.args.web.now) (side_of (first_pairs c.args.web.now)) done c.args.parties.now c.loop-later.later (omega (arith, c.loop-later-test.true, c.in_ok-later-end.ensures))) k.0)),
    ))

pub returns-clause-joins : goal.returns-clause-joins
returns-clause-joins c = λ done w j. group_end (things_of c.args.web.now) (side_of (first_pairs c.args.web.now)) done c.args.parties.now c.loop-later.later (root c.loop-later.joining.forest.parents.items) c.loop-later.joining.stand.items c.loop-later.distinct.items (omega (arith, c.loop-later-test.false, c.in_ok-later-end.ensures)) (c.loop-later.invariant.joins done w j)
