use Rattle.std.proofs.Common.{◌≡◌, ◌++◌, [], map, take, subst, arith}
use Rattle.type_joins.specs.Forests.{root}
use Rattle.type_joins.specs.Joined.{IsJoining}
use Rattle.type_links.specs.Links.{side_of, sides_in, links_of, links_behind}
use Rattle.type_links.specs.Linking.{FailsAmong}
use Rattle.type_things.specs.Webs.{things_of, first_pairs}
use Rattle.type_joins.proofs.JoinedLaws.{none_of, some_of}
use Rattle.type_links.proofs.LinkSteps.{empty_of, name_next, name_fails_at, name_end}
use Rattle.type_links.proofs.linking.join_groups.Goals as goal

pub loop-g-init : goal.loop-g-init
loop-g-init c = record { forest = c.requires.forest; empty = c.requires.empty; joins = λ w j. j }

pub loop-g-preserved : goal.loop-g-preserved
loop-g-preserved c = record {
  forest = c.in_ok-join_group.ensures.forest;
  empty = empty_of c.join_group.new.joining.work.items c.in_ok-join_group.field-0 c.in-None.is c.in_ok-join_group.ensures.empty;
  joins = λ w j. name_next (things_of c.args.web.now) (sides_in (first_pairs c.args.web.now)) c.args.groups.now c.loop-g.g _ (root c.join_group.new.joining.forest.parents.items) c.join_group.new.joining.stand.items (omega (arith, c.loop-g-test.true, c.in_ok-g-end.ensures))
      (subst (λ l. IsJoining (things_of c.args.web.now) (links_of (things_of c.args.web.now) (take c.loop-g.g (map (sides_in (first_pairs c.args.web.now)) c.args.groups.now)) ++ links_behind (things_of c.args.web.now) [] (map (side_of (first_pairs c.args.web.now)) l)) (root c.join_group.new.joining.forest.parents.items) c.join_group.new.joining.stand.items []) c.deref.ensures.value
      (none_of _ c.in_ok-join_group.field-0 c.in-None.is (c.in_ok-join_group.ensures.joins (links_of (things_of c.args.web.now) (take c.loop-g.g (map (sides_in (first_pairs c.args.web.now)) c.args.groups.now))) w (c.loop-g.invariant.joins w j))));
}

pub returns-in-Some-clause-joins : goal.returns-in-Some-clause-joins
returns-in-Some-clause-joins c = λ w j. name_fails_at (things_of c.args.web.now) (sides_in (first_pairs c.args.web.now)) c.args.groups.now c.loop-g.g _ c.in-Some.failure.group c.in-Some.failure.earlier c.in-Some.failure.later c.in-Some.failure.pair (omega (arith, c.loop-g-test.true, c.in_ok-g-end.ensures))
    (subst (λ l. (c.in-Some.failure.group ≡ c.loop-g.g) × FailsAmong (things_of c.args.web.now) (links_of (things_of c.args.web.now) (take c.loop-g.g (map (sides_in (first_pairs c.args.web.now)) c.args.groups.now))) (map (side_of (first_pairs c.args.web.now)) l) c.in-Some.failure.earlier c.in-Some.failure.later c.in-Some.failure.pair) c.deref.ensures.value
    (some_of _ _ c.in_ok-join_group.field-0 c.in-Some.failure c.in-Some.is (c.in_ok-join_group.ensures.joins (links_of (things_of c.args.web.now) (take c.loop-g.g (map (sides_in (first_pairs c.args.web.now)) c.args.groups.now))) w (c.loop-g.invariant.joins w j))))

pub returns-clause-joins : goal.returns-clause-joins
returns-clause-joins c = λ w j. name_end (things_of c.args.web.now) (sides_in (first_pairs c.args.web.now)) c.args.groups.now c.loop-g.g (root c.loop-g.joining.forest.parents.items) c.loop-g.joining.stand.items (omega (arith, c.loop-g-test.false, c.in_ok-g-end.ensures)) (c.loop-g.invariant.joins w j)
