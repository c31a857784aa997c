use Rattle.std.proofs.Common.{◌++◌, [], subst}
use Rattle.type_joins.specs.Forests.{root}
use Rattle.type_joins.specs.Joined.{IsJoining}
use Rattle.type_links.specs.Links.{links_with}
use Rattle.type_links.specs.Linking.{IsKnown, sides_of, FailsCounted}
use Rattle.type_things.specs.Webs.{things_of}
use Rattle.type_joins.proofs.JoinedLaws.{none_of, some_of}
use Rattle.type_links.proofs.LinkSteps.{kept_joining, party_known, party_counted, party_failed, kept_empty, empty_of}
use Rattle.type_links.proofs.linking.join_party.Goals as goal

pub returns-then-branch-clause-forest : goal.returns-then-branch-clause-forest
returns-then-branch-clause-forest c = c.in_ok-is_known.ensures.kept.forest

pub returns-then-branch-clause-empty : goal.returns-then-branch-clause-empty
returns-then-branch-clause-empty c = kept_empty c.args.joining.now c.is_known.new.joining c.in_ok-is_known.ensures.kept c.requires.empty

pub returns-then-branch-clause-joins : goal.returns-then-branch-clause-joins
returns-then-branch-clause-joins c = λ done sides w g place j. party_known (things_of c.args.web.now) done sides c.args.distinct.now.items c.args.later.side c.args.joining.now c.is_known.new.joining w g c.in_ok-is_known.ensures.kept
    (subst (λ l. IsKnown (root c.args.joining.now.forest.parents.items) l c.args.later.side) c.deref.ensures.value (c.in_ok-is_known.ensures.known c.if-branch.true)) j

pub join_with-requires-clause-forest : goal.join_with-requires-clause-forest
join_with-requires-clause-forest c = c.in_ok-is_known.ensures.kept.forest

pub join_with-requires-clause-empty : goal.join_with-requires-clause-empty
join_with-requires-clause-empty c = kept_empty c.args.joining.now c.is_known.new.joining c.in_ok-is_known.ensures.kept c.requires.empty

pub returns-in-Some-clause-joins : goal.returns-in-Some-clause-joins
returns-in-Some-clause-joins c = λ done sides w g place j. party_failed (things_of c.args.web.now) done sides c.args.distinct.now.items c.args.later.side c.in-Some.failed.earlier c.in-Some.failed.pair w g
    (subst (λ l. FailsCounted (things_of c.args.web.now) done l c.args.later.side c.in-Some.failed.earlier c.in-Some.failed.pair) c.deref-2.ensures.value
    (some_of _ _ c.in_ok-join_with.field-0 c.in-Some.failed c.in-Some.is (c.in_ok-join_with.ensures.joins done (kept_joining (things_of c.args.web.now) done [] c.args.joining.now c.is_known.new.joining c.in_ok-is_known.ensures.kept j))))

pub returns-in_ok-count-in-None-clause-forest : goal.returns-in_ok-count-in-None-clause-forest
returns-in_ok-count-in-None-clause-forest c = c.in_ok-count-in-None.ensures.kept.forest

pub returns-in_ok-count-in-None-clause-empty : goal.returns-in_ok-count-in-None-clause-empty
returns-in_ok-count-in-None-clause-empty c = kept_empty c.join_with.new.joining c.count.new.joining c.in_ok-count-in-None.ensures.kept (empty_of c.join_with.new.joining.work.items c.in_ok-join_with.field-0 c.in-None.is c.in_ok-join_with.ensures.empty)

pub returns-in_ok-count-in-None-clause-joins : goal.returns-in_ok-count-in-None-clause-joins
returns-in_ok-count-in-None-clause-joins c = λ done sides w g place j. party_counted (things_of c.args.web.now) done sides c.args.distinct.now.items c.count.new.distinct.items c.args.later c.join_with.new.joining c.count.new.joining w g place c.in_ok-count-in-None.ensures.kept c.in_ok-count-in-None.ensures.counted
    (subst (λ l. IsJoining (things_of c.args.web.now) (done ++ links_with (things_of c.args.web.now) (sides_of l) c.args.later.side) (root c.join_with.new.joining.forest.parents.items) c.join_with.new.joining.stand.items []) c.deref-2.ensures.value
    (none_of _ c.in_ok-join_with.field-0 c.in-None.is (c.in_ok-join_with.ensures.joins done (kept_joining (things_of c.args.web.now) done [] c.args.joining.now c.is_known.new.joining c.in_ok-is_known.ensures.kept j))))
