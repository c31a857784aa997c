use Rattle.std.proofs.Common.{◌++◌, take}
use Rattle.type_things.specs.Things.{IsClash}
use Rattle.type_joins.specs.Forests.{root}
use Rattle.type_links.specs.Links.{links_with}
use Rattle.type_links.specs.Linking.{sides_of}
use Rattle.type_things.specs.Webs.{things_of}
use Rattle.type_joins.proofs.JoinedLaws.{none_of, some_of}
use Rattle.type_links.proofs.LinkSteps.{counted_start, counted_next, counted_fails, counted_end, empty_of}
use Rattle.type_links.proofs.linking.join_with.Goals as goal

pub loop-i-init : goal.loop-i-init
loop-i-init c = record {
  forest = c.requires.forest;
  empty = c.requires.empty;
  joins = λ done j. counted_start (things_of c.args.web.now) done (root c.args.joining.now.forest.parents.items) c.args.joining.now.stand.items j;
}

pub loop-i-preserved : goal.loop-i-preserved
loop-i-preserved c = record {
  forest = c.in_ok-join_link.ensures.forest;
  empty = empty_of c.join_link.new.joining.work.items c.in_ok-join_link.field-0 c.in-None.is c.in_ok-join_link.ensures.empty;
  joins = λ done j. counted_next (things_of c.args.web.now) done c.args.distinct.now c.loop-i.i _ c.args.later (root c.join_link.new.joining.forest.parents.items) c.join_link.new.joining.stand.items c.loop-i-test.true
      (none_of (IsClash (things_of c.args.web.now) _) c.in_ok-join_link.field-0 c.in-None.is (c.in_ok-join_link.ensures.joins (done ++ links_with (things_of c.args.web.now) (sides_of (take c.loop-i.i c.args.distinct.now)) c.args.later) (c.loop-i.invariant.joins done j)));
}

pub returns-in-Some-clause-joins : goal.returns-in-Some-clause-joins
returns-in-Some-clause-joins c = λ done j. counted_fails (things_of c.args.web.now) done c.args.distinct.now c.loop-i.i _ c.args.later (root c.loop-i.joining.forest.parents.items) c.loop-i.joining.stand.items c.in-Some.pair c.loop-i-test.true (c.loop-i.invariant.joins done j)
    (some_of _ (IsClash (things_of c.args.web.now) _) c.in_ok-join_link.field-0 c.in-Some.pair c.in-Some.is (c.in_ok-join_link.ensures.joins (done ++ links_with (things_of c.args.web.now) (sides_of (take c.loop-i.i c.args.distinct.now)) c.args.later) (c.loop-i.invariant.joins done j)))

pub returns-clause-joins : goal.returns-clause-joins
returns-clause-joins c = λ done j. counted_end (things_of c.args.web.now) done c.args.distinct.now c.loop-i.i c.args.later (root c.loop-i.joining.forest.parents.items) c.loop-i.joining.stand.items c.loop-i-test.false (c.loop-i.invariant.joins done j)
