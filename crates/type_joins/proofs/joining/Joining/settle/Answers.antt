use Rattle.type_joins.specs.Forests.{root}
use Rattle.type_things.specs.Webs.{things_of}
use Rattle.type_joins.proofs.StepLaws.{settle_same, settle_roots, settle_turned, found_first, found_second}
use Rattle.type_joins.proofs.joining.Joining.settle.Goals as goal

pub returns-then-a-b-clause-joins : goal.returns-then-a-b-clause-joins
returns-then-a-b-clause-joins c = λ done j. settle_same (things_of c.args.web.now) done (root c.args.self.now.forest.parents.items) (root c.find.new.self.parents.items) (root c.find-2.new.self.parents.items) c.args.self.now.stand.items c.args.self.now.work.items c.args.pair.0 c.args.pair.1 c.in_ok-a.a c.in_ok-b.b c.in_ok-a.ensures.root c.find.ensures.kept c.in_ok-b.ensures.root c.find-2.ensures.kept c.if-a-b.true j

pub join-requires-clause-low : goal.join-requires-clause-low
join-requires-clause-low c = found_first c.args.self.now.forest.parents.items (root c.find.new.self.parents.items) (root c.find-2.new.self.parents.items) c.args.pair.0 c.in_ok-a.a c.requires.forest c.in_ok-a.ensures.root c.find.ensures.kept c.find-2.ensures.kept

pub join-requires-clause-high : goal.join-requires-clause-high
join-requires-clause-high c = found_second c.find.new.self.parents.items (root c.find-2.new.self.parents.items) c.args.pair.1 c.in_ok-b.b c.find.ensures.forest c.in_ok-b.ensures.root c.find-2.ensures.kept

pub join-requires-2-clause-low : goal.join-requires-2-clause-low
join-requires-2-clause-low c = found_second c.find.new.self.parents.items (root c.find-2.new.self.parents.items) c.args.pair.1 c.in_ok-b.b c.find.ensures.forest c.in_ok-b.ensures.root c.find-2.ensures.kept

pub join-requires-2-clause-high : goal.join-requires-2-clause-high
join-requires-2-clause-high c = found_first c.args.self.now.forest.parents.items (root c.find.new.self.parents.items) (root c.find-2.new.self.parents.items) c.args.pair.0 c.in_ok-a.a c.requires.forest c.in_ok-a.ensures.root c.find.ensures.kept c.find-2.ensures.kept

pub returns-then-a-b-2-clause-joins : goal.returns-then-a-b-2-clause-joins
returns-then-a-b-2-clause-joins c = λ done j. c.join.ensures.joins done (settle_roots (things_of c.args.web.now) done (root c.args.self.now.forest.parents.items) (root c.find.new.self.parents.items) (root c.find-2.new.self.parents.items) c.args.self.now.stand.items c.args.self.now.work.items c.args.pair.0 c.args.pair.1 c.in_ok-a.a c.in_ok-b.b c.in_ok-a.ensures.root c.find.ensures.kept c.in_ok-b.ensures.root c.find-2.ensures.kept j)

pub returns-clause-joins : goal.returns-clause-joins
returns-clause-joins c = λ done j. c.join-2.ensures.joins done (settle_turned (things_of c.args.web.now) done (root c.args.self.now.forest.parents.items) (root c.find.new.self.parents.items) (root c.find-2.new.self.parents.items) c.args.self.now.stand.items c.args.self.now.work.items c.args.pair.0 c.args.pair.1 c.in_ok-a.a c.in_ok-b.b c.in_ok-a.ensures.root c.find.ensures.kept c.in_ok-b.ensures.root c.find-2.ensures.kept j)
