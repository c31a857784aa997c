use Rattle.std.proofs.Common.{arith}
use Rattle.type_joins.specs.Forests.{root}
use Rattle.type_joins.proofs.StepLaws.{found_first, found_second}
use Rattle.type_partition.proofs.FoundLaws.{union_same, union_low, union_high}
use Rattle.type_partition.proofs.gathering.join.Goals as goal

pub join-requires-clause-low : goal.join-requires-clause-low
join-requires-clause-low c = found_first c.args.forest.now.parents.items (root c.find.new.self.parents.items) (root c.find-2.new.self.parents.items) c.args.x c.in_ok-a.a c.requires.forest c.in_ok-a.ensures.root c.find.ensures.kept c.find-2.ensures.kept

pub join-requires-clause-high : goal.join-requires-clause-high
join-requires-clause-high c = found_second c.find.new.self.parents.items (root c.find-2.new.self.parents.items) c.args.y c.in_ok-b.b c.find.ensures.forest c.in_ok-b.ensures.root c.find-2.ensures.kept

pub join-requires-2-clause-low : goal.join-requires-2-clause-low
join-requires-2-clause-low c = found_second c.find.new.self.parents.items (root c.find-2.new.self.parents.items) c.args.y c.in_ok-b.b c.find.ensures.forest c.in_ok-b.ensures.root c.find-2.ensures.kept

pub join-requires-2-clause-high : goal.join-requires-2-clause-high
join-requires-2-clause-high c = found_first c.args.forest.now.parents.items (root c.find.new.self.parents.items) (root c.find-2.new.self.parents.items) c.args.x c.in_ok-a.a c.requires.forest c.in_ok-a.ensures.root c.find.ensures.kept c.find-2.ensures.kept

pub returns-then-a-b-clause-joined : goal.returns-then-a-b-clause-joined
returns-then-a-b-clause-joined c = union_same (root c.args.forest.now.parents.items) (root c.find.new.self.parents.items) (root c.find-2.new.self.parents.items) c.args.x c.args.y c.in_ok-a.a c.in_ok-b.b c.in_ok-a.ensures.root c.find.ensures.kept c.in_ok-b.ensures.root c.find-2.ensures.kept c.if-a-b.true

pub returns-then-a-b-2-clause-joined : goal.returns-then-a-b-2-clause-joined
returns-then-a-b-2-clause-joined c = union_low c.join.result (root c.args.forest.now.parents.items) (root c.find.new.self.parents.items) (root c.find-2.new.self.parents.items) (root c.join.new.self.parents.items) c.args.x c.args.y c.in_ok-a.a c.in_ok-b.b c.in_ok-a.ensures.root c.find.ensures.kept c.in_ok-b.ensures.root c.find-2.ensures.kept c.if-a-b-2.true c.join.ensures.joined

pub returns-clause-joined : goal.returns-clause-joined
returns-clause-joined c = union_high c.join-2.result (root c.args.forest.now.parents.items) (root c.find.new.self.parents.items) (root c.find-2.new.self.parents.items) (root c.join-2.new.self.parents.items) c.args.x c.args.y c.in_ok-a.a c.in_ok-b.b c.in_ok-a.ensures.root c.find.ensures.kept c.in_ok-b.ensures.root c.find-2.ensures.kept (omega (arith, c.if-a-b-2.false, c.if-a-b.false)) c.join-2.ensures.joined
