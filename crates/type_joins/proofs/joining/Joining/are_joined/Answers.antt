use Rattle.std.proofs.Common.{◌∙◌}
use Rattle.type_joins.specs.Forests.{root}
use Rattle.type_joins.proofs.StepLaws.{same_root}
use Rattle.type_joins.proofs.joining.Joining.are_joined.Goals as goal

pub returns-in_err-b-clause-kept : goal.returns-in_err-b-clause-kept
returns-in_err-b-clause-kept c = λ y. c.find-2.ensures.kept y ∙ c.find.ensures.kept y

pub returns-clause-kept : goal.returns-clause-kept
returns-clause-kept c = λ y. c.find-2.ensures.kept y ∙ c.find.ensures.kept y

pub returns-clause-same : goal.returns-clause-same
returns-clause-same c = same_root (root c.args.self.now.forest.parents.items) (root c.find.new.self.parents.items) c.args.x c.args.y c.in_ok-a.a c.in_ok-b.b c.in_ok-a.ensures.root c.in_ok-b.ensures.root c.find.ensures.kept
