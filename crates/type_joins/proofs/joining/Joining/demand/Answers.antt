use Rattle.std.proofs.Common.{◌∷◌, [], ◌++◌, subst, sym, ap, ◌∙◌}
use Rattle.type_joins.specs.Forests.{root}
use Rattle.type_joins.specs.Joined.{IsJoining}
use Rattle.type_things.specs.Webs.{things_of}
use Rattle.type_joins.proofs.joining.Joining.demand.Goals as goal

pub returns-clause-joins : goal.returns-clause-joins
returns-clause-joins c = λ done j. c.close.ensures.joins done (subst (IsJoining (things_of c.args.web.now) done (root c.args.self.now.forest.parents.items) c.args.self.now.stand.items) (sym (c.in_ok-push.ensures.items ∙ ap (λ w. w ++ (c.args.x, c.args.y) ∷ []) c.requires.empty)) j)
