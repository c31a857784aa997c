use Rattle.std.proofs.Common.{[], ◌∷◌, ◌++◌, ap, sym, ◌∙◌}
use Rattle.type_iso.proofs.ordering.push_standing.Goals as goal

pub returns-clause-pushed : goal.returns-clause-pushed
returns-clause-pushed c = c.in_ok-push.ensures.items ∙ ap (λ n. c.args.all.now.items ++ n ∷ []) (sym (c.in_ok-own.ensures.is c.args.a))
