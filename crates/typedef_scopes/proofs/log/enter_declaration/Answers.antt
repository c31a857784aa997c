use Rattle.std.proofs.Common.{rules, ◌≡◌, ◌<◌, length, get_or, false, refl, ◌++◌, ◌∷◌, []}
use Rattle.typedef_scopes.proofs.UndoLemmas.{agree_grown, agree_entered}
use Rattle.typedef_scopes.proofs.log.enter_declaration.Goals as goal

pub returns-clause-agree : goal.returns-clause-agree
returns-clause-agree c = λ before a.
    let there : c.args.n.0 < length c.grow.new.types.items = search rules in
    let was : c.told-was_typedef.result ≡ get_or c.grow.new.types.items c.args.n.0 false = search rules in
    let pushed : c.push.new.self.items ≡ c.args.scope.now.items ++ record { name = c.args.n; is_typedef = c.args.is_typedef; was_typedef = c.told-was_typedef.result } ∷ [] = search rules in
    agree_entered before c.grow.new.types.items _ c.args.scope.now.items c.push.new.self.items c.args.n c.args.is_typedef c.told-was_typedef.result there was refl pushed
    (agree_grown before c.args.types.now.items c.grow.new.types.items c.args.scope.now.items c.grow.ensures.grown a)
