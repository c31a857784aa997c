use Rattle.std.proofs.Common.{rules, ◌≡◌, ◌<◌, length, get_or, None, refl, ◌++◌, ◌∷◌, []}
use Rattle.name_scopes.proofs.UndoLemmas.{agree_grown, agree_entered}
use Rattle.name_scopes.proofs.log.enter_declaration.Goals as goal

pub returns-clause-agree : goal.returns-clause-agree
returns-clause-agree g c = λ before a.
    let there : c.args.n.0 < length c.grow.new.latest.items = search rules in
    let was : c.told-before.result ≡ get_or c.grow.new.latest.items c.args.n.0 None = search rules in
    let pushed : c.push.new.self.items ≡ c.args.scope.now.items ++ record { name = c.args.n; value = c.args.value; before = c.told-before.result } ∷ [] = search rules in
    agree_entered before c.grow.new.latest.items _ c.args.scope.now.items c.push.new.self.items c.args.n c.args.value c.told-before.result there was refl pushed
    (agree_grown before c.args.latest.now.items c.grow.new.latest.items c.args.scope.now.items c.grow.ensures.grown a)
