use Rattle.std.proofs.Common.{rules, ◌≡◌, length, ◌∙◌, ap, ◌++◌, ◌∷◌, [], length-set}
use Rattle.typedef_scopes.proofs.UndoLemmas.{agree_put_back}
use Rattle.typedef_scopes.proofs.log.take_back.Goals as goal

pub loop-d-preserved : goal.loop-d-preserved
loop-d-preserved c =
    let popped : c.loop-d.scope.items ≡ c.pop.new.self.items ++ c.in-Some.d ∷ [] = search rules in (
      λ before a. agree_put_back before c.loop-d.types.items c.put_back.new.types.items c.pop.new.self.items c.loop-d.scope.items c.in-Some.d popped c.put_back.ensures (c.loop-d.invariant.0 before a),
      ap length c.put_back.ensures ∙ length-set c.loop-d.types.items c.in-Some.d.name.0 c.in-Some.d.was_typedef ∙ c.loop-d.invariant.1,
    )
