use Rattle.std.proofs.Common.{map, sym, ◌∙◌}
use Rattle.typedef_scopes.specs.Undo.{pair_of}
use Rattle.typedef_scopes.proofs.UndoLemmas.{step_left, seen_left}
use Rattle.typedef_scopes.proofs.scopes.Scopes.leave.Goals as goal

pub invariant_of-self : goal.invariant_of-self
invariant_of-self c = step_left c.self.inside.types.items c.take_back.new.types.items (map (λ v. v.items) c.self.inside.outer.items) (map (λ v. v.items) c.close_scope.new.outer.items) c.self.inside.inner.items c.close_scope.new.inner.items
    c.close_scope.ensures c.take_back.ensures.back c.take_back.ensures.length c.self.invariant

pub returns : goal.returns
returns c = (
  map pair_of c.self.inside.inner.items,
  sym c.self.view_is ∙ seen_left (map (λ v. v.items) c.self.inside.outer.items) (map (λ v. v.items) c.close_scope.new.outer.items) c.self.inside.inner.items c.close_scope.new.inner.items c.close_scope.ensures,
)
