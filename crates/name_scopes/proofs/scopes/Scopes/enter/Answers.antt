use Rattle.std.proofs.Common.{map}
use Rattle.name_scopes.proofs.UndoLemmas.{step_opened}
use Rattle.name_scopes.proofs.scopes.Scopes.enter.Goals as goal

pub invariant_of-self : goal.invariant_of-self
invariant_of-self g c = step_opened c.open_scope.result c.self.inside.latest.items (map (λ v. v.items) c.self.inside.outer.items) (map (λ v. v.items) c.open_scope.new.outer.items) c.self.inside.inner.items c.open_scope.new.inner.items
    c.open_scope.ensures.opened c.open_scope.ensures.err c.self.invariant
