use Rattle.std.proofs.Common.{map}
use Rattle.typedef_scopes.proofs.UndoLemmas.{step_opened, two_opened}
use Rattle.typedef_scopes.proofs.scopes.Scopes.enter.Goals as goal

pub invariant_of-self : goal.invariant_of-self
invariant_of-self c = step_opened c.open_scope.result c.self.inside.types.items (map (λ v. v.items) c.self.inside.outer.items) (map (λ v. v.items) c.open_scope.new.outer.items) c.self.inside.inner.items c.open_scope.new.inner.items
    c.open_scope.ensures.opened c.open_scope.ensures.err c.self.invariant

pub returns-clause-room : goal.returns-clause-room
returns-clause-room c = two_opened c.open_scope.result (map (λ v. v.items) c.self.inside.outer.items) (map (λ v. v.items) c.open_scope.new.outer.items) c.self.inside.inner.items c.open_scope.new.inner.items c.open_scope.ensures.opened
