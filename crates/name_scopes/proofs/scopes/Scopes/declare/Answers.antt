use Rattle.std.proofs.Common.{map}
use Rattle.name_scopes.proofs.UndoLemmas.{step_declared, step_or_same}
use Rattle.name_scopes.proofs.scopes.Scopes.declare.Goals as goal

pub invariant_of-self : goal.invariant_of-self
invariant_of-self g c = step_declared c.self.inside.latest.items c.enter_declaration.new.latest.items (map (λ v. v.items) c.self.inside.outer.items) c.self.inside.inner.items c.enter_declaration.new.scope.items
    c.enter_declaration.ensures.agree c.enter_declaration.ensures.longer c.self.invariant

pub returns-clause-ok : goal.returns-clause-ok
returns-clause-ok g c = step_or_same c.enter_declaration.result (map (λ v. v.items) c.self.inside.outer.items) c.self.inside.inner.items c.enter_declaration.new.scope.items c.args.n c.args.value c.args.self.now
    c.enter_declaration.ensures.ok c.self.view_is
