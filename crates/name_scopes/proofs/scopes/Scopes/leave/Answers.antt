use Rattle.std.proofs.Common.{◌≡◌, map, subst, sym, ◌∙◌}
use Rattle.name_scopes.specs.Undo.{Agree}
use Rattle.name_scopes.proofs.UndoLemmas.{step_left}
use Rattle.name_scopes.proofs.scopes.Scopes.leave.Goals as goal

pub invariant_of-self-in-Some : goal.invariant_of-self-in-Some
invariant_of-self-in-Some g c =
    let taken : c.in-Some.scope.items ≡ c.self.inside.inner.items = c.in-Some.ensures.closed.1 in
    step_left c.self.inside.latest.items c.take_back.new.latest.items (map (λ v. v.items) c.self.inside.outer.items) (map (λ v. v.items) c.close_scope.new.outer.items) c.self.inside.inner.items c.close_scope.new.inner.items
    c.in-Some.ensures.closed.0 (λ f a. c.take_back.ensures.back f (subst (Agree f c.self.inside.latest.items) (sym taken ∙ sym c.deref.ensures.value) a)) c.take_back.ensures.length c.self.invariant
