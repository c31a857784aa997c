use Rattle.std.proofs.Common.{◌≡◌, ℕ, Bool, length}
use Rattle.typedef_scopes.specs.Undo.{Agree}
use Rattle.typedef_scopes.proofs.log.take_back.Given as goal

abbrev pub invariant-loop-d : goal.invariant-loop-d
invariant-loop-d l = ((before : ℕ → Bool) → Agree before l.fn.types.items l.fn.scope.items → Agree before l.types.items l.scope.items) × (length l.types.items ≡ length l.fn.types.items)

abbrev pub decreases-loop-d : goal.decreases-loop-d
decreases-loop-d l = length l.scope.items
