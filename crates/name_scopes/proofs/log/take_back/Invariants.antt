use Rattle.std.proofs.Common.{◌≡◌, ℕ, ◌-◌, length, take, Option}
use Rattle.name_scopes.specs.Undo.{Agree}
use Rattle.name_scopes.proofs.log.take_back.Given as goal

abbrev pub invariant-loop-i : goal.invariant-loop-i
invariant-loop-i g l = ((before : ℕ → Option g.row.T.Denot) → Agree before l.fn.latest.items l.fn.scope → Agree before l.latest.items (take (length l.fn.scope - l.i) l.fn.scope)) × (length l.latest.items ≡ length l.fn.latest.items)
