use Rattle.std.proofs.Common.{◌≡◌, ℕ, ◌<◌, true}
use Rattle.cil_check.specs.Rules.{node_fits_at}
use Rattle.cil_check.proofs.nodes.nodes_fit.Given as goal

abbrev pub invariant-loop-t : goal.invariant-loop-t
invariant-loop-t l = (t : ℕ) → t < l.t → node_fits_at l.g t ≡ true
