use Rattle.std.proofs.Common.{◌≡◌, All, take}
use Rattle.cil_base.specs.declared.kinds.Abi.TheVariants.{Lp64}
use Rattle.linked_tests.proofs.linked.all_alike.Given as goal

abbrev pub invariant-loop-i : goal.invariant-loop-i
invariant-loop-i l = All (λ u. u.graph.abi ≡ Lp64) (take l.i l.units)
