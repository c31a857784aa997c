use Rattle.c_tree.specs.View.{specifier_of}
use Rattle.c_tree.specs.Scoped.{is_typedef}
use Rattle.c_exprs.specs.Steps.{SomeSoFar}
use Rattle.c_exprs.proofs.told.has_typedef.Given as goal

abbrev pub invariant-loop-x : goal.invariant-loop-x
invariant-loop-x l = SomeSoFar (λ s. is_typedef (specifier_of s)) l.xs l.x-index l.some
