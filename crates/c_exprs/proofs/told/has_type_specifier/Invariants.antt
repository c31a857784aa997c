use Rattle.c_tree.specs.View.{specifier_of}
use Rattle.c_tree.specs.Scoped.{names_type}
use Rattle.c_exprs.specs.Steps.{SomeSoFar}
use Rattle.c_exprs.proofs.told.has_type_specifier.Given as goal

abbrev pub invariant-loop-x : goal.invariant-loop-x
invariant-loop-x l = SomeSoFar (λ s. names_type (specifier_of s)) l.xs l.x-index l.some
