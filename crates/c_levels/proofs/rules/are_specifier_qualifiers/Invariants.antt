use Rattle.c_tree.specs.Told.{AllSoFar}
use Rattle.c_tree.specs.View.{specifier_of}
use Rattle.c_tree.specs.Levels.{is_specifier_qualifier}
use Rattle.c_levels.proofs.rules.are_specifier_qualifiers.Given as goal

abbrev pub invariant-loop-x : goal.invariant-loop-x
invariant-loop-x l = AllSoFar (λ s. is_specifier_qualifier (specifier_of s)) l.xs l.x-index l.all
