use Rattle.c_tree.specs.Told.{AllSoFar}
use Rattle.c_tree.specs.UnitView.{declaration_of}
use Rattle.c_tree.specs.Levels.{levelled_declaration}
use Rattle.c_levels.proofs.unit_levelling.declarations_fit.Given as goal

abbrev pub invariant-loop-x : goal.invariant-loop-x
invariant-loop-x l = AllSoFar (λ x. levelled_declaration (declaration_of x)) l.xs l.x-index l.all
