use Rattle.c_tree.specs.Told.{AllSoFar}
use Rattle.c_tree.specs.UnitView.{init_declarator_of}
use Rattle.c_tree.specs.Levels.{levelled_init_declarator}
use Rattle.c_levels.proofs.unit_levelling.init_declarators_fit.Given as goal

abbrev pub invariant-loop-x : goal.invariant-loop-x
invariant-loop-x l = AllSoFar (λ x. levelled_init_declarator (init_declarator_of x)) l.xs l.x-index l.all
