use Rattle.c_tree.specs.Capped.{Highest}
use Rattle.c_tree.specs.UnitView.{init_declarator_of}
use Rattle.c_tree.specs.Height.{init_declarator_height}
use Rattle.c_height.proofs.unit_measure.height_of_init_declarators.Given as goal

abbrev pub invariant-loop-x : goal.invariant-loop-x
invariant-loop-x l = Highest (λ d. init_declarator_height (init_declarator_of d)) l.xs l.x-index l.most
