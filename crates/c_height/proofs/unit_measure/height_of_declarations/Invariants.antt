use Rattle.c_tree.specs.Capped.{Highest}
use Rattle.c_tree.specs.UnitView.{declaration_of}
use Rattle.c_tree.specs.Height.{declaration_height}
use Rattle.c_height.proofs.unit_measure.height_of_declarations.Given as goal

abbrev pub invariant-loop-x : goal.invariant-loop-x
invariant-loop-x l = Highest (λ d. declaration_height (declaration_of d)) l.xs l.x-index l.most
