use Rattle.c_tree.specs.Told.{AllSoFar}
use Rattle.c_tree.specs.UnitView.{external_of}
use Rattle.c_tree.specs.Levels.{levelled_external}
use Rattle.c_levels.proofs.unit_levelling.externals_fit.Given as goal

abbrev pub invariant-loop-x : goal.invariant-loop-x
invariant-loop-x l = AllSoFar (λ x. levelled_external (external_of x)) l.xs l.x-index l.all
