use Rattle.c_tree.specs.UnitView.{external_of}
use Rattle.c_tree.specs.UnitSpelling.{spell_external}
use Rattle.c_speller.specs.Added.{AddedSoFar}
use Rattle.c_speller.proofs.unit_speller.put_externals.Given as goal

abbrev pub invariant-loop-x : goal.invariant-loop-x
invariant-loop-x l = AddedSoFar l.from.names.now l.fn.out l.out (λ x. spell_external (external_of x)) l.xs l.x-index
