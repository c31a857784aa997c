use Rattle.std.specs.Prelude.{[], ◌∷◌}
use Rattle.c_tree.specs.Spelling.{literal}
use Rattle.c_speller.specs.Added.{AddedSoFar}
use Rattle.c_speller.proofs.speller.put_literals.Given as goal

abbrev pub invariant-loop-x : goal.invariant-loop-x
invariant-loop-x l = AddedSoFar l.from.names.now l.fn.out l.out (λ t. literal t ∷ []) l.xs l.x-index
