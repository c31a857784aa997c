use Rattle.std.specs.Prelude.{[], ◌∷◌}
use Rattle.c_tree.specs.Spelling.{named}
use Rattle.c_speller.specs.Added.{CommasSoFar}
use Rattle.c_speller.proofs.speller.put_names.Given as goal

abbrev pub invariant-loop-x : goal.invariant-loop-x
invariant-loop-x l = CommasSoFar l.from.names.now l.fn.out l.out (λ n. named n ∷ []) l.xs l.x-index l.is_more
