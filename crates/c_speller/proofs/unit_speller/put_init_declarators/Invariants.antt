use Rattle.c_tree.specs.UnitView.{init_declarator_of}
use Rattle.c_tree.specs.UnitSpelling.{spell_init_declarator}
use Rattle.c_speller.specs.Added.{CommasSoFar}
use Rattle.c_speller.proofs.unit_speller.put_init_declarators.Given as goal

abbrev pub invariant-loop-x : goal.invariant-loop-x
invariant-loop-x l = CommasSoFar l.from.names.now l.fn.out l.out (λ x. spell_init_declarator (init_declarator_of x)) l.xs l.x-index l.is_more
