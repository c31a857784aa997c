use Rattle.c_tree.specs.UnitView.{declaration_of}
use Rattle.c_tree.specs.UnitSpelling.{spell_declaration}
use Rattle.c_speller.specs.Added.{AddedSoFar}
use Rattle.c_speller.proofs.unit_speller.put_declarations.Given as goal

abbrev pub invariant-loop-x : goal.invariant-loop-x
invariant-loop-x l = AddedSoFar l.from.names.now l.fn.out l.out (λ x. spell_declaration (declaration_of x)) l.xs l.x-index
