use Rattle.std.proofs.Common.{◌-◌, length}
use Rattle.c_cursor.specs.Lexemes.{Onward, ahead}
use Rattle.c_cursor.specs.Readers.{one}
use Rattle.c_cursor.specs.Classes.{next_is, is_literal, a_literal}
use Rattle.c_cursor.specs.Literals.{more_literals}
use Rattle.c_cursor.specs.Steps.{Collecting}
use Rattle.c_cursor.proofs.literals.more_literals.Given as goal

abbrev pub invariant-loop-alloc : goal.invariant-loop-alloc
invariant-loop-alloc g l = Collecting (λ ts o. next_is is_literal o) (one a_literal) l.c.all l.c.at l.texts.items (more_literals l.fn.first.items (ahead l.fn.c)) × Onward l.fn.c l.c

abbrev pub decreases-loop-alloc : goal.decreases-loop-alloc
decreases-loop-alloc g l = length l.c.all - l.c.at
