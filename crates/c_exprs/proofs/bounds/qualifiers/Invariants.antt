use Rattle.std.proofs.Common.{◌-◌, length}
use Rattle.c_cursor.specs.Lexemes.{Onward, ahead}
use Rattle.c_cursor.specs.Readers.{one}
use Rattle.c_cursor.specs.Classes.{next_is}
use Rattle.c_exprs.specs.Classes.{is_qualifier, a_qualifier}
use Rattle.c_exprs.specs.DeclaratorReading.{qualifiers}
use Rattle.c_cursor.specs.Steps.{Collecting}
use Rattle.c_exprs.proofs.bounds.qualifiers.Given as goal

abbrev pub invariant-loop-c : goal.invariant-loop-c
invariant-loop-c g l = Collecting (λ qs. next_is is_qualifier) (one a_qualifier) l.c.all l.c.at l.qs.items (qualifiers (ahead l.fn.c)) × Onward l.fn.c l.c

abbrev pub decreases-loop-c : goal.decreases-loop-c
decreases-loop-c g l = length l.c.all - l.c.at
