use Rattle.std.proofs.Common.{◌-◌, length}
use Rattle.c_cursor.specs.Lexemes.{Onward, ahead}
use Rattle.c_exprs.specs.DeclaratorReading.{more_identifiers}
use Rattle.c_exprs.specs.ListSteps.{Naming}
use Rattle.c_exprs.proofs.parameters.more_identifiers.Given as goal

abbrev pub invariant-loop-c : goal.invariant-loop-c
invariant-loop-c g l = Naming l.s l.c.all l.c.at l.ns.items (more_identifiers l.s l.fn.first.items (ahead l.fn.c)) × Onward l.fn.c l.c

abbrev pub decreases-loop-c : goal.decreases-loop-c
decreases-loop-c g l = length l.c.all - l.c.at
