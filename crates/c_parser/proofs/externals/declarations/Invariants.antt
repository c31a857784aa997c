use Rattle.std.proofs.Common.{◌≡◌, ◌-◌, length, map}
use Rattle.c_tree.specs.UnitView.{declaration_of}
use Rattle.c_cursor.specs.Lexemes.{ahead}
use Rattle.c_cursor.specs.Classes.{next_is}
use Rattle.c_cursor.specs.Lexemes.{Onward}
use Rattle.c_exprs.specs.ListSteps.{Growing}
use Rattle.c_exprs.specs.DeclaratorReading.{outer_of}
use Rattle.c_parser.specs.StatementWords.{begins_declaration}
use Rattle.c_parser.specs.ExternalReading.{declarations}
use Rattle.c_parser.specs.UnitReading.{lower}
use Rattle.c_parser.proofs.externals.declarations.Given as goal

abbrev pub invariant-loop-alloc : goal.invariant-loop-alloc
invariant-loop-alloc g l = Growing declaration_of (λ y. next_is (begins_declaration y.1)) (lower l.height).declaration l.c.all l.c.at l.ds l.s (declarations (lower l.height) l.fn.s (ahead l.fn.c)) × Onward l.fn.c l.c × (outer_of l.s ≡ outer_of l.fn.s)

abbrev pub decreases-loop-alloc : goal.decreases-loop-alloc
decreases-loop-alloc g l = length l.c.all - l.c.at
