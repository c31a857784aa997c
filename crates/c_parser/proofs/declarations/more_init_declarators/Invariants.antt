use Rattle.std.proofs.Common.{◌-◌, length, map}
use Rattle.c_tree.specs.UnitView.{init_declarator_of}
use Rattle.c_cursor.specs.Lexemes.{ahead}
use Rattle.c_exprs.specs.Subs.{comma_ahead, behind_comma, more_listed}
use Rattle.c_cursor.specs.Lexemes.{Onward}
use Rattle.c_exprs.specs.ListSteps.{Growing}
use Rattle.c_parser.specs.DeclarationReading.{init_declarator}
use Rattle.c_parser.specs.UnitReading.{lower}
use Rattle.c_parser.proofs.declarations.more_init_declarators.Given as goal

abbrev pub invariant-loop-alloc : goal.invariant-loop-alloc
invariant-loop-alloc g l = Growing init_declarator_of (λ y. comma_ahead) (behind_comma (init_declarator (lower l.height) l.typedef)) l.c.all l.c.at l.ds l.s (more_listed (init_declarator (lower l.height) l.typedef) (map init_declarator_of l.fn.first, l.fn.s) (ahead l.fn.c)) × Onward l.fn.c l.c

abbrev pub decreases-loop-alloc : goal.decreases-loop-alloc
decreases-loop-alloc g l = length l.c.all - l.c.at
