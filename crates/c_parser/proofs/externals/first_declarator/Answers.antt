use Rattle.c_tree.specs.View.{declarator_of}
use Rattle.c_tree.specs.UnitView.{external_of as tree_of}
use Rattle.c_cursor.specs.Lexemes.{ahead}
use Rattle.c_parser.specs.UnitReading.{lower}
use Rattle.c_parser.proofs.ExternalSteps.{first_then}
use Rattle.c_parser.proofs.externals.first_declarator.Goals as goal

pub returns-clause-gives : goal.returns-clause-gives
returns-clause-gives g c =
    first_then (λ x. (tree_of x, c.defined_or_declared.new.s)) c.defined_or_declared.result (lower c.args.height) c.args.at c.list.result.now c.args.specifiers c.has_typedef.result (declarator_of c.in_ok-d.d)
    c.args.s.now c.declarator_below.new.s c.declare_name.new.s (ahead c.args.c.now) (ahead c.declarator_below.new.c) (ahead c.defined_or_declared.new.c)
    c.has_typedef.ensures c.list.ensures c.in_ok-d.ensures.gives c.in_ok-declare_name.ensures c.defined_or_declared.ensures.gives
