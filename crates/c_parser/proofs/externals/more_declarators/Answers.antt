use Rattle.std.proofs.Common.{map, refl}
use Rattle.c_tree.specs.UnitView.{init_declarator_of, external_of as tree_of}
use Rattle.c_cursor.specs.Lexemes.{ahead}
use Rattle.c_parser.specs.UnitReading.{lower}
use Rattle.c_parser.proofs.ExternalSteps.{more_then}
use Rattle.c_parser.proofs.externals.more_declarators.Goals as goal

pub returns-clause-gives : goal.returns-clause-gives
returns-clause-gives g c =
    more_then (λ x. (tree_of x, c.declarators_from.new.s)) c.declared_with.result (lower c.args.height) c.args.at c.args.specifiers c.args.specifiers (init_declarator_of c.args.first) (map init_declarator_of c.in_ok-ds.ds)
    c.args.s.now c.declarators_from.new.s (ahead c.args.c.now) (ahead c.declarators_from.new.c) (ahead c.declared_with.new.c) refl c.in_ok-ds.ensures.gives c.declared_with.ensures.gives
