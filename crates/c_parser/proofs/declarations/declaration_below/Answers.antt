use Rattle.c_cursor.specs.Lexemes.{ahead}
use Rattle.c_parser.proofs.Kept.{declaration_kept_below}
use Rattle.c_parser.proofs.declarations.declaration_below.Goals as goal

pub returns-clause-outer : goal.returns-clause-outer
returns-clause-outer g c = declaration_kept_below c.declaration.result c.args.height c.args.s.now c.declaration.new.s (ahead c.args.c.now) (ahead c.declaration.new.c) c.if-height-lt1.false c.declaration.ensures.gives
