use Rattle.c_cursor.specs.Lexemes.{ahead}
use Rattle.c_parser.proofs.Kept.{statement_kept_below}
use Rattle.c_parser.proofs.statements.+reading.Goals as goal

pub statement_below-returns-clause-outer : goal.statement_below-returns-clause-outer
statement_below-returns-clause-outer g t c = statement_kept_below c.statement.result c.args.height c.args.s.now c.statement.new.s (ahead c.args.c.now) (ahead c.statement.new.c) c.if-height-lt1.false c.statement.ensures.gives
