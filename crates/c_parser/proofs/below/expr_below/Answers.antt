use Rattle.c_tree.specs.View.{expr_of}
use Rattle.c_cursor.specs.Lexemes.{ahead}
use Rattle.c_parser.proofs.Kept.{expr_kept_below}
use Rattle.c_parser.proofs.below.expr_below.Goals as goal

pub returns-clause-outer : goal.returns-clause-outer
returns-clause-outer g c = expr_kept_below c.args.height c.args.level c.args.s.now c.expr.new.s (expr_of c.in_ok-tree.tree.value) (ahead c.args.c.now) (ahead c.expr.new.c) c.if-height-lt1.false c.in_ok-tree.ensures.gives
