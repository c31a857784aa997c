use Rattle.c_tree.specs.View.{expr_of}
use Rattle.c_exprs.proofs.CallLemmas.{reads_expr}
use Rattle.c_exprs.proofs.calls.expr.Goals as goal

pub returns-clause-reads : goal.returns-clause-reads
returns-clause-reads g c = rw c.into_tree.ensures (reads_expr c.args.height c.args.level c.args.s.now c.args.c.now c.expression.new.c (expr_of c.in_ok-expression.field-0, c.expression.new.s) c.in_ok-expression.ensures.gives)
