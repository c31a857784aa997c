use Rattle.c_tree.specs.View.{specifiers_of}
use Rattle.c_exprs.proofs.CallLemmas.{reads_specifiers}
use Rattle.c_exprs.proofs.calls.specifiers.Goals as goal

pub returns-clause-reads : goal.returns-clause-reads
returns-clause-reads g c = rw c.into_vec.ensures (reads_specifiers c.args.height c.args.s.now c.args.c.now c.specifiers.new.c (specifiers_of c.in_ok-specifiers.field-0, c.specifiers.new.s) c.in_ok-specifiers.ensures.gives)
