use Rattle.c_tree.specs.View.{declarator_of}
use Rattle.c_exprs.proofs.CallLemmas.{reads_declarator}
use Rattle.c_exprs.proofs.calls.declarator.Goals as goal

pub returns-clause-reads : goal.returns-clause-reads
returns-clause-reads g c = rw c.into_tree.ensures (reads_declarator c.args.height c.args.s.now c.args.c.now c.declarator.new.c (declarator_of c.in_ok-declarator.field-0, c.declarator.new.s) c.in_ok-declarator.ensures.gives)
