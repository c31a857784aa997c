use Rattle.c_tree.specs.View.{init_of}
use Rattle.c_exprs.proofs.CallLemmas.{reads_init}
use Rattle.c_exprs.proofs.calls.initialiser.Goals as goal

pub returns-clause-reads : goal.returns-clause-reads
returns-clause-reads g c = rw c.into_tree.ensures (reads_init c.args.height c.args.s.now c.args.c.now c.initialiser_within.new.c (init_of c.in_ok-initialiser_within.field-0, c.initialiser_within.new.s) c.in_ok-initialiser_within.ensures.gives)
