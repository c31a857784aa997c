use Rattle.c_tree.specs.View.{specifiers_of, declarator_of}
use Rattle.c_exprs.proofs.CallLemmas.{reads_type_name}
use Rattle.c_exprs.proofs.calls.type_name.Goals as goal

pub returns-clause-reads : goal.returns-clause-reads
returns-clause-reads g c =
    rw c.into_tree.ensures (reads_type_name c.args.height c.args.s.now c.args.c.now c.type_name_within.new.c
    ((specifiers_of c.in_ok-type_name_within.field-0.specifiers.items, declarator_of c.in_ok-type_name_within.field-0.declarator), c.type_name_within.new.s) c.in_ok-type_name_within.ensures.gives)
