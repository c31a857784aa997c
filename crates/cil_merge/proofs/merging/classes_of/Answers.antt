use Rattle.cil_merge.specs.Merging.{graphs_of}
use Rattle.cil_merge.proofs.MergingLaws.{clash_refused}
use Rattle.cil_merge.proofs.merging.classes_of.Goals as goal

pub returns-in-Err-clause-refused : goal.returns-in-Err-clause-refused
returns-in-Err-clause-refused c common ls are =
    clash_refused c.args.names.now (graphs_of c.args.units.now) common ls c.args.links.now c.deref-in-Err.result.now c.deref.result.now c.in-Err.stop c.class_stop.result are c.deref-in-Err.ensures.value c.deref.ensures.value c.in-Err.ensures c.class_stop.ensures
