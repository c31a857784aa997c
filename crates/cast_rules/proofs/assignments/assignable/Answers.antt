use Rattle.cast_rules.proofs.Assigned.{pointer_assigned}
use Rattle.cast_rules.proofs.assignments.assignable.Goals as goal

pub returns-in-Ptr : goal.returns-in-Ptr
returns-in-Ptr c = pointer_assigned c.args.t.now c.args.e.now _ _ _ _ c.in-Ptr.ensures.0 (c.is_for_pointer.ensures c.in-Ptr.ensures.1.1)
