use Rattle.unit_lower.specs.Externals.{ListsTo}
use Rattle.unit_lower.proofs.sites.found_sites.Given as goal

abbrev pub invariant-loop-i : goal.invariant-loop-i
invariant-loop-i l = ListsTo l.globals l.i l.sites.items
