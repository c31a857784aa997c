use Rattle.std.proofs.Common.{nat_eq}
use Rattle.std.specs.List.{IsDistinct}
use Rattle.unit_lower.specs.Externals.{NamesTo}
use Rattle.unit_lower.proofs.sites.differ.Given as goal

abbrev pub invariant-loop-i : goal.invariant-loop-i
invariant-loop-i l = NamesTo l.globals l.i l.seen.keys × IsDistinct nat_eq l.seen.keys
