use Rattle.type_links.specs.Linking.{IsKept}
use Rattle.type_links.proofs.linking.is_known.Given as goal

abbrev pub invariant-loop-i : goal.invariant-loop-i
invariant-loop-i l = IsKept l.fn.joining l.joining
