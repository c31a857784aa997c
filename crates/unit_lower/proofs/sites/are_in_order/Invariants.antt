use Rattle.std.proofs.Common.{◌≡◌, drop, map}
use Rattle.unit_lower.specs.Externals.{token, rise_from}
use Rattle.unit_lower.proofs.sites.are_in_order.Given as goal

abbrev pub invariant-loop-i : goal.invariant-loop-i
invariant-loop-i l = rise_from l.last (map token (drop l.i l.sites)) ≡ rise_from 0 (map token l.sites)
