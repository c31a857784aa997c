-- Device: which faults have a second place.
use Rattle.std.proofs.Common.{◌≡◌, ℕ, ◌<◌, true, false, Some, None, refl}
use Rattle.cil_base.specs.declared.faults.Fault.{Fault}
use Rattle.cil_base.specs.declared.faults.Fault.TheVariants.{Lexical, Excluded, Syntax, Constraint, Limit, Duplicate, Incompatible}
use Rattle.cil_base.specs.declared.faults.Place.{Place}
use Rattle.merge_refusals.specs.Refusals.{has_two_places, HasOther}

pub has_second : (units : ℕ) (fault : Fault) (place : Place) → has_two_places fault ≡ true → place.unit.0 < units → HasOther units fault (Some place)
has_second units Syntax place two within = (place, refl, within)
has_second units Duplicate place two within = (place, refl, within)
has_second units Incompatible place two within = (place, refl, within)
has_second units Lexical place two within = cc
has_second units (Excluded feature) place two within = cc
has_second units (Constraint code) place two within = cc
has_second units (Limit what) place two within = cc

pub has_none : (units : ℕ) (fault : Fault) → has_two_places fault ≡ false → HasOther units fault None
has_none units Syntax one = cc
has_none units Duplicate one = cc
has_none units Incompatible one = cc
has_none units Lexical one = refl
has_none units (Excluded feature) one = refl
has_none units (Constraint code) one = refl
has_none units (Limit what) one = refl
