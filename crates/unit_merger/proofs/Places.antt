-- Device: the first token of the first unit.
use Rattle.std.proofs.Common.{◌≡◌, ℕ, ◌≤◌, List, length, Some, slice_get, Result, Ok, Err, IfOk, sym, subst}
use Rattle.cil_base.specs.declared.numbers.UnitNo.{UnitNo}
use Rattle.cil_base.specs.declared.numbers.NameId.{NameId}
use Rattle.cil_base.specs.declared.faults.Place.{Place}
use Rattle.cil_base.specs.declared.faults.Stop.{Stop}
use Rattle.cil_base.specs.declared.faults.Stop.TheVariants as stops
use Rattle.c_lexer.specs.Lexed.{Lexed, PlacesWithin, IfRefused, place_at}
use Rattle.merge_refusals.specs.Refusals.{IfRefusal}
use Rattle.unit_front.proofs.Causes.{Cut, has_tokens}
use Rattle.unit_front.proofs.Files.{kept}
use Rattle.unit_merger.specs.Naming.{IsNamed}
use Rattle.unit_merger.specs.Units.{IsPlaceAmong}
use Rattle.unit_merger.proofs.InOrder.{stands, stopped}

pub first_among : (r : Result Place Stop) (units files : List (List ℕ)) (bytes : List ℕ) (unit : UnitNo) (file : NameId) (old new : List (List ℕ)) (t : Lexed) → slice_get units 0 ≡ Some bytes → IsNamed files 0 unit file old
    → length bytes ≤ 4194304 → Cut t bytes unit file old new → PlacesWithin (length new) t → IfOk r (λ place. place_at t 0 ≡ Some place) → IfOk r (IsPlaceAmong units files new)
first_among (Ok place) units files bytes unit file old new t is named small cut within at = record {
  source = record { bytes = bytes; unit = unit; file = file; names = old };
  stands = stands units files 0 bytes unit file old is named;
  tokens = t;
  are = has_tokens t bytes unit file old new small cut;
  at = (0, at);
  file = kept new new place (within 0 place at) (λ i text same. same);
}
first_among (Err stop) units files bytes unit file old new t is named small cut within at = tt

pub long_among : (A : Type 0) (stop : Stop) (units files pool : List (List ℕ)) (at : Place) → IsPlaceAmong units files pool at → IfRefusal stop (λ r. r.at ≡ at) → IfRefused (stopped A stop) (λ r. IsPlaceAmong units files pool r.at)
long_among A (stops.Refused refusal) units files pool at among same = subst (IsPlaceAmong units files pool) (sym same) among
long_among A stops.Memory units files pool at among same = tt
