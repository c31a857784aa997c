-- Device: a place in the tokens of a unit has the unit's number, so each layer's refusal stands in the unit.
use Rattle.std.proofs.Common.{◌≡◌, ℕ, ◌==◌, Bool, true, false, Option, Some, None, slice_get, length, if◌then◌else◌, ap, sym, subst}
use Rattle.std.specs.Option.{option_map}
use Rattle.std.proofs.lemmas.Option.{same_Some}
use Rattle.cil_base.specs.declared.numbers.UnitNo.{UnitNo}
use Rattle.cil_base.specs.declared.faults.Fault.{Fault}
use Rattle.cil_base.specs.declared.faults.Fault.TheVariants.{Lexical, Excluded, Syntax, Constraint, Limit, Duplicate, Incompatible}
use Rattle.cil_base.specs.declared.faults.Place.{Place}
use Rattle.cil_base.specs.declared.faults.Refusal.{Refusal}
use Rattle.c_lexer.specs.declared.entries.Entry.{Entry}
use Rattle.c_lexer.specs.Lexed.{Lexed, place_at, place_of, IsTokenFault, IsTokenRefusal}
use Rattle.c_parser.specs.UnitAnswers.{IsSyntaxFault}
use Rattle.cast_insert.specs.Refusals.{IsCheckedFault, IsCheckedRefusal}
use Rattle.unit_front.specs.Refusals.{IsFrontFault, IsInUnit}

entry_unit : (unit : UnitNo) (i : ℕ) (o : Option Entry) (place : Place) → option_map (λ (e : Entry). place_of unit i e.file e.line) o ≡ Some place → place.unit ≡ unit
entry_unit unit i None place is = let none : None ≡ Some place = is in cc
entry_unit unit i (Some e) place is = sym (ap (λ (p : Place). p.unit) (same_Some (place_of unit i e.file e.line) place is))

place_unit : (t : Lexed) (i : ℕ) (place : Place) → place_at t i ≡ Some place → place.unit ≡ t.unit
place_unit t i place is = by (i == length t.entries) is
  where
    by : (b : Bool) → (if b then Some (place_of t.unit i t.end.file t.end.line) else option_map (λ (e : Entry). place_of t.unit i e.file e.line) (slice_get t.entries i)) ≡ Some place → place.unit ≡ t.unit
    by true is = sym (ap (λ (p : Place). p.unit) (same_Some (place_of t.unit i t.end.file t.end.line) place is))
    by false is = entry_unit t.unit i (slice_get t.entries i) place is

token_fault : (fault : Fault) → IsTokenFault fault → IsFrontFault fault
token_fault Lexical is = tt
token_fault (Excluded feature) is = tt
token_fault Syntax is = absurd is
token_fault (Constraint code) is = absurd is
token_fault (Limit what) is = tt
token_fault Duplicate is = absurd is
token_fault Incompatible is = absurd is

pub of_tokens : (u : UnitNo) (count : ℕ) (refusal : Refusal) → IsTokenRefusal u count refusal → IsInUnit u refusal
of_tokens u count refusal is = record { fault = token_fault refusal.fault is.fault; unit = is.unit }

pub of_grammar : (t : Lexed) (refusal : Refusal) → IsSyntaxFault t refusal → IsInUnit t.unit refusal
of_grammar t refusal is = record { fault = subst IsFrontFault (sym is.fault) tt; unit = place_unit t is.start refusal.at is.at }

checked_fault : (fault : Fault) → IsCheckedFault fault → IsFrontFault fault
checked_fault Lexical is = absurd is
checked_fault (Excluded feature) is = tt
checked_fault Syntax is = absurd is
checked_fault (Constraint code) is = tt
checked_fault (Limit what) is = tt
checked_fault Duplicate is = absurd is
checked_fault Incompatible is = absurd is

pub of_check : (t : Lexed) (refusal : Refusal) → IsCheckedRefusal t refusal → IsInUnit t.unit refusal
of_check t refusal is = record { fault = checked_fault refusal.fault is.fault; unit = place_unit t is.at.0 refusal.at is.at.1 }
