-- Device: units are looked at one by one.
use Rattle.std.proofs.Common.{◌≡◌, ℕ, ◌+◌, ◌<◌, ◌≤◌, true, false, List, length, Option, Some, None, IfSome, Result, Ok, Err, slice_get, ◌⊎◌, inl, inr, leb, arith, ap, sym, subst, ◌∙◌}
use Rattle.std.proofs.lemmas.Bool.Decides.{leb_tells}
use Rattle.cil_base.specs.declared.numbers.UnitNo.{UnitNo}
use Rattle.cil_base.specs.declared.numbers.NameId.{NameId}
use Rattle.cil_base.specs.declared.faults.Place.{Place}
use Rattle.cil_base.specs.declared.faults.Refusal.{Refusal}
use Rattle.cil_base.specs.declared.faults.What.{What}
use Rattle.unit_lower.specs.Externals.{HasExternals}
use Rattle.link_names.specs.declared.units.Fronted.{Fronted}
use Rattle.unit_front.specs.Refusals.{IsGrammatical, IsFrontRefusal}
use Rattle.unit_front.specs.Identifiers.{DeclaresIn}
use Rattle.cil_base.specs.declared.faults.Fault.TheVariants.{Limit}
use Rattle.cil_base.specs.declared.faults.What.TheVariants.{PrintedBytes}
use Rattle.cil_base.specs.declared.faults.Stop.{Stop}
use Rattle.cil_base.specs.declared.faults.Stop.TheVariants as stops
use Rattle.c_lexer.specs.Lexed.{Lexed, IfRefused, place_at}
use Rattle.cast_insert.specs.Refusals.{IsCheckedRefusal}
use Rattle.merge_refusals.specs.Refusals.{IsLateFault, IsTooLong, IfRefusal}
use Rattle.unit_merger.specs.Naming.{IsNamed}
use Rattle.unit_merger.specs.Programs.{IsUnitLong}
use Rattle.unit_merger.specs.Units.{IsUnitOf, IsGrammaticalAt, AreGrammatical, IsPlaceAmong, AreMerged, IsRefusedAmong, InUnit, Over, Behind, over_limit, IsUnitCause, OfCheck, OfLength}
use Rattle.unit_merger.specs.Linking.{IsFrontedAt}

-- what stops, as a result
abbrev pub stopped : (A : Type 0) → Stop → Result A Stop
stopped A stop = Err stop

pub none_yet : (units files : List (List ℕ)) → AreGrammatical units files 0
none_yet units files i below = absurd (omega (arith, below))

next : (units files : List (List ℕ)) (i : ℕ) → AreGrammatical units files i → IsGrammaticalAt units files i → AreGrammatical units files (i + 1)
next units files i before here j below = by (leb_tells i j)
  where
    by : ((leb i j ≡ true) × (i ≤ j)) ⊎ ((leb i j ≡ false) × (j < i)) → IsGrammaticalAt units files j
    by (inl (test, over)) = let same : i ≡ j = omega (arith, over, below) in subst (IsGrammaticalAt units files) same here
    by (inr (test, under)) = before j under

pub stands : (units files : List (List ℕ)) (i : ℕ) (bytes : List ℕ) (unit : UnitNo) (file : NameId) (names : List (List ℕ)) → slice_get units i ≡ Some bytes → IsNamed files i unit file names → IsUnitOf units files (record { bytes = bytes; unit = unit; file = file; names = names })
stands units files i bytes unit file names is named = record { bytes = subst (λ n. slice_get units n ≡ Some bytes) (sym named.number) is; name = named.name; file = subst (λ n. slice_get files n ≡ Some named.name) (sym named.number) named.in_files; named = named.in_names }

pub one_more : (units files : List (List ℕ)) (i : ℕ) (bytes : List ℕ) (unit : UnitNo) (file : NameId) (names : List (List ℕ)) → slice_get units i ≡ Some bytes → IsNamed files i unit file names → IsGrammatical (record { bytes = bytes; unit = unit; file = file; names = names }) → AreGrammatical units files i → AreGrammatical units files (i + 1)
one_more units files i bytes unit file names is named grammatical before = next units files i before (record { source = record { bytes = bytes; unit = unit; file = file; names = names }; number = named.number; stands = stands units files i bytes unit file names is named; grammatical = grammatical })

-- its CIL program
pub fronted_at : (units files : List (List ℕ)) (i : ℕ) (bytes : List ℕ) (unit : UnitNo) (file : NameId) (names pool : List (List ℕ)) (f : Fronted) → slice_get units i ≡ Some bytes → IsNamed files i unit file names → HasExternals f
    → DeclaresIn (record { bytes = bytes; unit = unit; file = file; names = names }) pool f → IsFrontedAt units files pool i f
fronted_at units files i bytes unit file names pool f is named externals declared = record {
  source = record { bytes = bytes; unit = unit; file = file; names = names };
  number = named.number;
  stands = stands units files i bytes unit file names is named;
  externals = externals;
  declared = declared;
}

pub here : {A : Type 0} (r : Result A Stop) (units files : List (List ℕ)) (over : Option What) (i : ℕ) (bytes : List ℕ) (unit : UnitNo) (file : NameId) (names pool : List (List ℕ)) → slice_get units i ≡ Some bytes → IsNamed files i unit file names → AreGrammatical units files i
    → IfRefused r (IsFrontRefusal (record { bytes = bytes; unit = unit; file = file; names = names }) pool) → IfRefused r (IsRefusedAmong units over files pool)
here (Ok a) units files over i bytes unit file names pool is named before refused = tt
here (Err (stops.Refused refusal)) units files over i bytes unit file names pool is named before refused =
    InUnit refusal (record { bytes = bytes; unit = unit; file = file; names = names }) (stands units files i bytes unit file names is named) (subst (AreGrammatical units files) (sym named.number) before) refused
here (Err stops.Memory) units files over i bytes unit file names pool is named before refused = tt

pub over_here : (A : Type 0) (stop : Stop) (units files pool : List (List ℕ)) (over : Option What) (limit : What) (unit : UnitNo) (file : NameId) → over ≡ Some limit → AreGrammatical units files (length units) → IsNamed files (length units) unit file pool
    → IfRefusal stop (λ refusal. refusal ≡ over_limit limit unit.0 file) → IfRefused (stopped A stop) (IsRefusedAmong units over files pool)
over_here A (stops.Refused refusal) units files pool over limit unit file passed before named same =
    subst (IsRefusedAmong units over files pool) (sym (same ∙ ap (λ n. over_limit limit n file) named.number)) (Over limit file named.name passed before named.in_files named.in_names)
over_here A stops.Memory units files pool over limit unit file passed before named same = tt

pub late : (units files pool : List (List ℕ)) (over : Option What) (refusal : Refusal) → AreMerged units over files → IsLateFault refusal.fault → IsPlaceAmong units files pool refusal.at → refusal.other ≡ None → IsRefusedAmong units over files pool refusal
late units files pool over refusal merged fault at alone =
    Behind refusal merged.none merged.grammatical fault (record { at = at; other = subst (λ o. IfSome o (IsPlaceAmong units files pool)) (sym alone) tt })

pub of_check : (t : Lexed) (names : List (List ℕ)) (refusal : Refusal) → IsCheckedRefusal t refusal → IsUnitCause t names refusal
of_check t names refusal is = OfCheck refusal is

pub of_length : (A : Type 0) (stop : Stop) (t : Lexed) (names : List (List ℕ)) (at : Place) → IsUnitLong t names → IsTooLong at → place_at t 0 ≡ Some at → IfRefusal stop (λ r. r.fault ≡ Limit PrintedBytes) → IfRefusal stop (λ r. r.at ≡ at) → IfRefusal stop (λ r. r.other ≡ None)
    → IfRefused (stopped A stop) (IsUnitCause t names)
of_length A (stops.Refused refusal) t names at text long is fault same other =
    OfLength refusal fault text (subst IsTooLong (sym same) long) (is ∙ ap (λ (p : Place). Some p) (sym same)) other
of_length A stops.Memory t names at text long is fault same other = tt
