-- Device: what is said of one file alone is said of the units that were asked for.
use Rattle.std.proofs.Common.{◌≡◌, ◌≢◌, ℕ, Bool, ◌+◌, ◌<◌, ◌≤◌, nat_lt, if◌then◌else◌, List, [], ◌∷◌, length, Option, Some, None, IfSome, slice_get, refl, sym, ap, subst, ◌∙◌, arith}
use Rattle.std.proofs.lemmas.Bool.{le-ltb, lt-ltb}
use Rattle.std.specs.Option.{option_map, option_and_then}
use Rattle.cil_base.specs.declared.faults.What.{What}
use Rattle.cil_base.specs.declared.faults.What.TheVariants.{UnitBytes, TotalBytes}
use Rattle.cil_base.specs.declared.faults.Refusal.{Refusal}
use Rattle.c_lexer.specs.Lexed.{Lexed}
use Rattle.c_meaning.specs.SourceFile.{SourceFile}
use Rattle.unit_front.specs.Refusals.{Source, HasTokens, IsFrontRefusal, OfToken as AtToken, OfTokens, OfGrammar as AtGrammar, OfCheck as AtCheck}
use Rattle.unit_merger.specs.Units.{IsUnitOf, IsGrammaticalAt, AreGrammatical, AreMerged, IsRefusedAmong, InUnit, Over, Behind, IsUnitCause, OfCheck, OfLength}
use Rattle.unit_merger.proofs.InOrder.{none_yet}
use Rattle.outside.specs.Moves.{Began, Wrote}
use Rattle.outside.specs.Named.{Told, find_file}
use Rattle.cil_tree.specs.Tree.{Program}
use Rattle.cil_tree.specs.View.{program_of}
use Rattle.cil_tree.specs.Text.{Text}
use Rattle.cil_tree.specs.Programs.{IsTextOf}
use Rattle.unit_merger.specs.Linking.{IsTextOfUnits}
use Rattle.cil_sources.specs.Files.{all_under}
use Rattle.cil_sources.specs.Units.{Kept, kept, kept_by, unit_fault}
use Rattle.cil_words.specs.Command.{merged_files}
use Rattle.cil_lines.specs.declared.status.Status.{Status}
use Rattle.cil_lines.specs.declared.status.Status.TheVariants.{Done, Exited, StillRunning, WentUndefined, Usage, Refused, NotCil, ReadFault, WriteFault, Memory}
use Rattle.cil_commands.specs.Execute.{IsRunAnswer}
use Rattle.cil_commands.specs.Grammatical.{AreTokens, IsGrammatical}
use Rattle.cil_commands.specs.Merge.{IsWritten, file_under, too_large, IsNoGrammar, Large, OfToken, OfGrammar, IsRefused, NoGrammar, OfUnit, IfRefused}
use Rattle.cil_commands.specs.Several.{SaysOfKept, SaysOfUnits, SaysOfLinks, LinksSay}
use Rattle.cil_lines.specs.Messages.{HasFiles}
use Rattle.cil_commands.specs.Messages.{Begins}
use Rattle.unit_front.specs.Refusals.{KeepsFile, KeepsFiles}
use Rattle.unit_front.proofs.Files.{kept as kept_file}
use Rattle.unit_merger.specs.Units.{IsPlaceAmong, ArePlacesAmong}
use Rattle.merge_refusals.specs.Refusals.{IsLateFault}
use Rattle.std.specs.Option.{ForSome}
use Rattle.cil_base.specs.declared.faults.Place.{Place}

-- one unit is kept where it is small enough

small_fault : (n : ℕ) → n ≤ 4194304 → unit_fault 0 n ≡ None
small_fault n small =
    let within : 0 + n ≤ 16777216 = omega (arith, small) in
    ap (λ b. if b then Some UnitBytes else (if nat_lt 16777216 (0 + n) then Some TotalBytes else None)) (le-ltb 4194304 n small)
    ∙ ap (λ b. if b then Some TotalBytes else None) (le-ltb 16777216 (0 + n) within)

large_fault : (n : ℕ) → 4194304 < n → unit_fault 0 n ≡ Some UnitBytes
large_fault n large = ap (λ b. if b then Some UnitBytes else (if nat_lt 16777216 (0 + n) then Some TotalBytes else None)) (lt-ltb 4194304 n large)

small_kept : (bytes : List ℕ) → length bytes ≤ 4194304 → kept 0 (bytes ∷ []) ≡ record { units = bytes ∷ []; over = None }
small_kept bytes small = ap (λ fault. kept_by fault bytes (kept (0 + length bytes) [])) (small_fault (length bytes) small)

large_kept : (bytes : List ℕ) → 4194304 < length bytes → kept 0 (bytes ∷ []) ≡ record { units = []; over = Some UnitBytes }
large_kept bytes large = ap (λ fault. kept_by fault bytes (kept (0 + length bytes) [])) (large_fault (length bytes) large)

-- the only unit

only : SourceFile → Source
only unit = record { bytes = unit.bytes; unit = record { 0 = 0 }; file = record { 0 = 0 }; names = unit.name ∷ [] }

stands : (unit : SourceFile) → IsUnitOf (unit.bytes ∷ []) (unit.name ∷ []) (only unit)
unfolding only
stands unit = record { bytes = refl; name = unit.name; file = refl; named = refl }

has_tokens : (unit : SourceFile) (t : Lexed) (names : List (List ℕ)) → AreTokens unit t names → HasTokens (only unit) t
unfolding only
has_tokens unit t names are = record { small = are.small; source = are.source; unit = are.unit; names = names; lexed = are.lexed }

first : (unit : SourceFile) → IsGrammatical unit → IsGrammaticalAt (unit.bytes ∷ []) (unit.name ∷ []) 0
unfolding only
first unit g = record { source = only unit; number = refl; stands = stands unit; grammatical = record { tokens = g.tokens; are = has_tokens unit g.tokens g.names g.are; spelled = (g.tree, g.reads) } }

all : (unit : SourceFile) → IsGrammatical unit → AreGrammatical (unit.bytes ∷ []) (unit.name ∷ []) 1
all unit g i below = let same : 0 ≡ i = omega (arith, below) in subst (IsGrammaticalAt (unit.bytes ∷ []) (unit.name ∷ [])) same (first unit g)

abbrev Among : SourceFile → Kept → List (List ℕ) → Refusal → Type 0
Among unit k names refusal = IsRefusedAmong k.units k.over (unit.name ∷ []) names refusal

in_unit : (unit : SourceFile) (names : List (List ℕ)) (refusal : Refusal) → length unit.bytes ≤ 4194304 → IsFrontRefusal (only unit) names refusal → Among unit (kept 0 (unit.bytes ∷ [])) names refusal
unfolding only
in_unit unit names refusal small is =
    subst (λ k. Among unit k names refusal) (sym (small_kept unit.bytes small)) (InUnit refusal (only unit) (stands unit) (none_yet (unit.bytes ∷ []) (unit.name ∷ [])) is)

-- the files of a refusal's places are names
keeps : (names : List (List ℕ)) (refusal : Refusal) → HasFiles (length names) (Refused refusal) → KeepsFiles names names refusal
keeps names refusal files = record { at = kept_file names names refusal.at files.0 (λ i text is. is); other = by refusal.other files.1 }
  where
    by : (o : Option Place) → ForSome o (λ place. place.file.0 < length names) → IfSome o (KeepsFile names names)
    by None within = tt
    by (Some place) within = kept_file names names place (within place refl) (λ i text is. is)

no_grammar : (unit : SourceFile) (refusal : Refusal) (names : List (List ℕ)) → slice_get names 0 ≡ Some unit.name → HasFiles (length names) (Refused refusal) → IsNoGrammar unit refusal names → Among unit (kept 0 (unit.bytes ∷ [])) names refusal
unfolding only has_tokens
no_grammar unit _ _ named files (Large names large) =
    subst (λ k. Among unit k names too_large) (sym (large_kept unit.bytes large)) (Over UnitBytes (record { 0 = 0 }) unit.name refl (none_yet [] (unit.name ∷ [])) refl named)
no_grammar unit _ _ named files (OfToken refusal names small is) = in_unit unit names refusal small (AtToken refusal names small is (keeps names refusal files))
no_grammar unit _ _ named files (OfGrammar refusal names t are is) = in_unit unit names refusal are.small (OfTokens refusal t (has_tokens unit t names are) (AtGrammar refusal is) (keeps names refusal files))

of_unit : (unit : SourceFile) (refusal : Refusal) (names : List (List ℕ)) (g : IsGrammatical unit) → KeepsFiles g.names names refusal → IsUnitCause g.tokens g.names refusal → Among unit (kept 0 (unit.bytes ∷ [])) names refusal
unfolding only has_tokens
of_unit unit _ names g keeps (OfCheck refusal is) = in_unit unit names refusal g.are.small (OfTokens refusal g.tokens (has_tokens unit g.tokens g.names g.are) (AtCheck refusal (g.tree, g.reads) is) keeps)
of_unit unit _ names g keeps (OfLength refusal fault text long at other) =
    let place : IsPlaceAmong (unit.bytes ∷ []) (unit.name ∷ []) names refusal.at = record { source = only unit; stands = stands unit; tokens = g.tokens; are = has_tokens unit g.tokens g.names g.are; at = (0, at); file = keeps.at } in
    let places : ArePlacesAmong (unit.bytes ∷ []) (unit.name ∷ []) names refusal = record { at = place; other = subst (λ o. IfSome o (IsPlaceAmong (unit.bytes ∷ []) (unit.name ∷ []) names)) (sym other) tt } in
    subst (λ k. Among unit k names refusal) (sym (small_kept unit.bytes g.are.small)) (Behind refusal refl (all unit g) (subst IsLateFault (sym fault) tt) places)

refused : (unit : SourceFile) (refusal : Refusal) (names : List (List ℕ)) → slice_get names 0 ≡ Some unit.name → HasFiles (length names) (Refused refusal) → IsRefused unit refusal names → Among unit (kept 0 (unit.bytes ∷ [])) names refusal
refused unit _ _ named files (NoGrammar refusal names is) = no_grammar unit refusal names named files is
refused unit _ _ named files (OfUnit refusal names g none is keeps) = of_unit unit refusal names g keeps is

merged : (unit : SourceFile) → IsGrammatical unit → AreMerged (kept 0 (unit.bytes ∷ [])).units (kept 0 (unit.bytes ∷ [])).over (unit.name ∷ [])
merged unit g =
    subst (λ (k : Kept). AreMerged k.units k.over (unit.name ∷ [])) (sym (small_kept unit.bytes g.are.small)) (record { none = refl; grammatical = all unit g })

says_one : (unit : SourceFile) (status : Status) (names : List (List ℕ)) → (status ≢ Memory → Begins (unit.name ∷ []) names) → HasFiles (length names) status → (status ≡ Done → IsGrammatical unit) → (status ≡ WriteFault → IsGrammatical unit) → IfRefused status (λ refusal. IsRefused unit refusal names)
    → SaysOfUnits (unit.bytes ∷ []) (unit.name ∷ []) names status
says_one unit Done names begin files done part is = merged unit (done refl)
says_one unit (Exited s) names begin files done part is = tt
says_one unit StillRunning names begin files done part is = tt
says_one unit WentUndefined names begin files done part is = tt
says_one unit Usage names begin files done part is = tt
says_one unit (Refused refusal) names begin files done part is =
    let first = begin (λ same. (let clash : Refused refusal ≡ Memory = same in cc)) in
    refused unit refusal names (ap (λ (ns : List (List ℕ)). slice_get ns 0) first.is) files is
says_one unit (NotCil k) names begin files done part is = tt
says_one unit ReadFault names begin files done part is = tt
says_one unit WriteFault names begin files done part is = merged unit (part refl)
says_one unit Memory names begin files done part is = tt

-- one file of those that are told
pub says_alone : (told : Option Told) (name : List ℕ) (files : List (List ℕ)) (status : Status) (names : List (List ℕ)) → files ≡ name ∷ [] → (status ≢ Memory → Begins (name ∷ []) names) → HasFiles (length names) status
    → (status ≡ Done → IfSome (file_under told name) (λ unit. IsGrammatical unit)) → (status ≡ WriteFault → IfSome (file_under told name) (λ unit. IsGrammatical unit))
    → IfSome (file_under told name) (λ unit. IfRefused status (λ refusal. IsRefused unit refusal names))
    → IfSome (all_under told files) (λ units. SaysOfUnits units files names status)
says_alone told name files status names alone begin within done part is =
    subst (λ fs. IfSome (all_under told fs) (λ units. SaysOfUnits units fs names status)) (sym alone) (by told done part is)
  where
    found : (bytes : Option (List ℕ))
        → (status ≡ Done → IfSome (option_map (λ b. let f : SourceFile = record { name = name; bytes = b } in f) bytes) (λ unit. IsGrammatical unit))
        → (status ≡ WriteFault → IfSome (option_map (λ b. let f : SourceFile = record { name = name; bytes = b } in f) bytes) (λ unit. IsGrammatical unit))
        → IfSome (option_map (λ b. let f : SourceFile = record { name = name; bytes = b } in f) bytes) (λ unit. IfRefused status (λ refusal. IsRefused unit refusal names))
        → IfSome (option_and_then (λ b. option_map (λ more. b ∷ more) (let last : Option (List (List ℕ)) = Some [] in last)) bytes) (λ units. SaysOfUnits units (name ∷ []) names status)
    found None done part is = tt
    found (Some b) done part is = says_one (record { name = name; bytes = b }) status names begin within done part is

    by : (told : Option Told) → (status ≡ Done → IfSome (file_under told name) (λ unit. IsGrammatical unit)) → (status ≡ WriteFault → IfSome (file_under told name) (λ unit. IsGrammatical unit))
        → IfSome (file_under told name) (λ unit. IfRefused status (λ refusal. IsRefused unit refusal names)) → IfSome (all_under told (name ∷ [])) (λ units. SaysOfUnits units (name ∷ []) names status)
    by None done part is = tt
    by (Some t) done part is = found (find_file name t.names) done part is

-- several files

kept_by_read : (units : List (List ℕ)) (kept_units : List (List ℕ)) (over : Option What) (files names : List (List ℕ)) (status : Status) → kept_units ≡ (kept 0 units).units → over ≡ (kept 0 units).over → SaysOfKept kept_units over files names status → SaysOfUnits units files names status
kept_by_read units kept_units over files names status same limit says = subst (λ o. SaysOfKept (kept 0 units).units o files names status) limit (subst (λ us. SaysOfKept us over files names status) same says)

pub says_read : (asked : Option (List (List ℕ))) (kept_units : List (List ℕ)) (over : Option What) (files names : List (List ℕ)) (status : Status) → IfSome asked (λ units. (kept_units ≡ (kept 0 units).units) × (over ≡ (kept 0 units).over)) → SaysOfKept kept_units over files names status
    → IfSome asked (λ units. SaysOfUnits units files names status)
says_read None kept_units over files names status read says = tt
says_read (Some units) kept_units over files names status read says = kept_by_read units kept_units over files names status read.0 read.1 says

-- the same of their links
pub links_read : (asked : Option (List (List ℕ))) (kept_units : List (List ℕ)) (over : Option What) (common : Bool) (files names : List (List ℕ)) (status : Status) (taken taken' : Option (List ℕ)) → IfSome asked (λ units. (kept_units ≡ (kept 0 units).units) × (over ≡ (kept 0 units).over))
    → SaysOfLinks common kept_units files names status taken taken' → IfSome asked (λ units. SaysOfLinks common (kept 0 units).units files names status taken taken')
links_read None kept_units over common files names status taken taken' read says = tt
links_read (Some units) kept_units over common files names status taken taken' read says = subst (λ us. SaysOfLinks common us files names status taken taken') read.0 says

-- fewer than two files have no links
pub few_links : (told : Option Told) (words files names : List (List ℕ)) (status : Status) (taken taken' : Option (List ℕ)) → merged_files words ≡ files → length files ≤ 1 → LinksSay told words names status taken taken'
few_links told words files names status taken taken' are few several = let none : ⊥ = omega (arith, few, subst (λ (fs : List (List ℕ)). 1 < length fs) are several) in absurd none

-- the text of several units is written

pub units_written : (common : Bool) (units files names : List (List ℕ)) (bytes : List ℕ) → IsTextOfUnits common units files names bytes → (p : Program) × IsWritten p × (bytes ≡ Text p)
units_written common units files names bytes t = (program_of names t.program, (t.of.model, subst (λ bs. IsTextOf bs (program_of names t.program)) t.text.text t.text), t.text.text)

abbrev NotDone : Status → Type 0
NotDone Done = ⊥
NotDone _ = Unit {0}

abbrev NotFailed : Status → Type 0
NotFailed WriteFault = ⊥
NotFailed _ = Unit {0}

pub units_sent : (common : Bool) (units files names : List (List ℕ)) (bytes : List ℕ) (status : Status) (taken taken' : Option (List ℕ)) → IsTextOfUnits common units files names bytes → (status ≡ Done → Wrote taken taken' bytes) → Began taken taken' bytes → (status ≢ Done → status ≡ WriteFault)
    → SaysOfLinks common units files names status taken taken'
units_sent common units files names bytes Done taken taken' text done began two = record { bytes = bytes; text = text; wrote = done refl }
units_sent common units files names bytes WriteFault taken taken' text done began two = record { bytes = bytes; text = text; began = began }
units_sent common units files names bytes (Refused r) taken taken' text done began two = absurd (subst NotFailed (two (λ e. subst NotDone e tt)) tt)
units_sent common units files names bytes _ taken taken' text done began two = tt

-- a command that merges nothing
says_none : (names : List (List ℕ)) (status : Status) → IfRefused status (λ refusal. ⊥) → SaysOfUnits [] [] names status
says_none names Done is = record { none = refl; grammatical = none_yet [] [] }
says_none names (Exited s) is = tt
says_none names StillRunning is = tt
says_none names WentUndefined is = tt
says_none names Usage is = tt
says_none names (Refused refusal) is = absurd is
says_none names (NotCil k) is = tt
says_none names ReadFault is = tt
says_none names WriteFault is = record { none = refl; grammatical = none_yet [] [] }
says_none names Memory is = tt

pub says_other : (told : Option Told) (words names : List (List ℕ)) (status : Status) → merged_files words ≡ [] → IfRefused status (λ refusal. ⊥) → IfSome (all_under told (merged_files words)) (λ units. SaysOfUnits units (merged_files words) names status)
says_other told words names status none is = subst (λ fs. IfSome (all_under told fs) (λ units. SaysOfUnits units fs names status)) (sym none) (by told)
  where
    by : (told : Option Told) → IfSome (all_under told []) (λ units. SaysOfUnits units [] names status)
    by None = tt
    by (Some t) = says_none names status is

-- no run is refused
pub run_not_refused : (status : Status) → IsRunAnswer status → IfRefused status (λ refusal. ⊥)
run_not_refused Done is = tt
run_not_refused (Exited s) is = tt
run_not_refused StillRunning is = tt
run_not_refused WentUndefined is = tt
run_not_refused Usage is = tt
run_not_refused (Refused refusal) is = absurd is
run_not_refused (NotCil k) is = tt
run_not_refused ReadFault is = tt
run_not_refused WriteFault is = tt
run_not_refused Memory is = tt
