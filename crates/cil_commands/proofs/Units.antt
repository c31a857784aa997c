-- What was read of a file tells what becomes of the file: so many bytes that the limit was reached are too many for a unit.
use Rattle.std.proofs.Common.{◌≡◌, ℕ, ◌<◌, ◌≤◌, List, [], ◌∷◌, ◌++◌, Option, Some, None, IfSome, length, length-append, append-nil, append_assoc, Result, Ok, Err, IfOk, ap, sym, subst, ◌∙◌, arith, refl, Bool, true, false}
use Rattle.std.specs.Prelude.{option_map, slice_get, ◌==◌, if◌then◌else◌}
use Rattle.std.proofs.lemmas.Option.{same_Some}
use Rattle.std.specs.List.{list_any}
use Rattle.std.specs.Str.{bytes_eq}
use Rattle.std.proofs.lemmas.Bool.{cond_both}
use Rattle.cil_base.specs.NamePool.{interned, interned_all, Interns}
use Rattle.cil_base.specs.declared.numbers.NameId.{NameId}
use Rattle.cil_base.specs.declared.numbers.UnitNo.{UnitNo}
use Rattle.cil_base.specs.declared.faults.Place.{Place}
use Rattle.cil_base.specs.declared.faults.Stop.{Stop}
use Rattle.cil_base.specs.declared.faults.Stop.TheVariants as stops
use Rattle.cil_base.specs.declared.faults.Refusal.{Refusal}
use Rattle.c_lexer.specs.declared.entries.Entry.{Entry}
use Rattle.c_lexer.specs.declared.entries.Spot.{Spot}
use Rattle.c_lexer.specs.Lexed.{Lexed, Gives, Grows, IfAnswered, IfRefused as IfStopped, IsTokenFault, IsTokenRefusal, PlacesWithin, place_at, place_of}
use Rattle.c_lexer.specs.Tokens.{Answer, IsAnswer, Whole, Refused}
use Rattle.cil_commands.specs.Messages.{Begins}
use Rattle.c_lexer.proofs.Answered.{same_answer}
use Rattle.c_meaning.specs.SourceFile.{SourceFile, IsLexed, HasTokens, spelled_in}
use Rattle.c_meaning.specs.Grammar.{Expression, IsUnit}
use Rattle.c_meaning.specs.Reading.{reading}
use Rattle.c_meaning.proofs.Units.{unit_reads}
use Rattle.c_tree.specs.Units.{UnitTree}
use Rattle.c_cursor.specs.Lexemes.{lexemes}
use Rattle.c_parser.specs.UnitAnswers.{ReadsUnit, IsSyntaxFault}
use Rattle.c_parser.proofs.UnitLaws.{one_start}
use Rattle.cil_tree.specs.Tree.{Program}
use Rattle.cil_base.specs.declared.faults.Fault.{Fault}
use Rattle.cil_base.specs.declared.faults.Fault.TheVariants.{Lexical, Excluded, Syntax, Constraint, Limit, Duplicate, Incompatible}
use Rattle.cil_commands.specs.Grammatical.{AreTokens, IsGrammatical}
use Rattle.cil_sources.specs.Files.{IsFrontOf}
use Rattle.cil_commands.specs.Merge.{IsRefused, NoGrammar, OfUnit, IsNoGrammar, Large, OfToken, OfGrammar, IsNoUnit, IsMergedTo, IsLike, IfRefused, too_large}
use Rattle.merge_refusals.specs.Refusals.{IsUnitFault, IsUnitRefusal, IsMergeFault, HasOther, IsMergeRefusal}
use Rattle.cil_base.specs.NamePool.{Stays}
use Rattle.unit_front.specs.Refusals.{KeepsFile, KeepsFiles}
use Rattle.unit_front.proofs.Files.{kept}
use Rattle.unit_merger.specs.Units.{IsUnitCause, OfCheck, OfLength}
use Rattle.cil_commands.specs.Merged.{file_in, IsAlone}
use Rattle.cil_commands.proofs.SmallUnits.{small_is_grammatical}
use Rattle.cil_lines.specs.declared.status.Status.{Status}
use Rattle.cil_lines.specs.declared.status.Status.TheVariants.{Done, Exited, StillRunning, WentUndefined, Usage, Refused as IsRefusal, NotCil, ReadFault, WriteFault, Memory}

-- below the limit the whole file was read
whole : (limit : ℕ) (bytes file : List ℕ) → IsFrontOf limit bytes file → length bytes < limit → file ≡ bytes
whole limit bytes file front below = front.parts ∙ (ap (λ rest. bytes ++ rest) (front.end below) ∙ append-nil bytes)

at_least : (limit : ℕ) (bytes file : List ℕ) → IsFrontOf limit bytes file → length bytes ≤ length file
at_least limit bytes file front = omega (arith, ap length front.parts, length-append bytes front.rest)

-- of a file of that name
same_file : (name bytes file : List ℕ) (P : SourceFile → Type 0) → IsFrontOf 4194305 bytes file → length bytes ≤ 4194304 → P (record { name = name; bytes = bytes }) → P (record { name = name; bytes = file })
same_file name bytes file P front small says =
    let below : length bytes < 4194305 = omega arith in
    subst (λ bs. P (record { name = name; bytes = bs })) (sym (whole 4194305 bytes file front below)) says

merges_file : (name bytes file : List ℕ) (p : Program) → IsFrontOf 4194305 bytes file → IsMergedTo (record { name = name; bytes = bytes }) p → IsMergedTo (record { name = name; bytes = file }) p
merges_file name bytes file p front merges = same_file name bytes file (λ f. IsMergedTo f p) front merges.grammatical.are.small merges

grammar_file : (name bytes file : List ℕ) (names : List (List ℕ)) (refusal : Refusal) → IsFrontOf 4194305 bytes file → IsNoGrammar (record { name = name; bytes = bytes }) refusal names → IsNoGrammar (record { name = name; bytes = file }) refusal names
grammar_file name bytes file _ _ front (Large names large) = Large names (omega (arith, large, at_least 4194305 bytes file front))
grammar_file name bytes file _ _ front (OfToken refusal names small lexed) = same_file name bytes file (λ f. IsNoGrammar f refusal names) front small (OfToken refusal names small lexed)
grammar_file name bytes file _ _ front (OfGrammar refusal names tokens are fault) = same_file name bytes file (λ f. IsNoGrammar f refusal names) front are.small (OfGrammar refusal names tokens are fault)

refused_file : (name bytes file : List ℕ) (names : List (List ℕ)) (refusal : Refusal) → IsFrontOf 4194305 bytes file → IsRefused (record { name = name; bytes = bytes }) refusal names → IsRefused (record { name = name; bytes = file }) refusal names
refused_file name bytes file _ _ front (NoGrammar refusal names wrong) = NoGrammar refusal names (grammar_file name bytes file names refusal front wrong)
refused_file name bytes file _ _ front (OfUnit refusal names reads none fault files) = same_file name bytes file (λ f. IsRefused f refusal names) front reads.are.small (OfUnit refusal names reads none fault files)

-- of a file that may not be told
pub merges_asked : (asked : Option (List ℕ)) (name bytes : List ℕ) (p : Program) → IfSome asked (IsFrontOf 4194305 bytes) → IsMergedTo (record { name = name; bytes = bytes }) p
    → IfSome (option_map (λ (bs : List ℕ). let f : SourceFile = record { name = name; bytes = bs } in f) asked) (λ unit. IsMergedTo unit p)
merges_asked None name bytes p front merges = tt
merges_asked (Some file) name bytes p front merges = merges_file name bytes file p front merges

says_file : (name bytes file : List ℕ) (names : List (List ℕ)) (status : Status) → IsFrontOf 4194305 bytes file → IfRefused status (λ refusal. IsRefused (record { name = name; bytes = bytes }) refusal names)
    → IfRefused status (λ refusal. IsRefused (record { name = name; bytes = file }) refusal names)
says_file name bytes file names (IsRefusal refusal) front says = refused_file name bytes file names refusal front says
says_file name bytes file names Done front says = tt
says_file name bytes file names (Exited s) front says = tt
says_file name bytes file names StillRunning front says = tt
says_file name bytes file names WentUndefined front says = tt
says_file name bytes file names Usage front says = tt
says_file name bytes file names (NotCil k) front says = tt
says_file name bytes file names ReadFault front says = tt
says_file name bytes file names WriteFault front says = tt
says_file name bytes file names Memory front says = tt

pub refused_asked : (asked : Option (List ℕ)) (name bytes : List ℕ) (names : List (List ℕ)) (status : Status) → IfSome asked (IsFrontOf 4194305 bytes) → IfRefused status (λ refusal. IsRefused (record { name = name; bytes = bytes }) refusal names)
    → IfSome (option_map (λ (bs : List ℕ). let f : SourceFile = record { name = name; bytes = bs } in f) asked) (λ unit. IfRefused status (λ refusal. IsRefused unit refusal names))
refused_asked None name bytes names status front says = tt
refused_asked (Some file) name bytes names status front says = says_file name bytes file names status front says

-- a file is not both a unit of the form and refused, and it has one refusal

clash : (unit : SourceFile) (entries : List Entry) (end : Spot) (names others : List (List ℕ)) (refusal : Refusal) → IsLexed unit (Whole entries end names) → IsLexed unit (Refused refusal others) → ⊥
clash unit entries end names others refusal one two =
    let same : Whole entries end names ≡ Refused refusal others = same_answer (record { 0 = 0 }) (record { 0 = 0 }) (unit.name ∷ []) unit.bytes (Whole entries end names) (Refused refusal others) one two in
    cc

no_token : (unit : SourceFile) (t : Lexed) (names others : List (List ℕ)) (refusal : Refusal) → AreTokens unit t names → IsLexed unit (Refused refusal others) → ⊥
no_token unit t names others refusal are lexed = clash unit t.entries t.end names others refusal are.lexed lexed

-- a file has one list of tokens

abbrev lexed_of : List ℕ → UnitNo → List Entry → Spot → Lexed
lexed_of source unit entries end = record { source = source; unit = unit; entries = entries; end = end }

lexed_same : (t u : Lexed) → t.source ≡ u.source → t.unit ≡ u.unit → t.entries ≡ u.entries → t.end ≡ u.end → t ≡ u
lexed_same t u source unit entries end =
    let same : lexed_of t.source t.unit t.entries t.end ≡ lexed_of u.source u.unit u.entries u.end = cc in
    same

same_tokens : (unit : SourceFile) (t u : Lexed) (names others : List (List ℕ)) → AreTokens unit t names → AreTokens unit u others → t ≡ u
same_tokens unit t u names others one two =
    let same : Whole t.entries t.end names ≡ Whole u.entries u.end others = same_answer (record { 0 = 0 }) (record { 0 = 0 }) (unit.name ∷ []) unit.bytes (Whole t.entries t.end names) (Whole u.entries u.end others) one.lexed two.lexed in
    let entries : t.entries ≡ u.entries = cc in
    let end : t.end ≡ u.end = cc in
    lexed_same t u (one.source ∙ sym two.source) (one.unit ∙ sym two.unit) entries end

not_grammatical : (unit : SourceFile) (t : Lexed) (names : List (List ℕ)) (refusal : Refusal) → AreTokens unit t names → IsSyntaxFault t refusal → IsGrammatical unit → ⊥
not_grammatical unit t names refusal are fault reads =
    fault.refuses.no_unit reads.tree (subst (λ u. ReadsUnit (lexemes u) reads.tree) (same_tokens unit reads.tokens t reads.names names reads.are are) reads.reads)

-- a grammatical file is not refused by its grammar
grammar_clash : (unit : SourceFile) (refusal : Refusal) (names : List (List ℕ)) → IsGrammatical unit → IsNoGrammar unit refusal names → ⊥
grammar_clash unit _ _ reads (Large names large) = omega (arith, reads.are.small, large)
grammar_clash unit _ _ reads (OfToken refusal names small lexed) = clash unit reads.tokens.entries reads.tokens.end reads.names names refusal reads.are.lexed lexed
grammar_clash unit _ _ reads (OfGrammar refusal names tokens are fault) = not_grammatical unit tokens names refusal are fault reads

pub not_grammar : (unit : SourceFile) (refusal : Refusal) (names : List (List ℕ)) → IsGrammatical unit → IsNoGrammar unit refusal names → ⊥
not_grammar unit refusal names reads wrong = grammar_clash unit refusal names reads wrong

pub not_both : (unit : SourceFile) (e : Expression) (refusal : Refusal) (names : List (List ℕ)) → IsUnit unit e → IsRefused unit refusal names → ⊥
not_both unit e _ _ is (NoGrammar refusal names wrong) = grammar_clash unit refusal names (small_is_grammatical unit e is) wrong
not_both unit e _ _ is (OfUnit refusal names grammatical none fault files) = none e is

like_itself : (one two : Refusal) → one ≡ two → IsLike one two
like_itself one two same = record { fault = ap (λ (r : Refusal). r.fault) same; at = ap (λ (r : Refusal). r.at) same; other = λ no. ap (λ (r : Refusal). r.other) same }

-- two syntax faults of one list of tokens begin at one token
same_start : (t : Lexed) (one two : Refusal) → IsSyntaxFault t one → IsSyntaxFault t two → IsLike one two
same_start t one two first second =
    let start : first.start ≡ second.start = one_start (lexemes t) first.start first.stop second.start second.stop first.refuses second.refuses in
    let places : Some one.at ≡ Some two.at = sym first.at ∙ (ap (place_at t) start ∙ second.at) in
    record { fault = first.fault ∙ sym second.fault; at = same_Some one.at two.at places; other = λ no. absurd (no first.fault) }

like_grammar : (unit : SourceFile) (one two : Refusal) (names others : List (List ℕ)) → IsNoGrammar unit one names → IsNoGrammar unit two others → IsLike one two
like_grammar unit _ _ _ _ (Large names large) (Large others also) = like_itself too_large too_large refl
like_grammar unit _ _ _ _ (Large names large) (OfToken two others small lexed) = absurd (omega (arith, large, small))
like_grammar unit _ _ _ _ (Large names large) (OfGrammar two others tokens are fault) = absurd (omega (arith, large, are.small))
like_grammar unit _ _ _ _ (OfToken one names small lexed) (Large others large) = absurd (omega (arith, large, small))
like_grammar unit _ _ _ _ (OfToken one names small lexed) (OfToken two others low also) =
    let same : Refused one names ≡ Refused two others = same_answer (record { 0 = 0 }) (record { 0 = 0 }) (unit.name ∷ []) unit.bytes (Refused one names) (Refused two others) lexed also in
    like_itself one two cc
like_grammar unit _ _ _ _ (OfToken one names small lexed) (OfGrammar two others tokens are fault) = absurd (no_token unit tokens others names one are lexed)
like_grammar unit _ _ _ _ (OfGrammar one names tokens are fault) (Large others large) = absurd (omega (arith, large, are.small))
like_grammar unit _ _ _ _ (OfGrammar one names tokens are fault) (OfToken two others small lexed) = absurd (no_token unit tokens names others two are lexed)
like_grammar unit _ _ _ _ (OfGrammar one names tokens are fault) (OfGrammar two others more also wrong) =
    same_start tokens one two fault (subst (λ u. IsSyntaxFault u two) (same_tokens unit more tokens others names also are) wrong)

pub like_refusal : (unit : SourceFile) (one two : Refusal) (names others : List (List ℕ)) → IsRefused unit one names → IsNoGrammar unit two others → IsLike one two
like_refusal unit _ two _ others (NoGrammar one names first) second = like_grammar unit one two names others first second
like_refusal unit _ two _ others (OfUnit one names reads none fault files) second = absurd (grammar_clash unit two others reads second)

-- what the parser says of the first unit

pub refused_by_grammar : {A : Type 0} (r : Result A Stop) (file : SourceFile) (t : Lexed) (names : List (List ℕ)) → AreTokens file t names → IfStopped r (IsSyntaxFault t) → IfStopped r (λ refusal. IsRefused file refusal names)
refused_by_grammar (Ok a) file t names are says = tt
refused_by_grammar (Err (stops.Refused refusal)) file t names are says = NoGrammar refusal names (OfGrammar refusal names t are says)
refused_by_grammar (Err stops.Memory) file t names are says = tt

entry_unit : (unit : UnitNo) (i : ℕ) (o : Option Entry) (place : Place) → option_map (λ (e : Entry). place_of unit i e.file e.line) o ≡ Some place → place.unit ≡ unit
entry_unit unit i None place is = let none : None ≡ Some place = is in cc
entry_unit unit i (Some e) place is = sym (ap (λ (p : Place). p.unit) (same_Some (place_of unit i e.file e.line) place is))

-- the first unit is one of one
first_unit : (u : UnitNo) → u ≡ record { 0 = 0 } → u.0 < 1
first_unit u is = omega (arith, ap (λ (v : UnitNo). v.0) is)

-- a place has the unit's number
place_unit : (t : Lexed) (i : ℕ) (place : Place) → place_at t i ≡ Some place → place.unit ≡ t.unit
place_unit t i place is = by (i == length t.entries) is
  where
    by : (b : Bool) → (if b then Some (place_of t.unit i t.end.file t.end.line) else option_map (λ (e : Entry). place_of t.unit i e.file e.line) (slice_get t.entries i)) ≡ Some place → place.unit ≡ t.unit
    by true is = sym (ap (λ (p : Place). p.unit) (same_Some (place_of t.unit i t.end.file t.end.line) place is))
    by false is = entry_unit t.unit i (slice_get t.entries i) place is

grammar_fault : (file : SourceFile) (t : Lexed) (names : List (List ℕ)) (count : ℕ) (refusal : Refusal) → AreTokens file t names → PlacesWithin count t → IsSyntaxFault t refusal → IsMergeRefusal 1 count refusal
grammar_fault file t names count refusal are within fault = record {
  fault = subst IsMergeFault (sym fault.fault) tt;
  unit = first_unit refusal.at.unit (place_unit t fault.start refusal.at fault.at ∙ are.unit);
  file = within fault.start refusal.at fault.at;
  other = subst (λ f. HasOther 1 f refusal.other) (sym fault.fault) (fault.other, fault.told, first_unit fault.other.unit (place_unit t fault.stop fault.other fault.behind ∙ are.unit));
  other_file = λ place is. within fault.stop place (fault.behind ∙ (sym fault.told ∙ is));
}

pub grammar_refusal : {A : Type 0} (r : Result A Stop) (file : SourceFile) (t : Lexed) (names : List (List ℕ)) (count : ℕ) → AreTokens file t names → PlacesWithin count t → IfStopped r (IsSyntaxFault t) → IfStopped r (IsMergeRefusal 1 count)
grammar_refusal (Ok a) file t names count are within says = tt
grammar_refusal (Err (stops.Refused refusal)) file t names count are within says = grammar_fault file t names count refusal are within says
grammar_refusal (Err stops.Memory) file t names count are within says = tt

-- what the reading finds in the tokens of a file

has_tokens : (file : SourceFile) (t : Lexed) (names : List (List ℕ)) → AreTokens file t names → HasTokens file (spelled_in t.source t.entries)
has_tokens file t names are = record { small = are.small; entries = t.entries; end = t.end; names = names; lexed = are.lexed; are = ap (λ bs. spelled_in bs t.entries) (sym are.source) }

pub found_unit : (file : SourceFile) (t : Lexed) (names : List (List ℕ)) (e : Expression) → AreTokens file t names → reading (spelled_in t.source t.entries) ≡ Some e → IsUnit file e
found_unit file t names e are is = (unit_reads file (spelled_in t.source t.entries) e (has_tokens file t names are)).1 is

pub found_none : (file : SourceFile) (t : Lexed) (names : List (List ℕ)) → AreTokens file t names → reading (spelled_in t.source t.entries) ≡ None → IsNoUnit file
found_none file t names are is = λ e unit. (let some : reading (spelled_in t.source t.entries) ≡ Some e = (unit_reads file (spelled_in t.source t.entries) e (has_tokens file t names are)).0 unit in cc)

pub found_tree : (file : SourceFile) (t : Lexed) (names : List (List ℕ)) (tree : UnitTree) → AreTokens file t names → ReadsUnit (lexemes t) tree → IsGrammatical file
found_tree file t names tree are reads = record { tokens = t; names = names; are = are; tree = tree; reads = reads }

-- the pool only grows

interned_begins : (first : List (List ℕ)) (names : List (List ℕ)) (text : List ℕ) → Begins first names → Begins first (interned names text)
interned_begins first names text begins =
    cond_both (list_any (bytes_eq text) names) names (names ++ text ∷ []) (Begins first)
    (λ there. begins) (λ new. record { more = begins.more ++ text ∷ []; is = ap (λ ns. ns ++ text ∷ []) begins.is ∙ append_assoc first begins.more (text ∷ []) })

all_begin : (first names asked : List (List ℕ)) → Begins first names → Begins first (interned_all names asked)
all_begin first names [] begins = begins
all_begin first names (text ∷ asked) begins = all_begin first (interned names text) asked (interned_begins first names text begins)

pub grows_begins : (name : List ℕ) (new : List (List ℕ)) → Grows (name ∷ []) new → Begins (name ∷ []) new
grows_begins name new grows = subst (Begins (name ∷ [])) (sym grows.is) (all_begin (name ∷ []) (name ∷ []) grows.asked (record { more = []; is = refl }))

pub first_within : (old new : List (List ℕ)) → IsAlone old → Grows old new → 0 < length new
first_within [] new alone grows = absurd alone
first_within (name ∷ []) new alone grows = let begins : Begins (name ∷ []) new = grows_begins name new grows in omega (arith, ap length begins.is)
first_within (name ∷ other ∷ names) new alone grows = absurd alone

-- what the lexer says of the first unit

pub too_large_by : (names : List (List ℕ)) (unit : List ℕ) (others : List (List ℕ)) → 4194304 < length unit → IsRefused (file_in names unit) too_large others
too_large_by [] unit others large = NoGrammar too_large others (Large others large)
too_large_by (name ∷ names) unit others large = NoGrammar too_large others (Large others large)

first_is : (file : NameId) → file.0 ≡ 0 → file ≡ record { 0 = 0 }
first_is file zero_is = ap (λ (n : ℕ). let f : NameId = record { 0 = n } in f) zero_is

lexed_refused : (r : Result Lexed Stop) (name unit : List ℕ) (others : List (List ℕ)) (answer : Answer) → length unit ≤ 4194304 → IsAnswer (record { 0 = 0 }) (record { 0 = 0 }) (name ∷ []) unit answer → Gives r unit (record { 0 = 0 }) others answer
    → IfStopped r (λ refusal. IsRefused (record { name = name; bytes = unit }) refusal others)
lexed_refused (Ok t) name unit others answer small is gives = tt
lexed_refused (Err (stops.Refused refusal)) name unit others answer small is gives = NoGrammar refusal others (OfToken refusal others small (subst (IsAnswer (record { 0 = 0 }) (record { 0 = 0 }) (name ∷ []) unit) gives is))
lexed_refused (Err stops.Memory) name unit others answer small is gives = tt

pub refused_by_tokens : (r : Result Lexed Stop) (names : List (List ℕ)) (unit : List ℕ) (file : NameId) (others : List (List ℕ)) → IsAlone names → file.0 ≡ 0 → length unit ≤ 4194304
    → IfAnswered (λ answer. Gives r unit (record { 0 = 0 }) others answer) (IsAnswer (record { 0 = 0 }) file names unit) → IfStopped r (λ refusal. IsRefused (file_in names unit) refusal others)
refused_by_tokens r [] unit file others alone zero_is small answered = absurd alone
refused_by_tokens r (name ∷ []) unit file others alone zero_is small answered =
    lexed_refused r name unit others answered.0 small (subst (λ (f : NameId). IsAnswer (record { 0 = 0 }) f (name ∷ []) unit answered.0) (first_is file zero_is) answered.1) answered.2
refused_by_tokens r (name ∷ other ∷ names) unit file others alone zero_is small answered = absurd alone

lexed_tokens : (r : Result Lexed Stop) (name unit : List ℕ) (others : List (List ℕ)) (answer : Answer) → length unit ≤ 4194304 → IsAnswer (record { 0 = 0 }) (record { 0 = 0 }) (name ∷ []) unit answer → Gives r unit (record { 0 = 0 }) others answer
    → IfOk r (λ t. AreTokens (record { name = name; bytes = unit }) t others)
lexed_tokens (Ok t) name unit others answer small is gives = record { small = small; source = gives.1; unit = gives.2; lexed = subst (IsAnswer (record { 0 = 0 }) (record { 0 = 0 }) (name ∷ []) unit) gives.0 is }
lexed_tokens (Err stop) name unit others answer small is gives = tt

pub has_by_tokens : (r : Result Lexed Stop) (names : List (List ℕ)) (unit : List ℕ) (file : NameId) (others : List (List ℕ)) → IsAlone names → file.0 ≡ 0 → length unit ≤ 4194304
    → IfAnswered (λ answer. Gives r unit (record { 0 = 0 }) others answer) (IsAnswer (record { 0 = 0 }) file names unit) → IfOk r (λ t. AreTokens (file_in names unit) t others)
has_by_tokens r [] unit file others alone zero_is small answered = absurd alone
has_by_tokens r (name ∷ []) unit file others alone zero_is small answered =
    lexed_tokens r name unit others answered.0 small (subst (λ (f : NameId). IsAnswer (record { 0 = 0 }) f (name ∷ []) unit answered.0) (first_is file zero_is) answered.1) answered.2
has_by_tokens r (name ∷ other ∷ names) unit file others alone zero_is small answered = absurd alone

pub too_large_is : (count : ℕ) → 0 < count → IsMergeRefusal 1 count too_large
too_large_is count within = record { fault = tt; unit = omega arith; file = within; other = refl; other_file = λ place e. let none : None ≡ Some place = e in cc }

-- a refusal of tokens is one of `merge`

merge_fault : (fault : Fault) (other : Option Place) → IsTokenFault fault → other ≡ None → IsMergeFault fault × HasOther 1 fault other
merge_fault Lexical other is none = (tt, none)
merge_fault (Excluded feature) other is none = (tt, none)
merge_fault Syntax other is none = absurd is
merge_fault (Constraint code) other is none = absurd is
merge_fault (Limit what) other is none = (tt, none)
merge_fault Duplicate other is none = absurd is
merge_fault Incompatible other is none = absurd is

pub token_refusal : (r : Result Lexed Stop) (count : ℕ) → IfStopped r (IsTokenRefusal (record { 0 = 0 }) count) → IfStopped r (IsMergeRefusal 1 count)
token_refusal (Ok t) count is = tt
token_refusal (Err (stops.Refused refusal)) count is =
    let both : IsMergeFault refusal.fault × HasOther 1 refusal.fault refusal.other = merge_fault refusal.fault refusal.other is.fault is.other in
    record { fault = both.0; unit = first_unit refusal.at.unit is.unit; file = is.file; other = both.1; other_file = λ place e. let some : None ≡ Some place = sym is.other ∙ e in cc }
token_refusal (Err stops.Memory) count is = tt

-- a refusal of a grammatical unit is one of `merge`

unit_fault : (fault : Fault) (other : Option Place) → IsUnitFault fault → other ≡ None → IsMergeFault fault × HasOther 1 fault other
unit_fault Lexical other is none = absurd is
unit_fault (Excluded feature) other is none = (tt, none)
unit_fault Syntax other is none = absurd is
unit_fault (Constraint code) other is none = (tt, none)
unit_fault (Limit what) other is none = (tt, none)
unit_fault Duplicate other is none = absurd is
unit_fault Incompatible other is none = absurd is

pub unit_refusal : {A : Type 0} (r : Result A Stop) (count : ℕ) → IfStopped r (IsUnitRefusal count) → IfStopped r (IsMergeRefusal 1 count)
unit_refusal (Ok t) count is = tt
unit_refusal (Err (stops.Refused refusal)) count is =
    let both : IsMergeFault refusal.fault × HasOther 1 refusal.fault refusal.other = unit_fault refusal.fault refusal.other is.fault is.other in
    record { fault = both.0; unit = first_unit refusal.at.unit is.unit; file = is.file; other = both.1; other_file = λ place e. let some : None ≡ Some place = sym is.other ∙ e in cc }
unit_refusal (Err stops.Memory) count is = tt

-- what stopped a text of bytes stops one of a vector
abbrev pub stopped : (A : Type 0) → Stop → Result A Stop
stopped A stop = Err stop

-- the files of the places keep their texts
alone_kept : (t : Lexed) (i : ℕ) (names pool : List (List ℕ)) (refusal : Refusal) → PlacesWithin (length names) t → Stays names pool → place_at t i ≡ Some refusal.at → refusal.other ≡ None → KeepsFiles names pool refusal
alone_kept t i names pool refusal within stays at other = record { at = kept names pool refusal.at (within i refusal.at at) stays; other = subst (λ o. IfSome o (KeepsFile names pool)) (sym other) tt }

cause_kept : (t : Lexed) (names pool : List (List ℕ)) (refusal : Refusal) → PlacesWithin (length names) t → Stays names pool → IsUnitCause t names refusal → KeepsFiles names pool refusal
cause_kept t names pool _ within stays (OfCheck refusal is) = alone_kept t is.at.0 names pool refusal within stays is.at.1 is.other
cause_kept t names pool _ within stays (OfLength refusal fault text long at other) = alone_kept t 0 names pool refusal within stays at other

pub unit_refused : (A B : Type 0) (stop : Stop) (file : SourceFile) (pool : List (List ℕ)) (g : IsGrammatical file) → PlacesWithin (length g.names) g.tokens → Stays g.names pool → IsNoUnit file → IfStopped (stopped A stop) (IsUnitCause g.tokens g.names) → IfStopped (stopped B stop) (λ refusal. IsRefused file refusal pool)
unit_refused A B (stops.Refused refusal) file pool g within stays none is = OfUnit refusal pool g none is (cause_kept g.tokens g.names pool refusal within stays is)
unit_refused A B stops.Memory file pool g within stays none is = tt

-- the pool of a file's name alone
interned_first : (old middle : List (List ℕ)) (name text : List ℕ) (n : ℕ) → old ≡ [] → text ≡ name → Interns old middle text n → middle ≡ name ∷ []
interned_first old middle name text n none same interns = interns.after ∙ (ap (λ ns. interned ns text) none ∙ ap (λ t. t ∷ []) same)

pub begins_at : (name : List ℕ) (new : List (List ℕ)) → slice_get new 0 ≡ Some name → Begins (name ∷ []) new
begins_at name [] is = cc
begins_at name (first ∷ rest) is = record { more = rest; is = ap (λ (n : List ℕ). n ∷ rest) (same_Some first name is) }

pub keeps_first : (old new : List (List ℕ)) → Stays old new → (first : List ℕ) (more : List (List ℕ)) → old ≡ first ∷ more → (rest : List (List ℕ)) × (new ≡ first ∷ rest)
keeps_first old new stays first more is =
    let begun = begins_at first new (stays 0 first (ap (λ (ns : List (List ℕ)). slice_get ns 0) is)) in
    (begun.more, begun.is)

pub begun_names : (old middle new : List (List ℕ)) (name text : List ℕ) (n : ℕ) → old ≡ [] → text ≡ name → Interns old middle text n → Stays middle new → Begins (name ∷ []) new
begun_names old middle new name text n none same interns stays =
    begins_at name new (stays 0 name (ap (λ (ns : List (List ℕ)). slice_get ns 0) (interned_first old middle name text n none same interns)))

pub merge_refused : (asked : Option (List ℕ)) (old middle names : List (List ℕ)) (name text bytes read : List ℕ) (n : ℕ) (status : Status) → old ≡ [] → text ≡ name → Interns old middle text n → read ≡ bytes → IfSome asked (IsFrontOf 4194305 bytes)
    → IfRefused status (λ refusal. IsRefused (file_in middle read) refusal names)
    → IfSome (option_map (λ (bs : List ℕ). let f : SourceFile = record { name = name; bytes = bs } in f) asked) (λ unit. IfRefused status (λ refusal. IsRefused unit refusal names))
merge_refused asked old middle names name text bytes read n status none same interns is front says =
    refused_asked asked name bytes names status front
    (subst (λ bs. IfRefused status (λ refusal. IsRefused (record { name = name; bytes = bs }) refusal names)) is
    (subst (λ ns. IfRefused status (λ refusal. IsRefused (file_in ns read) refusal names)) (interned_first old middle name text n none same interns) says))
