-- Device: what is found first of units is what is defined: their first refusal, or that all are read.
use Rattle.std.proofs.Common.{◌≡◌, ℕ, suc, ◌+◌, ◌<◌, ◌≤◌, Bool, true, false, nat_lt, List, [], ◌∷◌, ◌++◌, length, Option, Some, None, Result, Ok, Err, refl, sym, ap, subst, arith}
use Rattle.cil_base.specs.Limits.{total_bytes, unit_bytes}
use Rattle.cil_base.specs.declared.faults.Fault.{Fault}
use Rattle.cil_base.specs.declared.faults.Fault.TheVariants.{Syntax}
use Rattle.cil_base.specs.declared.faults.Place.{Place}
use Rattle.cil_base.specs.declared.faults.Refusal.{Refusal}
use Rattle.cil_base.specs.declared.kinds.Abi.{Abi}
use Rattle.cil_base.specs.declared.kinds.Mode.{Mode}
use Rattle.c_lexer.specs.Automaton.{pieces}
use Rattle.c_lexer.specs.Lexed.{Lexed, place_at}
use Rattle.c_lexer.specs.Tokens.{Answer, Whole, Refused, IsAnswer}
use Rattle.c_lexer.proofs.Longest.{cut}
use Rattle.c_tree.specs.Units.{ExternalTree, UnitTree}
use Rattle.c_cursor.specs.Lexemes.{lexemes}
use Rattle.c_cursor.specs.Readers.{Input, input}
use Rattle.c_exprs.specs.Subs.{In}
use Rattle.c_parser.specs.UnitAnswers.{ReadsUnit, RefusesUnit}
use Rattle.c_parser.specs.Externals.{file_scope}
use Rattle.c_parser.specs.UnitReading.{unit}
use Rattle.c_parser.specs.UnitStops.{AnswersUnit}
use Rattle.c_parser.proofs.UnitWhole.{answers_unit}
use Rattle.c_typing.specs.Scopes.{Env, Found, Good, Bad}
use Rattle.c_typing.specs.Faults.{walked, first_fault, fault_in}
use Rattle.c_faults.specs.Reading.{Source, Read, IsWithin, HasTokens, IsRead, Begins, refusal_at, IsUnitFault, TooLarge, TooMuch, OfToken, OfGrammar, OfWalk}
use Rattle.c_faults.specs.Definitions.{first_twice, duplicate}
use Rattle.c_faults.specs.Acceptance.{AreRead, total_of, names_behind, Clashes, FaultAt, InUnit, Twice, Accepted}
use Rattle.c_faults.specs.FirstRefusal.{Finding, IsWhole, IsRefused, Stops, Lost, refused, after_walk, stops_from, syntax_fault, placed_stop, after_stop, after_grammar, after_tokens, tokens_of, within_total, within_unit, finding, Findings, AllWhole, OneRefused, OneStops, OneLost, with_read, on_finding, findings, refusal_for_two, refusal_of, first_refusal}
use Rattle.c_faults.proofs.SyntaxLaws.{stops_refuse, is_first}

-- one unit

abbrev Finds : Abi → ℕ → List (List ℕ) → Source → Finding → Type 0
Finds abi total names u (IsWhole r) = IsRead abi total names u r
Finds abi total names u (IsRefused refusal) = IsUnitFault abi total names u refusal
Finds abi total names u (Stops t start stop refusal) = Begins (lexemes t) start stop → IsUnitFault abi total names u refusal
Finds abi total names u Lost = Unit {0}

of_refusal : (abi : Abi) (total : ℕ) (names : List (List ℕ)) (u : Source) (t : Lexed) (behind : List (List ℕ)) (tree : UnitTree) (x : Fault × ℕ)
    → IsWithin total u → HasTokens u names t behind → ReadsUnit (lexemes t) tree → first_fault behind abi tree ≡ Some x → (o : Option Refusal) → refusal_at t x ≡ o → Finds abi total names u (refused o)
of_refusal abi total names u t behind tree x w h g f None e = tt
of_refusal abi total names u t behind tree x w h g f (Some refusal) e = OfWalk refusal t behind tree x w h g f e

of_walk : (abi : Abi) (total : ℕ) (names : List (List ℕ)) (u : Source) (t : Lexed) (behind : List (List ℕ)) (tree : UnitTree)
    → IsWithin total u → HasTokens u names t behind → ReadsUnit (lexemes t) tree → (r : Found ((Unit {0}) × Env)) → walked behind abi tree ≡ r → Finds abi total names u (after_walk t tree behind r)
of_walk abi total names u t behind tree w h g (Good x) e = record { within = w; tokens = h; grammatical = g; walked = e }
of_walk abi total names u t behind tree w h g (Bad fault at) e = of_refusal abi total names u t behind tree (fault, at) w h g (ap fault_in e) (refusal_at t (fault, at)) refl

of_places : (abi : Abi) (total : ℕ) (names : List (List ℕ)) (u : Source) (t : Lexed) (behind : List (List ℕ)) (x : ℕ × ℕ) → IsWithin total u → HasTokens u names t behind → RefusesUnit (lexemes t) x.0 x.1
    → (o p : Option Place) → place_at t x.0 ≡ o → place_at t x.1 ≡ p → Finds abi total names u (placed_stop t x (syntax_fault o p))
of_places abi total names u t behind x w h g None p d e = tt
of_places abi total names u t behind x w h g (Some at) None d e = tt
of_places abi total names u t behind x w h g (Some at) (Some other) d e = λ b. OfGrammar (record { fault = Syntax; at = at; other = Some other }) t behind w h (is_first t x.0 x.1 at other g d e b)

of_stop : (abi : Abi) (total : ℕ) (names : List (List ℕ)) (u : Source) (t : Lexed) (behind : List (List ℕ)) → IsWithin total u → HasTokens u names t behind
    → (o : Option (ℕ × ℕ)) → stops_from (suc (length t.entries)) file_scope (input 0 (lexemes t)) ≡ o → Finds abi total names u (after_stop t o)
of_stop abi total names u t behind w h None e = tt
of_stop abi total names u t behind w h (Some x) e = of_places abi total names u t behind x w h (stops_refuse (suc (length t.entries)) (lexemes t) x e) (place_at t x.0) (place_at t x.1) refl refl

of_grammar : (abi : Abi) (total : ℕ) (names : List (List ℕ)) (u : Source) (t : Lexed) (behind : List (List ℕ))
    → IsWithin total u → HasTokens u names t behind → (r : Result (In (List ExternalTree) × Input) Input) → AnswersUnit (lexemes t) r → Finds abi total names u (after_grammar abi t behind r)
of_grammar abi total names u t behind w h (Err i) g = of_stop abi total names u t behind w h (stops_from (suc (length t.entries)) file_scope (input 0 (lexemes t))) refl
of_grammar abi total names u t behind w h (Ok x) g = of_walk abi total names u t behind x.0.0 w h g.0 (walked behind abi x.0.0) refl

is_answer : (names : List (List ℕ)) (u : Source) (answer : Answer) → tokens_of names u ≡ answer → IsAnswer u.unit u.file names u.bytes answer
is_answer names u answer e = (pieces 0 true u.bytes, cut true u.bytes, sym e)

of_tokens : (abi : Abi) (total : ℕ) (names : List (List ℕ)) (u : Source) → IsWithin total u → (answer : Answer) → tokens_of names u ≡ answer → Finds abi total names u (after_tokens abi u answer)
of_tokens abi total names u w (Whole entries end behind) e =
    of_grammar abi total names u (record { source = u.bytes; unit = u.unit; entries = entries; end = end }) behind w (record { source = refl; unit = refl; lexed = is_answer names u (Whole entries end behind) e })
    (unit (input 0 (lexemes (record { source = u.bytes; unit = u.unit; entries = entries; end = end })))) (answers_unit (lexemes (record { source = u.bytes; unit = u.unit; entries = entries; end = end })))
of_tokens abi total names u w (Refused refusal behind) e = OfToken refusal behind w (is_answer names u (Refused refusal behind) e)

is_less : (m n : ℕ) → nat_lt m n ≡ true → m < n
is_less m n e = grind arith

is_most : (m n : ℕ) → nat_lt m n ≡ false → n ≤ m
is_most m n e = grind arith

of_total : (abi : Abi) (total : ℕ) (names : List (List ℕ)) (u : Source) → length u.bytes ≤ unit_bytes → (b : Bool) → nat_lt total_bytes (total + length u.bytes) ≡ b → Finds abi total names u (within_total abi total names u b)
of_total abi total names u l true e = TooMuch l (is_less total_bytes (total + length u.bytes) e)
of_total abi total names u l false e = of_tokens abi total names u (record { alone = l; together = is_most total_bytes (total + length u.bytes) e }) (tokens_of names u) refl

of_unit : (abi : Abi) (total : ℕ) (names : List (List ℕ)) (u : Source) (b : Bool) → nat_lt unit_bytes (length u.bytes) ≡ b → Finds abi total names u (within_unit abi total names u b)
of_unit abi total names u true e = TooLarge (is_less unit_bytes (length u.bytes) e)
of_unit abi total names u false e = of_total abi total names u (is_most unit_bytes (length u.bytes) e) (nat_lt total_bytes (total + length u.bytes)) refl

finds : (abi : Abi) (total : ℕ) (names : List (List ℕ)) (u : Source) → Finds abi total names u (finding abi total names u)
finds abi total names u = of_unit abi total names u (nat_lt unit_bytes (length u.bytes)) refl

-- units in order

record OneFault (abi : Abi) (total : ℕ) (names : List (List ℕ)) (units : List Source) (refusal : Refusal) : Type 0 where
  before : List Source
  behind : List Source
  one : Source
  reads : List Read
  parts : units ≡ before ++ (one ∷ behind)
  read : AreRead abi total names before reads
  fault : IsUnitFault abi (total + total_of before) (names_behind names reads) one refusal

abbrev FindsAll : Abi → ℕ → List (List ℕ) → List Source → Findings → Type 0
FindsAll abi total names units (AllWhole reads) = AreRead abi total names units reads
FindsAll abi total names units (OneRefused refusal) = OneFault abi total names units refusal
FindsAll abi total names units (OneStops t start stop refusal) = Begins (lexemes t) start stop → OneFault abi total names units refusal
FindsAll abi total names units OneLost = Unit {0}

sum_of : (a b c : ℕ) → (a + b) + c ≡ a + (b + c)
sum_of a b c = omega arith

behind_read : (abi : Abi) (total : ℕ) (names : List (List ℕ)) (u : Source) (us : List Source) (r : Read) → IsRead abi total names u r → (refusal : Refusal) → OneFault abi (total + length u.bytes) r.names us refusal → OneFault abi total names (u ∷ us) refusal
behind_read abi total names u us r is refusal h = record {
  before = u ∷ h.before;
  behind = h.behind;
  one = h.one;
  reads = r ∷ h.reads;
  parts = ap (λ xs. u ∷ xs) h.parts;
  read = (is, h.read);
  fault = subst (λ k. IsUnitFault abi k (names_behind r.names h.reads) h.one refusal) (sum_of total (length u.bytes) (total_of h.before)) h.fault;
}

on_read : (abi : Abi) (total : ℕ) (names : List (List ℕ)) (u : Source) (us : List Source) (r : Read) → IsRead abi total names u r → (f : Findings) → FindsAll abi (total + length u.bytes) r.names us f → FindsAll abi total names (u ∷ us) (with_read r f)
on_read abi total names u us r is (AllWhole reads) h = (is, h)
on_read abi total names u us r is (OneRefused refusal) h = behind_read abi total names u us r is refusal h
on_read abi total names u us r is (OneStops t start stop refusal) h = λ b. behind_read abi total names u us r is refusal (h b)
on_read abi total names u us r is OneLost h = tt

none_before : (a : ℕ) → a ≡ a + 0
none_before a = omega arith

first_of : (abi : Abi) (total : ℕ) (names : List (List ℕ)) (u : Source) (us : List Source) (refusal : Refusal) → IsUnitFault abi total names u refusal → OneFault abi total names (u ∷ us) refusal
first_of abi total names u us refusal h = record { before = []; behind = us; one = u; reads = []; parts = refl; read = tt; fault = subst (λ i. IsUnitFault abi i names u refusal) (none_before total) h }

on_one : (abi : Abi) (total : ℕ) (names : List (List ℕ)) (u : Source) (us : List Source) (f : Finding) → Finds abi total names u f → ((r : Read) → FindsAll abi (total + length u.bytes) r.names us (findings abi (total + length u.bytes) r.names us))
    → FindsAll abi total names (u ∷ us) (on_finding f (λ r. findings abi (total + length u.bytes) r.names us))
on_one abi total names u us (IsWhole r) h k = on_read abi total names u us r h (findings abi (total + length u.bytes) r.names us) (k r)
on_one abi total names u us (IsRefused refusal) h k = first_of abi total names u us refusal h
on_one abi total names u us (Stops t start stop refusal) h k = λ b. first_of abi total names u us refusal (h b)
on_one abi total names u us Lost h k = tt

finds_all : (abi : Abi) (total : ℕ) (names : List (List ℕ)) (units : List Source) → FindsAll abi total names units (findings abi total names units)
finds_all abi total names [] = tt
finds_all abi total names (u ∷ us) = on_one abi total names u us (finding abi total names u) (finds abi total names u) (λ r. finds_all abi (total + length u.bytes) r.names us)

-- what several units show

of_two : (Clash : Clashes) (mode : Mode) (names : List (List ℕ)) (units : List Source) (reads : List Read) (refusal : Refusal) → AreRead mode.abi 0 names units reads → (o : Option (Place × Place)) → first_twice mode.common reads ≡ o
    → refusal_for_two o ≡ Some refusal → FaultAt Clash mode names units refusal
of_two Clash mode names units reads refusal h None e f = cc
of_two Clash mode names units reads refusal h (Some places) e f = subst (FaultAt Clash mode names units) (some_is (duplicate places) refusal f) (Twice places reads h e)
  where
    some_is : (a b : Refusal) → Some a ≡ Some b → a ≡ b
    some_is a b e = cc

-- a syntax fault's second place is exact
abbrev pub IsExact : Findings → Type 0
IsExact (AllWhole reads) = Unit {0}
IsExact (OneRefused refusal) = Unit {0}
IsExact (OneStops t start stop refusal) = Begins (lexemes t) start stop
IsExact OneLost = Unit {0}

zero_more : (k : ℕ) → 0 + k ≡ k
zero_more k = omega arith

some_is : (a b : Refusal) → Some a ≡ Some b → a ≡ b
some_is a b e = cc

of_one : (Clash : Clashes) (mode : Mode) (names : List (List ℕ)) (units : List Source) (refusal : Refusal) → OneFault mode.abi 0 names units refusal → FaultAt Clash mode names units refusal
of_one Clash mode names units refusal h = InUnit refusal h.before h.behind h.one h.reads h.parts h.read (subst (λ k. IsUnitFault mode.abi k (names_behind names h.reads) h.one refusal) (zero_more (total_of h.before)) h.fault)

of_all : (Clash : Clashes) (mode : Mode) (names : List (List ℕ)) (units : List Source) (refusal : Refusal) (f : Findings) → FindsAll mode.abi 0 names units f → IsExact f → refusal_of mode.common f ≡ Some refusal → FaultAt Clash mode names units refusal
of_all Clash mode names units refusal (AllWhole reads) h b e = of_two Clash mode names units reads refusal h (first_twice mode.common reads) refl e
of_all Clash mode names units refusal (OneRefused other) h b e = subst (FaultAt Clash mode names units) (some_is other refusal e) (of_one Clash mode names units other h)
of_all Clash mode names units refusal (OneStops t start stop other) h b e = subst (FaultAt Clash mode names units) (some_is other refusal e) (of_one Clash mode names units other (h b))
of_all Clash mode names units refusal OneLost h b e = cc

-- the refusal that is found is one of the units, whichever types go together
pub refusal_is_first : (Clash : Clashes) (mode : Mode) (names : List (List ℕ)) (units : List Source) (refusal : Refusal) → first_refusal mode names units ≡ Some refusal → IsExact (findings mode.abi 0 names units) → FaultAt Clash mode names units refusal
refusal_is_first Clash mode names units refusal e b = of_all Clash mode names units refusal (findings mode.abi 0 names units) (finds_all mode.abi 0 names units) b e

-- units of which each is found whole are read
pub all_are_read : (abi : Abi) (names : List (List ℕ)) (units : List Source) (reads : List Read) → findings abi 0 names units ≡ AllWhole reads → AreRead abi 0 names units reads
all_are_read abi names units reads e = subst (FindsAll abi 0 names units) e (finds_all abi 0 names units)

-- units that are all read, without two definitions and without a clash, are accepted
pub whole_is_accepted : (Clash : Clashes) (mode : Mode) (names : List (List ℕ)) (units : List Source) (reads : List Read) → findings mode.abi 0 names units ≡ AllWhole reads → first_twice mode.common reads ≡ None
    → ((refusal : Refusal) → Clash reads refusal → ⊥) → Accepted Clash mode names units
whole_is_accepted Clash mode names units reads e once apart = record { reads = reads; read = subst (FindsAll mode.abi 0 names units) e (finds_all mode.abi 0 names units); once = once; together = apart }
