-- The reading of a whole unit gives the grammatical unit or where none goes on; and so does code that reads one external declaration behind the other.
use Rattle.std.proofs.Common.{◌≡◌, refl, sym, ap, ◌∙◌, subst, ℕ, zero, suc, ◌+◌, ◌<◌, ◌≤◌, length, drop, Bool, true, false, List, [], ◌∷◌, ◌++◌, map, Option, Some, None, Result, Ok, Err, IfOk, IfErr, Vec, Global, append_assoc, append-nil, arith, length-append, true≢false}
use Rattle.std.proofs.lemmas.List.{length-map}
use Rattle.cil_base.specs.declared.faults.Fault.TheVariants.{Syntax as SyntaxFault}
use Rattle.cil_base.specs.declared.faults.Place.{Place}
use Rattle.cil_base.specs.declared.faults.Refusal.{Refusal}
use Rattle.c_lexer.specs.Lexed.{Lexed, place_at}
use Rattle.typedef_scopes.specs.Scopes.{Scope}
use Rattle.c_tree.specs.declared.statement.ExtDecl.{ExtDecl}
use Rattle.c_tree.specs.Units.{ExternalTree}
use Rattle.c_tree.specs.UnitView.{external_of as tree_of}
use Rattle.c_tree.specs.Spelling.{Lexeme}
use Rattle.c_tree.specs.Levels.{has_some}
use Rattle.c_cursor.specs.Readers.{Input, input, head, pure, bind, and_then, chain}
use Rattle.c_exprs.specs.Subs.{In, grow}
use Rattle.c_cursor.specs.Lexemes.{lexemes, lexeme_of}
use Rattle.c_parser.specs.StatementWords.{token_ahead}
use Rattle.c_parser.specs.Externals.{file_scope, greatest_height}
use Rattle.c_parser.specs.UnitForms.{IsExternal}
use Rattle.c_parser.specs.UnitReading.{external_of, more_externals, unit}
use Rattle.c_parser.specs.UnitAnswers.{AreExternals, ReadsUnit, RefusesUnit, IsSyntaxFault}
use Rattle.c_parser.specs.UnitStops.{StopsUnit, AnswersUnit, Behind, FailsExternal, Told, StopsAt}
use Rattle.c_parser.specs.declared.stops.UnitStop.{UnitStop}
use Rattle.c_parser.specs.declared.stops.UnitStop.TheVariants.{Syntax, Memory}
use Rattle.c_parser.proofs.UnitLaws.{external_reading, extended, external_some, accepted, refused, some_more}

stops : (xs : List ExternalTree) (es : List Scope) (ts front rest : List Lexeme) (i : Input) → ts ≡ front ++ rest → AreExternals file_scope xs es 0 front → (has_some xs ≡ true → token_ahead (head rest) ≡ true) → external_of greatest_height es (input (length front) rest) ≡ Err i → StopsUnit ts (length front) i.at
stops xs es ts front rest i parts a some e = record { refuses = refused xs es ts front rest i parts a some e; whole = xs; scopes = es; front = front; rest = rest; left = i.rest; parts = parts; number = refl; before = a; fails = e }

-- one more behind those in front of some tokens
record Next (xs : List ExternalTree) (x : In ExternalTree) (ts front rest : List Lexeme) (j : Input) : Type 0 where
  text : List Lexeme
  parts : ts ≡ (front ++ text) ++ j.rest
  split : rest ≡ text ++ j.rest
  taken : 0 < length text
  number : j.at ≡ length (front ++ text)
  are : AreExternals file_scope (xs ++ x.0 ∷ []) x.1 0 (front ++ text)

next : (xs : List ExternalTree) (es : List Scope) (x : In ExternalTree) (ts front rest : List Lexeme) (j : Input) → ts ≡ front ++ rest → AreExternals file_scope xs es 0 front → external_of greatest_height es (input (length front) rest) ≡ Ok (x, j) → Next xs x ts front rest j
next xs es x ts front rest j parts a e =
    let t = (external_reading es greatest_height).takes (length front) rest x j tt e in
    let number : length front ≡ 0 + length front = omega arith in
    record {
      text = t.text;
      parts = parts ∙ (ap (λ u. front ++ u) t.parts ∙ sym (append_assoc front t.text j.rest));
      split = t.parts;
      taken = external_some es x (length front) t.text t.holds;
      number = t.number ∙ sym (length-append front t.text);
      are = extended xs file_scope es x.1 x.0 0 front t.text a (subst (λ k. IsExternal es greatest_height x k t.text) number t.holds);
    }

-- at the end of the tokens
ends : (xs : List ExternalTree) (es : List Scope) (ts front : List Lexeme) → ts ≡ front ++ [] → AreExternals file_scope xs es 0 front → has_some xs ≡ true → AnswersUnit ts (Ok ((xs, es), input (length front) []))
ends xs es ts front parts a some =
    let all : front ≡ ts = sym (append-nil front) ∙ sym parts in
    (accepted xs es ts some (subst (AreExternals file_scope xs es 0) all a), ap (λ us. input (length us) []) all)

abbrev AnswersChain : ℕ → Type 0
AnswersChain n = (xs : List ExternalTree) (es : List Scope) (ts front rest : List Lexeme) → length rest ≤ n → ts ≡ front ++ rest → AreExternals file_scope xs es 0 front → has_some xs ≡ true → AnswersUnit ts (chain (λ y. token_ahead) (grow (external_of greatest_height)) n (xs, es) (input (length front) rest))

chain_step : (n : ℕ) → AnswersChain n → (xs : List ExternalTree) (es : List Scope) (ts front rest : List Lexeme) → length rest ≤ suc n → ts ≡ front ++ rest → AreExternals file_scope xs es 0 front → has_some xs ≡ true → token_ahead (head rest) ≡ true →
    (r : Result (In ExternalTree × Input) Input) → external_of greatest_height es (input (length front) rest) ≡ r →
    AnswersUnit ts (and_then (λ y. chain (λ z. token_ahead) (grow (external_of greatest_height)) n y) (and_then (λ y. pure (xs ++ y.0 ∷ [], y.1)) r))
chain_step n ih xs es ts front rest long parts a some on (Err i) e = (length front, stops xs es ts front rest i parts a (λ s. on) e)
chain_step n ih xs es ts front rest long parts a some on (Ok y) e =
    let t = next xs es y.0 ts front rest y.1 parts a e in
    let short : length y.1.rest ≤ n = omega (arith, long, t.taken, ap length t.split, length-append t.text y.1.rest) in
    subst (λ k. AnswersUnit ts (chain (λ z. token_ahead) (grow (external_of greatest_height)) n (xs ++ y.0.0 ∷ [], y.0.1) (input k y.1.rest))) (sym t.number) (ih (xs ++ y.0.0 ∷ []) y.0.1 ts (front ++ t.text) y.1.rest short t.parts t.are (some_more xs y.0.0))

answers_chain : (n : ℕ) → AnswersChain n
answers_chain zero xs es ts front [] long parts a some = ends xs es ts front parts a some
answers_chain zero xs es ts front (u ∷ us) long parts a some = absurd (omega (arith, long))
answers_chain (suc n) xs es ts front [] long parts a some = ends xs es ts front parts a some
answers_chain (suc n) xs es ts front (u ∷ us) long parts a some = chain_step n (answers_chain n) xs es ts front (u ∷ us) long parts a some refl (external_of greatest_height es (input (length front) (u ∷ us))) refl

answers_first : (ts : List Lexeme) (r : Result (In ExternalTree × Input) Input) → external_of greatest_height file_scope (input 0 ts) ≡ r → AnswersUnit ts (and_then (λ d. more_externals greatest_height (d.0 ∷ [], d.1)) r)
answers_first ts (Err i) e = (0, stops [] file_scope ts [] ts i refl (refl, refl) (λ s. absurd (true≢false (sym s))) e)
answers_first ts (Ok y) e =
    let t = next [] file_scope y.0 ts [] ts y.1 refl (refl, refl) e in
    subst (λ k. AnswersUnit ts (chain (λ z. token_ahead) (grow (external_of greatest_height)) (length y.1.rest) (y.0.0 ∷ [], y.0.1) (input k y.1.rest))) (sym t.number) (answers_chain (length y.1.rest) (y.0.0 ∷ []) y.0.1 ts t.text y.1.rest (omega arith) t.parts t.are refl)

-- the reading of a whole unit
pub answers_unit : (ts : List Lexeme) → AnswersUnit ts (unit (input 0 ts))
answers_unit ts = answers_first ts (external_of greatest_height file_scope (input 0 ts)) refl

-- code that reads one behind the other, said of the facts that it has

behind_start : (all : List Lexeme) (at : ℕ) (ds : List Scope) → at ≡ 0 → ds ≡ file_scope → Behind all at [] ds
behind_start all at ds start_is is = record { front = []; parts = ap (λ k. drop k all) (sym start_is); number = start_is; are = (is, refl) }

map_end : {A B : Type 0} (f : A → B) (xs : List A) (x : A) → map f (xs ++ x ∷ []) ≡ map f xs ++ f x ∷ []
map_end f [] x = refl
map_end f (y ∷ ys) x = ap (λ zs. f y ∷ zs) (map_end f ys x)

seen_end : (xs ys : List ExtDecl) (x : ExtDecl) → ys ≡ xs ++ x ∷ [] → map tree_of ys ≡ map tree_of xs ++ tree_of x ∷ []
seen_end xs ys x grown = ap (map tree_of) grown ∙ map_end tree_of xs x

pub some_pushed : (xs ys : List ExtDecl) (x : ExtDecl) → ys ≡ xs ++ x ∷ [] → has_some (map tree_of ys) ≡ true
some_pushed xs ys x grown = ap has_some (seen_end xs ys x grown) ∙ some_more (map tree_of xs) (tree_of x)

pub behind_next : (all more : List Lexeme) (at to : ℕ) (xs ys : List ExtDecl) (x : ExtDecl) (es fs : List Scope) → Behind all at (map tree_of xs) es →
    external_of greatest_height es (input at (drop at all)) ≡ Ok ((tree_of x, fs), input to (drop to more)) → ys ≡ xs ++ x ∷ [] → more ≡ all → Behind more to (map tree_of ys) fs
behind_next all more at to xs ys x es fs b e grown same =
    let there : external_of greatest_height es (input (length b.front) (drop at all)) ≡ Ok ((tree_of x, fs), input to (drop to more)) = subst (λ k. external_of greatest_height es (input k (drop at all)) ≡ Ok ((tree_of x, fs), input to (drop to more))) b.number e in
    let t = next (map tree_of xs) es (tree_of x, fs) all b.front (drop at all) (input to (drop to more)) b.parts b.are there in
    record { front = b.front ++ t.text; parts = same ∙ t.parts; number = t.number; are = subst (λ zs. AreExternals file_scope zs fs 0 (b.front ++ t.text)) (sym (seen_end xs ys x grown)) t.are }

pub behind_first : (all more : List Lexeme) (at to : ℕ) (xs ys : List ExtDecl) (x : ExtDecl) (ds fs : List Scope) → at ≡ 0 → ds ≡ file_scope →
    external_of greatest_height ds (input at (drop at all)) ≡ Ok ((tree_of x, fs), input to (drop to more)) → xs ≡ [] → ys ≡ xs ++ x ∷ [] → more ≡ all → Behind more to (map tree_of ys) fs
behind_first all more at to xs ys x ds fs start_is is e none grown same = behind_next all more at to [] ys x ds fs (behind_start all at ds start_is is) e (grown ∙ ap (λ zs. zs ++ x ∷ []) none) same

behind_fails : (all more : List Lexeme) (at to : ℕ) (xs : List ExternalTree) (es : List Scope) → Behind all at xs es → (has_some xs ≡ true → token_ahead (head (drop at all)) ≡ true) → external_of greatest_height es (input at (drop at all)) ≡ Err (input to (drop to more)) → StopsUnit all at to
behind_fails all more at to xs es b some e =
    let there : external_of greatest_height es (input (length b.front) (drop at all)) ≡ Err (input to (drop to more)) = subst (λ k. external_of greatest_height es (input k (drop at all)) ≡ Err (input to (drop to more))) b.number e in
    subst (λ k. StopsUnit all k to) (sym b.number) (stops xs es all b.front (drop at all) (input to (drop to more)) b.parts b.are some there)

stops_told : (all more : List Lexeme) (at to : ℕ) (xs : List ExternalTree) (es : List Scope) (e : UnitStop) → Behind all at xs es → (has_some xs ≡ true → token_ahead (head (drop at all)) ≡ true) →
    Told (FailsExternal es (input at (drop at all)) (input to (drop to more))) e → Told (StopsUnit all) e
stops_told all more at to xs es (Syntax start stop) b some f =
    subst (λ k. StopsUnit all k stop) (sym f.1) (subst (λ k. StopsUnit all at k) (sym f.2) (behind_fails all more at to xs es b some f.0))
stops_told all more at to xs es Memory b some f = tt

pub stops_ahead : (all more : List Lexeme) (at to : ℕ) (xs : List ExternalTree) (es : List Scope) (e : UnitStop) → Behind all at xs es → token_ahead (head (drop at all)) ≡ true →
    Told (FailsExternal es (input at (drop at all)) (input to (drop to more))) e → Told (StopsUnit all) e
stops_ahead all more at to xs es e b on f = stops_told all more at to xs es e b (λ s. on) f

pub stops_result : {A : Type 0} (r : Result A UnitStop) (all more : List Lexeme) (at to : ℕ) (xs : List ExternalTree) (es : List Scope) → Behind all at xs es → token_ahead (head (drop at all)) ≡ true →
    IfErr r (λ e. Told (FailsExternal es (input at (drop at all)) (input to (drop to more))) e) → IfErr r (λ e. Told (StopsUnit all) e)
stops_result (Ok a) all more at to xs es b on f = tt
stops_result (Err e) all more at to xs es b on f = stops_ahead all more at to xs es e b on f

-- what is said of the tokens is said of those that are the same
pub stops_told_of : (first all : List Lexeme) (e : UnitStop) → all ≡ first → Told (StopsUnit all) e → Told (StopsUnit first) e
stops_told_of first all e same f = subst (λ us. Told (StopsUnit us) e) same f

pub stops_first : (all more : List Lexeme) (at to : ℕ) (ds : List Scope) (e : UnitStop) → at ≡ 0 → ds ≡ file_scope → Told (FailsExternal ds (input at (drop at all)) (input to (drop to more))) e → Told (StopsUnit all) e
stops_first all more at to ds e start_is is f = stops_told all more at to [] ds e (behind_start all at ds start_is is) (λ s. absurd (true≢false (sym s))) f

no_more : (us : List Lexeme) → token_ahead (head us) ≡ false → us ≡ []
no_more [] e = refl
no_more (u ∷ us) e = absurd (true≢false e)

pub behind_all : (first all : List Lexeme) (at : ℕ) (xs : List ExternalTree) (es : List Scope) (on : Bool) → Behind all at xs es → has_some xs ≡ true → on ≡ token_ahead (head (drop at all)) → on ≡ false → all ≡ first → ReadsUnit first xs
behind_all first all at xs es on b some is off same =
    let whole : b.front ≡ all = sym (append-nil b.front) ∙ (ap (λ us. b.front ++ us) (sym (no_more (drop at all) (sym is ∙ off))) ∙ sym b.parts) in
    subst (λ us. ReadsUnit us xs) same (accepted xs es all some (subst (AreExternals file_scope xs es 0) whole b.are))

pub reads_same : (r : Result (Vec ExtDecl Global) UnitStop) (all more : List Lexeme) → more ≡ all → IfOk r (λ ds. ReadsUnit more (map tree_of ds.items)) → IfOk r (λ ds. ReadsUnit all (map tree_of ds.items))
reads_same r all more same f = subst (λ us. IfOk r (λ ds. ReadsUnit us (map tree_of ds.items))) same f

pub stops_same : (r : Result (Vec ExtDecl Global) UnitStop) (all more : List Lexeme) → more ≡ all → IfErr r (λ e. Told (StopsUnit more) e) → IfErr r (λ e. Told (StopsUnit all) e)
stops_same r all more same f = subst (λ us. IfErr r (λ e. Told (StopsUnit us) e)) same f

-- both numbers are those of tokens, or of the unit's end

parts_within : (us front rest : List Lexeme) → us ≡ front ++ rest → length front ≤ length us
parts_within us front rest e = omega (arith, ap length e, length-append front rest)

pub start_within : (t : Lexed) (start stop : ℕ) → StopsUnit (lexemes t) start stop → start ≤ length t.entries
start_within t start stop s =
    let r = s.refuses in
    omega (arith, r.number, parts_within (lexemes t) r.front r.rest r.parts, length-map t.entries (lexeme_of t.source))

pub stop_within : (t : Lexed) (start stop : ℕ) → StopsUnit (lexemes t) start stop → stop ≤ length t.entries
stop_within t start stop s =
    let r = s.refuses in
    omega (arith, r.number, ap length r.parts, length-append r.front r.rest, r.none.number, parts_within r.rest r.none.front r.left r.none.parts, length-map t.entries (lexeme_of t.source))

pub stops_at : (t : Lexed) (start stop : ℕ) (at other : Place) (refusal : Refusal) → StopsUnit (lexemes t) start stop → place_at t start ≡ Some at → place_at t stop ≡ Some other → refusal ≡ record { fault = SyntaxFault; at = at; other = Some other } → StopsAt t refusal
stops_at t start stop at other refusal s a o is = subst (StopsAt t) (sym is) (record { start = start; stop = stop; other = other; stops = s; fault = refl; at = a; behind = o; told = refl })

pub stops_refused : (t : Lexed) (refusal : Refusal) → StopsAt t refusal → IsSyntaxFault t refusal
stops_refused t refusal s = record { start = s.start; stop = s.stop; other = s.other; refuses = s.stops.refuses; fault = s.fault; at = s.at; behind = s.behind; told = s.told }
