-- Where a cursor stands among the tokens of a list.
use Rattle.std.proofs.Common.{◌≡◌, refl, sym, ◌∙◌, ap, subst, ℕ, zero, suc, Bool, true, false, true≢false, List, [], ◌∷◌, map, drop, length, ◌+◌, ◌-◌, ◌<◌, ◌≤◌, arith, Some, None, slice_get}
use Rattle.std.specs.Prelude.{if◌then◌else◌}
use Rattle.std.specs.Option.{option_map}
use Rattle.cil_base.specs.declared.tokens.Token.{Token}
use Rattle.c_lexer.specs.declared.entries.Entry.{Entry}
use Rattle.c_tree.specs.Spelling.{Lexeme}
use Rattle.c_lexer.specs.Lexed.{Lexed, token_at, text_of, text_at}
use Rattle.c_cursor.specs.Readers.{head}
use Rattle.c_cursor.specs.Classes.{has_text}
use Rattle.c_cursor.specs.Lexemes.{lexeme_of, lexemes, Standing}
use Rattle.c_cursor.specs.Given.{IsNext, IsValue}
use Rattle.c_cursor.proofs.NextLemmas.{one_more}

no_text : (b : Bool) (text : List ℕ) → b ≡ false → (if b then text else []) ≡ []
no_text true text e = absurd (true≢false e)
no_text false text e = refl

next_entry : (source : List ℕ) (e : Entry) → IsNext (Some e.token.kind) (Some (lexeme_of source e))
next_entry source e = (refl, no_text (has_text e.token.kind) _)

next_behind : (source : List ℕ) (es : List Entry) (i : ℕ) (u : Token) → option_map (λ (e : Entry). e.token) (slice_get es i) ≡ Some u → IsNext (Some u.kind) (head (drop i (map (lexeme_of source) es)))
next_behind source [] zero u e = absurd cc
next_behind source [] (suc i) u e = absurd cc
next_behind source (x ∷ xs) zero u e = subst (λ o. IsNext (option_map (λ (t : Token). t.kind) o) (Some (lexeme_of source x))) e (next_entry source x)
next_behind source (x ∷ xs) (suc i) u e = next_behind source xs i u e

-- the kind of the token before which a cursor stands
pub next_kind : (t : Lexed) (i : ℕ) (u : Token) (c : Standing) → record { all = lexemes t; at = i } ≡ c → token_at t i ≡ Some u → IsNext (Some u.kind) (head (drop c.at c.all))
next_kind t i u c is e = subst (λ (d : Standing). IsNext (Some u.kind) (head (drop d.at d.all))) is (next_behind t.source t.entries i u e)

-- the kind of the token behind that
pub second_kind : (t : Lexed) (i : ℕ) (u : Token) (c : Standing) → record { all = lexemes t; at = i } ≡ c → token_at t (i + 1) ≡ Some u → IsNext (Some u.kind) (head (drop 1 (drop c.at c.all)))
second_kind t i u c is e =
    subst (λ (d : Standing). IsNext (Some u.kind) (head (drop 1 (drop d.at d.all)))) is (subst (λ us. IsNext (Some u.kind) (head us)) (sym (one_more (lexemes t) i)) (next_behind t.source t.entries (i + 1) u e))

lengths : (source : List ℕ) (es : List Entry) → length (map (lexeme_of source) es) ≡ length es
lengths source [] = refl
lengths source (e ∷ es) = ap suc (lengths source es)

lexemes_length : (t : Lexed) → length (lexemes t) ≡ length t.entries
lexemes_length t = lengths t.source t.entries

-- how many tokens a list has
all_length : (t : Lexed) (i : ℕ) (c : Standing) → record { all = lexemes t; at = i } ≡ c → length c.all ≡ length t.entries
all_length t i c is = subst (λ (d : Standing). length d.all ≡ length t.entries) is (lexemes_length t)

none_behind : (us : List Lexeme) (i : ℕ) → length us ≤ i → IsNext None (head (drop i us))
none_behind [] zero le = tt
none_behind [] (suc i) le = tt
none_behind (u ∷ us) zero le = absurd (omega (arith, le))
none_behind (u ∷ us) (suc i) le = none_behind us i (omega (arith, le))

-- one token is left, or none
pub no_second : (t : Lexed) (i n : ℕ) (c : Standing) → record { all = lexemes t; at = i } ≡ c → n ≡ length t.entries → n - i < 2 → IsNext None (head (drop 1 (drop c.at c.all)))
no_second t i n c is e lt =
    let le : length (lexemes t) ≤ i + 1 = omega (arith, lexemes_length t, e, lt) in
    subst (λ (d : Standing). IsNext None (head (drop 1 (drop d.at d.all)))) is (subst (λ us. IsNext None (head us)) (sym (one_more (lexemes t) i)) (none_behind (lexemes t) (i + 1) le))

-- a number that is not beyond the last token
pub within_all : (t : Lexed) (i n m : ℕ) (c : Standing) → record { all = lexemes t; at = i } ≡ c → n ≡ length t.entries → m ≤ length c.all → (m ≤ n) × (n ≡ length t.entries)
within_all t i n m c is e le = (subst (λ k. m ≤ k) (all_length t i c is ∙ sym e) le, e)

-- the number behind the next token
pub next_within : (t : Lexed) (i n : ℕ) (c : Standing) → record { all = lexemes t; at = i } ≡ c → n ≡ length t.entries → c.at < length c.all → (i + 1 ≤ n) × (n ≡ length t.entries)
next_within t i n c is e lt =
    let f : i < n = subst (λ k. i < k) (all_length t i c is ∙ sym e) (subst (λ k. k < length c.all) (ap (λ (d : Standing). d.at) (sym is)) lt) in
    (omega (arith, f), e)

text_kept : (b : Bool) (t text : List ℕ) → b ≡ true → t ≡ text → (if b then t else []) ≡ text
text_kept true t text e is = is
text_kept false t text e is = absurd (true≢false (sym e))

value_of_entry : (source : List ℕ) (x : Entry) (u : Token) (text : List ℕ) → Some x.token ≡ Some u → has_text u.kind ≡ true → Some (text_of source x) ≡ Some text → IsValue text (Some (lexeme_of source x))
value_of_entry source x u text e on is =
    let k : Some (has_text x.token.kind) ≡ Some (has_text u.kind) = ap (option_map (λ (t : Token). has_text t.kind)) e in
    let h : has_text x.token.kind ≡ has_text u.kind = cc in
    let same : text_of source x ≡ text = cc in
    text_kept (has_text x.token.kind) (text_of source x) text (h ∙ on) same

nothing_of_entry : (source : List ℕ) (x : Entry) (u : Token) → Some x.token ≡ Some u → has_text u.kind ≡ false → IsValue [] (Some (lexeme_of source x))
nothing_of_entry source x u e off =
    let k : Some (has_text x.token.kind) ≡ Some (has_text u.kind) = ap (option_map (λ (t : Token). has_text t.kind)) e in
    let h : has_text x.token.kind ≡ has_text u.kind = cc in
    no_text (has_text x.token.kind) (text_of source x) (h ∙ off)

value_behind : (source : List ℕ) (es : List Entry) (i : ℕ) (u : Token) (text : List ℕ) → option_map (λ (e : Entry). e.token) (slice_get es i) ≡ Some u → has_text u.kind ≡ true → option_map (text_of source) (slice_get es i) ≡ Some text →
    IsValue text (head (drop i (map (lexeme_of source) es)))
value_behind source [] zero u text e on is = absurd cc
value_behind source [] (suc i) u text e on is = absurd cc
value_behind source (x ∷ xs) zero u text e on is = value_of_entry source x u text e on is
value_behind source (x ∷ xs) (suc i) u text e on is = value_behind source xs i u text e on is

nothing_behind : (source : List ℕ) (es : List Entry) (i : ℕ) (u : Token) → option_map (λ (e : Entry). e.token) (slice_get es i) ≡ Some u → has_text u.kind ≡ false → IsValue [] (head (drop i (map (lexeme_of source) es)))
nothing_behind source [] zero u e off = absurd cc
nothing_behind source [] (suc i) u e off = absurd cc
nothing_behind source (x ∷ xs) zero u e off = nothing_of_entry source x u e off
nothing_behind source (x ∷ xs) (suc i) u e off = nothing_behind source xs i u e off

-- the text of the token before which a cursor stands
pub value_there : (t : Lexed) (i : ℕ) (u : Token) (text : List ℕ) (c : Standing) → record { all = lexemes t; at = i } ≡ c → token_at t i ≡ Some u → has_text u.kind ≡ true → text_at t i ≡ Some text → IsValue text (head (drop c.at c.all))
value_there t i u text c is e on same = subst (λ (d : Standing). IsValue text (head (drop d.at d.all))) is (value_behind t.source t.entries i u text e on same)

pub nothing_there : (t : Lexed) (i : ℕ) (u : Token) (c : Standing) → record { all = lexemes t; at = i } ≡ c → token_at t i ≡ Some u → has_text u.kind ≡ false → IsValue [] (head (drop c.at c.all))
nothing_there t i u c is e off = subst (λ (d : Standing). IsValue [] (head (drop d.at d.all))) is (nothing_behind t.source t.entries i u e off)
