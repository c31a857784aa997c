-- Tokens that the code has put behind others.
use Rattle.std.proofs.Common.{◌≡◌, refl, sym, ◌∙◌, ap, ℕ, ◌+◌, ◌<◌, ◌≤◌, Bool, true, false, List, [], ◌∷◌, ◌++◌, map, drop, length, get_or, append_assoc, subst}
use Rattle.std.proofs.lemmas.List.{append-nil, map-append}
use Rattle.std.proofs.lemmas.Bool.{true≢false}
use Rattle.cil_base.specs.declared.tokens.TokenKind.{TokenKind}
use Rattle.cil_base.specs.declared.tokens.Punctuator.TheVariants.{LeftParen, RightParen}
use Rattle.c_speller.specs.declared.spelled.TokenSink.{TokenSink}
use Rattle.c_tree.specs.Spelling.{Lexeme, sign, in_parens, last_comma, with_commas, behind_commas}
use Rattle.c_speller.specs.SpelledTokens.{text_of, with_texts, tokens_of}
use Rattle.c_speller.specs.Added.{Adds, AddsToken, flat_of, commas_of, AddedSoFar, CommasSoFar}
use Rattle.c_tree.proofs.CappedLemmas.{drop_at, drop_all}

pub adds_none : (names : List (List ℕ)) (old : TokenSink) → Adds names old old []
unfolding Adds
adds_none names old ok = (ok, sym (append-nil (tokens_of old.tokens.items)))

pub adds_more : (names : List (List ℕ)) (a b c : TokenSink) (s t : List Lexeme) → Adds names a b s → Adds names b c t → Adds names a c (s ++ t)
unfolding Adds
adds_more names a b c s t e f ok =
    let after = f ok in
    let before = e after.0 in (
      before.0,
      after.1 ∙ ap (λ z. z ++ with_texts names t) before.1 ∙ append_assoc (tokens_of a.tokens.items) (with_texts names s) (with_texts names t)
          ∙ ap (λ z. tokens_of a.tokens.items ++ z) (sym (map-append (λ l. (l.kind, text_of names l.kind l.value)) s t)),
    )

pub adds_next : (names : List (List ℕ)) (a b c : TokenSink) (l : Lexeme) (t : List Lexeme) → Adds names a b (l ∷ []) → Adds names b c t → Adds names a c (l ∷ t)
adds_next names a b c l t e f = adds_more names a b c (l ∷ []) t e f

pub token_failed : (old new : TokenSink) (kind : TokenKind) (text : List ℕ) → new.has_failed ≡ true → AddsToken old new kind text
unfolding AddsToken
token_failed old new kind text is ok = absurd (true≢false (sym is ∙ ok))

pub token_pushed : (old new : TokenSink) (kind : TokenKind) (text : List ℕ) → old.has_failed ≡ false → new.tokens.items ≡ old.tokens.items ++ record { kind = kind; text = text } ∷ [] → AddsToken old new kind text
unfolding AddsToken
token_pushed old new kind text ok is _ = (ok, is)

pub adds_pushed : (names : List (List ℕ)) (old new : TokenSink) (kind : TokenKind) (text : List ℕ) (l : Lexeme) → AddsToken old new kind text → kind ≡ l.kind → text ≡ text_of names l.kind l.value → Adds names old new (l ∷ [])
unfolding Adds AddsToken
adds_pushed names old new kind text l put same also ok =
    let got = put ok in (
      got.0,
      ap tokens_of got.1 ∙ map-append (λ z. (z.kind, z.text)) old.tokens.items (record { kind = kind; text = text } ∷ []) ∙ ap (λ z. tokens_of old.tokens.items ++ z ∷ []) (ap (λ k. (k, text)) same ∙ ap (λ x. (l.kind, x)) also),
    )

-- what stands in parentheses, and more behind it
pub adds_parens : (names : List (List ℕ)) (a b c : TokenSink) (s t : List Lexeme) → Adds names a b (in_parens s) → Adds names b c t → Adds names a c (sign LeftParen ∷ ((s ++ sign RightParen ∷ []) ++ t))
adds_parens names a b c s t e f = adds_more names a b c (in_parens s) t e f

pub added_start : {A : Type 0} (names : List (List ℕ)) (old : TokenSink) (f : A → List Lexeme) (xs : List A) → AddedSoFar names old old f xs 0
unfolding AddedSoFar
added_start names old f xs = ([], adds_none names old, refl)

pub added_step : {A : Type 0} (names : List (List ℕ)) (old new more : TokenSink) (f : A → List Lexeme) (xs : List A) (i : ℕ) (x : A) → i < length xs → x ≡ get_or xs i x → AddedSoFar names old new f xs i → Adds names new more (f x) → AddedSoFar names old more f xs (i + 1)
unfolding AddedSoFar
added_step names old new more f xs i x lt is w e =
    let done : List Lexeme = w.0 in
    let split : drop i xs ≡ x ∷ drop (i + 1) xs = drop_at xs i x lt ∙ ap (λ y. y ∷ drop (i + 1) xs) (sym is) in
    (done ++ f x, adds_more names old new more done (f x) w.1 e, append_assoc done (f x) (flat_of f (drop (i + 1) xs)) ∙ ap (λ ys. done ++ flat_of f ys) (sym split) ∙ w.2)

pub added_end : {A : Type 0} (names : List (List ℕ)) (old new : TokenSink) (f : A → List Lexeme) (xs : List A) (i : ℕ) → length xs ≤ i → AddedSoFar names old new f xs i → Adds names old new (flat_of f xs)
unfolding AddedSoFar
added_end names old new f xs i le w =
    let all : w.0 ≡ flat_of f xs = sym (append-nil w.0) ∙ ap (λ ys. w.0 ++ flat_of f ys) (sym (drop_all xs i le)) ∙ w.2 in
    subst (λ ts. Adds names old new ts) all w.1

pub commas_start : {A : Type 0} (names : List (List ℕ)) (old : TokenSink) (f : A → List Lexeme) (xs : List A) → CommasSoFar names old old f xs 0 false
unfolding CommasSoFar
commas_start names old f xs = ([], adds_none names old, refl)

pub commas_step : {A : Type 0} (names : List (List ℕ)) (old new between more : TokenSink) (f : A → List Lexeme) (xs : List A) (i : ℕ) (is_more : Bool) (x : A) → i < length xs → x ≡ get_or xs i x
    → CommasSoFar names old new f xs i is_more → Adds names new between (last_comma is_more) → Adds names between more (f x) → CommasSoFar names old more f xs (i + 1) true
unfolding CommasSoFar
commas_step names old new between more f xs i is_more x lt is w e g =
    let done : List Lexeme = w.0 in
    let here : List Lexeme = last_comma is_more ++ f x in
    let rest : List Lexeme = commas_of f true (drop (i + 1) xs) in
    let split : drop i xs ≡ x ∷ drop (i + 1) xs = drop_at xs i x lt ∙ ap (λ y. y ∷ drop (i + 1) xs) (sym is) in (
      done ++ here,
      adds_more names old new more done here w.1 (adds_more names new between more (last_comma is_more) (f x) e g),
      append_assoc done here rest ∙ ap (λ z. done ++ z) (append_assoc (last_comma is_more) (f x) rest) ∙ ap (λ ys. done ++ commas_of f is_more ys) (sym split) ∙ w.2,
    )

pub commas_end : {A : Type 0} (names : List (List ℕ)) (old new : TokenSink) (f : A → List Lexeme) (xs : List A) (i : ℕ) (is_more : Bool) → length xs ≤ i → CommasSoFar names old new f xs i is_more → Adds names old new (commas_of f false xs)
unfolding CommasSoFar
commas_end names old new f xs i is_more le w =
    let all : w.0 ≡ commas_of f false xs = sym (append-nil w.0) ∙ ap (λ ys. w.0 ++ commas_of f is_more ys) (sym (drop_all xs i le)) ∙ w.2 in
    subst (λ ts. Adds names old new ts) all w.1

behind_all : {A : Type 0} (f : A → List Lexeme) (xs : List A) → commas_of f true xs ≡ behind_commas (map f xs)
behind_all f [] = refl
behind_all f (x ∷ xs) = ap (λ z. last_comma true ++ (f x ++ z)) (behind_all f xs)

pub between_all : {A : Type 0} (f : A → List Lexeme) (xs : List A) → commas_of f false xs ≡ with_commas (map f xs)
between_all f [] = refl
between_all f (x ∷ xs) = ap (λ z. f x ++ z) (behind_all f xs)

-- behind nothing
pub adds_all : (names : List (List ℕ)) (old new : TokenSink) (ts : List Lexeme) → old.tokens.items ≡ [] → new.has_failed ≡ false → Adds names old new ts → tokens_of new.tokens.items ≡ with_texts names ts
unfolding Adds
adds_all names old new ts is ok e = (e ok).1 ∙ ap (λ z. tokens_of z ++ with_texts names ts) is
