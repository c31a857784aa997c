-- Device: each piece is one to the automaton, of that kind.
use Rattle.std.proofs.Common.{◌≡◌, ℕ, inl, inr, Bool, true, false, not, ◌&&◌, ◌||◌, ◌==◌, if◌then◌else◌, List, [], ◌∷◌, ◌++◌, length, take, drop, Option, Some, None, refl, sym, ap, subst, ◌∙◌, bytes_eq, take-append-drop, arith}
use Rattle.std.specs.Char.{is_ascii_digit}
use Rattle.std.specs.List.{list_all, list_any}
use Rattle.std.proofs.lemmas.Bool.{cond-true, cond-false, cond_both, and_parts, or_cases, eqb-true, both_ways, not-true, cases_Bool}
use Rattle.std.proofs.lemmas.Bool.Decides.{nat_tests}
use Rattle.std.proofs.lemmas.Slice.Eq.{bytes_eq-Decides}
use Rattle.cil_base.specs.Token.{punctuator_spelling}
use Rattle.cil_base.specs.declared.tokens.Punctuator.{Punctuator}
use Rattle.cil_base.specs.declared.tokens.Punctuator.TheVariants.{Dot}
use Rattle.c_lexer.specs.declared.pieces.Sign.{Sign}
use Rattle.c_lexer.specs.declared.pieces.Sign.TheVariants.{Read, LessColon, ColonGreater, LessPercent, PercentGreater, Hash, TwoHashes, PercentColon, TwoPercentColons}
use Rattle.c_lexer.specs.declared.pieces.Kind.{Kind}
use Rattle.c_lexer.specs.declared.pieces.Kind.TheVariants.{Blank, LineEnd as LineEndPiece, Comment as CommentPiece, Directive, Word as WordPiece, Number as NumberPiece, Character, Text, Sign as SignPiece, Broken}
use Rattle.c_lexer.specs.declared.state.Mode.TheVariants.{Plain, Escaped}
use Rattle.c_lexer.specs.declared.state.Quote.{Quote}
use Rattle.c_lexer.specs.declared.state.Quote.TheVariants.{Single, Double}
use Rattle.c_lexer.specs.declared.state.Prefix.{Prefix as APrefix}
use Rattle.c_lexer.specs.declared.state.Prefix.TheVariants.{Letter, SmallU, SmallU8}
use Rattle.c_lexer.specs.declared.state.State.{State}
use Rattle.c_lexer.specs.declared.state.State.TheVariants.{Blanks, Prefix, Word, Backslash, Number, Opened, Sign as InSign, Stray}
use Rattle.c_lexer.specs.Bytes.{is_blank, is_nondigit, is_word_byte}
use Rattle.c_lexer.specs.Languages.{is_nil, is_blanks, is_one_line, closes, is_comment, is_line_rest, is_directive, on_mode, are_word_parts, is_word, are_number_parts, is_number, is_literal_rest, is_quoted, is_prefixed, character_prefixes, text_prefixes, sign_spelling, begins_with_hash, openings, sign_bytes, is_stray, is_broken, is_piece}
use Rattle.c_lexer.specs.Automaton.{one_byte_sign, sign_or_stray, begins_sign, begins, behind_dot, behind_minus, behind_plus, behind_ampersand, behind_bar, behind_slash, behind_percent, behind_less, behind_greater, only, behind_punctuator, behind_sign, quote_byte, in_literal, prefixes_character, is_small_u, behind_prefix, in_comment, behind, quoted_kind, accepts}
use Rattle.c_lexer.specs.Accepted.{on_some, accepted, kind_at}
use Rattle.c_lexer.proofs.Suffixes.{if_some, blanks, line, line_comment, word, number, opened, backslash, comment_open}
use Rattle.c_lexer.proofs.Sound.{word_head}

-- P of each of some texts
abbrev Each : (List ℕ → Type 0) → List (List ℕ) → Type 0
Each P [] = Unit {0}
Each P (t ∷ ts) = P t × Each P ts

or_none : (x y : Bool) → (x || y) ≡ false → (x ≡ false) × (y ≡ false)
or_none true y e = cc
or_none false y e = (refl, e)

-- a state whose test holds
holds : (o : Option Kind) (t : Bool) (k : Kind) → o ≡ if_some t k → t ≡ true → o ≡ Some k
holds o t k eq is = eq ∙ ap (λ u. if_some u k) is

from_state : (fresh : Bool) (b : ℕ) (bs : List ℕ) (s : State) (k : Kind) → begins fresh b ≡ s → accepted s bs ≡ Some k → kind_at fresh (b ∷ bs) ≡ Some k
from_state fresh b bs s k is e = ap (λ u. accepted u bs) is ∙ e

begins_blank : (fresh : Bool) (b : ℕ) → is_blank b ≡ true → begins fresh b ≡ Blanks
unfolding begins
begins_blank fresh b is = cond-true (is_blank b) _ _ is

digit_blank : (b : ℕ) → is_ascii_digit b ≡ true → is_blank b ≡ false
digit_blank b is = grind (arith, nat_tests)

digit_feed : (b : ℕ) → is_ascii_digit b ≡ true → (b == 10) ≡ false
digit_feed b is = grind (arith, nat_tests)

digit_letter : (b : ℕ) → is_ascii_digit b ≡ true → (b == 76 || b == 85) ≡ false
digit_letter b is = grind (arith, nat_tests)

digit_u : (b : ℕ) → is_ascii_digit b ≡ true → (b == 117) ≡ false
digit_u b is = grind (arith, nat_tests)

digit_nondigit : (b : ℕ) → is_ascii_digit b ≡ true → is_nondigit b ≡ false
digit_nondigit b is = grind (arith, nat_tests)

digit_dot : (b : ℕ) → is_ascii_digit b ≡ true → (b == 46) ≡ false
digit_dot b is = grind (arith, nat_tests)

begins_number : (fresh : Bool) (b : ℕ) → is_ascii_digit b ≡ true → begins fresh b ≡ Number Plain false
unfolding begins
begins_number fresh b is = cond-false (is_blank b) _ _ (digit_blank b is) ∙ (cond-false (b == 10) _ _ (digit_feed b is) ∙ (cond-false (b == 76 || b == 85) _ _ (digit_letter b is) ∙ (cond-false (b == 117) _ _ (digit_u b is) ∙ (cond-false (is_nondigit b) _ _ (digit_nondigit b is) ∙ cond-true (is_ascii_digit b) _ _ is))))

nondigit_blank : (b : ℕ) → is_nondigit b ≡ true → is_blank b ≡ false
nondigit_blank b is = grind (arith, nat_tests)

nondigit_feed : (b : ℕ) → is_nondigit b ≡ true → (b == 10) ≡ false
nondigit_feed b is = grind (arith, nat_tests)

begins_word : (fresh : Bool) (b : ℕ) → is_nondigit b ≡ true → (b == 76 || b == 85) ≡ false → (b == 117) ≡ false → begins fresh b ≡ Word Plain
unfolding begins
begins_word fresh b is letter u = cond-false (is_blank b) _ _ (nondigit_blank b is) ∙ (cond-false (b == 10) _ _ (nondigit_feed b is) ∙ (cond-false (b == 76 || b == 85) _ _ letter ∙ (cond-false (b == 117) _ _ u ∙ cond-true (is_nondigit b) _ _ is)))

at_byte : (P : ℕ → Type 0) (c n : ℕ) → (c == n) ≡ true → P n → P c
at_byte P c n is whole = subst P (sym (eqb-true c n is)) whole

-- blanks, line feeds and comments

blank_complete : (fresh : Bool) (text : List ℕ) → is_blanks text ≡ true → kind_at fresh text ≡ Some Blank
blank_complete fresh [] is = cc
blank_complete fresh (b ∷ bs) is =
    let parts : (is_blank b ≡ true) × (list_all is_blank bs ≡ true) = and_parts _ _ is in
    from_state fresh b bs Blanks Blank (begins_blank fresh b parts.0) (holds _ _ Blank (blanks bs) parts.1)

feed_complete : (fresh : Bool) (text : List ℕ) → bytes_eq text (10 ∷ []) ≡ true → kind_at fresh text ≡ Some LineEndPiece
unfolding begins accepts
feed_complete fresh text is = subst (λ t. kind_at fresh t ≡ Some LineEndPiece) (sym ((bytes_eq-Decides text (10 ∷ [])).0 is)) refl

block_complete : (fresh : Bool) (bs : List ℕ) → closes false bs ≡ true → kind_at fresh (47 ∷ 42 ∷ bs) ≡ Some CommentPiece
unfolding begins begins_sign one_byte_sign behind accepts behind_prefix behind_punctuator behind_sign behind_dot behind_minus behind_plus behind_ampersand behind_bar behind_slash behind_percent behind_less behind_greater only in_comment in_literal
block_complete fresh [] is = cc
block_complete fresh (c ∷ cs) is = holds _ _ CommentPiece (comment_open c cs) is

line_comment_complete : (fresh : Bool) (bs : List ℕ) → is_one_line bs ≡ true → kind_at fresh (47 ∷ 47 ∷ bs) ≡ Some CommentPiece
unfolding begins begins_sign one_byte_sign behind accepts behind_prefix behind_punctuator behind_sign behind_dot behind_minus behind_plus behind_ampersand behind_bar behind_slash behind_percent behind_less behind_greater only in_comment in_literal
line_comment_complete fresh bs is = holds _ _ CommentPiece (line_comment bs) is

comment_complete : (fresh : Bool) (text : List ℕ) → is_comment text ≡ true → kind_at fresh text ≡ Some CommentPiece
comment_complete fresh [] is = cc
comment_complete fresh (a ∷ []) is = cc
comment_complete fresh (a ∷ b ∷ bs) is =
    let parts : ((a == 47) ≡ true) × (((b == 42 && closes false bs) || (b == 47 && is_one_line bs)) ≡ true) = and_parts _ _ is in
    at_byte (λ x. kind_at fresh (x ∷ b ∷ bs) ≡ Some CommentPiece) a 47 parts.0
    (elim (or_cases (b == 42 && closes false bs) (b == 47 && is_one_line bs) parts.1) as (λ _. kind_at fresh (47 ∷ b ∷ bs) ≡ Some CommentPiece) [
      | inl h ↦ (let p : ((b == 42) ≡ true) × (closes false bs ≡ true) = and_parts _ _ h in at_byte (λ x. kind_at fresh (47 ∷ x ∷ bs) ≡ Some CommentPiece) b 42 p.0 (block_complete fresh bs p.1))
      | inr h ↦ (let p : ((b == 47) ≡ true) × (is_one_line bs ≡ true) = and_parts _ _ h in at_byte (λ x. kind_at fresh (47 ∷ x ∷ bs) ≡ Some CommentPiece) b 47 p.0 (line_comment_complete fresh bs p.1))
    ])

hash_line : (bs : List ℕ) → is_line_rest bs ≡ true → kind_at true (35 ∷ bs) ≡ Some Directive
unfolding begins begins_sign
hash_line bs is = holds _ _ Directive (line bs) is

directive_complete : (fresh : Bool) (text : List ℕ) → (is_directive text && fresh) ≡ true → kind_at fresh text ≡ Some Directive
directive_complete fresh [] is = cc
directive_complete fresh (b ∷ bs) is =
    let parts : (is_directive (b ∷ bs) ≡ true) × (fresh ≡ true) = and_parts _ _ is in
    let inner : ((b == 35) ≡ true) × (is_line_rest bs ≡ true) = and_parts _ _ parts.0 in
    subst (λ f. kind_at f (b ∷ bs) ≡ Some Directive) (sym parts.1) (at_byte (λ x. kind_at true (x ∷ bs) ≡ Some Directive) b 35 inner.0 (hash_line bs inner.1))

-- words

no_quote : (c : ℕ) (cs : List ℕ) (n : ℕ) → (c == n) ≡ true → are_word_parts Plain (n ∷ cs) ≡ false → are_word_parts Plain (c ∷ cs) ≡ true → ⊥
no_quote c cs n is none all = both_ways _ none (subst (λ x. are_word_parts Plain (x ∷ cs) ≡ true) (eqb-true c n is) all)

prefix_word : (p : APrefix) (bs : List ℕ) → are_word_parts Plain bs ≡ true → accepted (Prefix p) bs ≡ Some WordPiece
unfolding behind accepts behind_prefix
prefix_word p [] all = refl
prefix_word p (c ∷ cs) all =
    let F : Option State → Type 0 = λ o. on_some o (λ t. accepted t cs) ≡ Some WordPiece in
    cond_both (c == 34) _ _ F (λ is. absurd (no_quote c cs 34 is refl all)) (λ _.
    cond_both (prefixes_character p && c == 39) _ _ F (λ is. absurd (no_quote c cs 39 (and_parts _ _ is).1 refl all)) (λ _.
    cond_both (is_small_u p && c == 56) _ _ F (λ is. prefix_word SmallU8 cs (subst (λ x. are_word_parts Plain (x ∷ cs) ≡ true) (eqb-true c 56 (and_parts _ _ is).1) all)) (λ _.
    holds _ _ WordPiece (word Plain (c ∷ cs)) all)))

at_letter : (fresh : Bool) (bs : List ℕ) (p : APrefix) (n : ℕ) → begins fresh n ≡ Prefix p → are_word_parts Plain bs ≡ true → kind_at fresh (n ∷ bs) ≡ Some WordPiece
at_letter fresh bs p n is all = from_state fresh n bs (Prefix p) WordPiece is (prefix_word p bs all)

l_begins : (fresh : Bool) → begins fresh 76 ≡ Prefix Letter
unfolding begins
l_begins fresh = refl

capital_u_begins : (fresh : Bool) → begins fresh 85 ≡ Prefix Letter
unfolding begins
capital_u_begins fresh = refl

u_begins : (fresh : Bool) → begins fresh 117 ≡ Prefix SmallU
unfolding begins
u_begins fresh = refl

backslash_begins : (fresh : Bool) → begins fresh 92 ≡ Backslash
unfolding begins begins_sign
backslash_begins fresh = refl

nondigit_complete : (fresh : Bool) (b : ℕ) (bs : List ℕ) → is_nondigit b ≡ true → are_word_parts Plain bs ≡ true → kind_at fresh (b ∷ bs) ≡ Some WordPiece
nondigit_complete fresh b bs is all =
    elim (cases_Bool (b == 76 || b == 85)) as (λ _. kind_at fresh (b ∷ bs) ≡ Some WordPiece) [
      | inl letter ↦ elim (or_cases (b == 76) (b == 85) letter) as (λ _. kind_at fresh (b ∷ bs) ≡ Some WordPiece) [
        | inl l ↦ at_byte (λ x. kind_at fresh (x ∷ bs) ≡ Some WordPiece) b 76 l (at_letter fresh bs Letter 76 (l_begins fresh) all)
        | inr u ↦ at_byte (λ x. kind_at fresh (x ∷ bs) ≡ Some WordPiece) b 85 u (at_letter fresh bs Letter 85 (capital_u_begins fresh) all)
      ]
      | inr letter ↦ elim (cases_Bool (b == 117)) as (λ _. kind_at fresh (b ∷ bs) ≡ Some WordPiece) [
        | inl u ↦ at_byte (λ x. kind_at fresh (x ∷ bs) ≡ Some WordPiece) b 117 u (at_letter fresh bs SmallU 117 (u_begins fresh) all)
        | inr u ↦ from_state fresh b bs (Word Plain) WordPiece (begins_word fresh b is letter u) (holds _ _ WordPiece (word Plain bs) all)
      ]
    ]

slash_complete : (fresh : Bool) (bs : List ℕ) → are_word_parts Escaped bs ≡ true → kind_at fresh (92 ∷ bs) ≡ Some WordPiece
slash_complete fresh [] all = cc
slash_complete fresh (c ∷ cs) all = from_state fresh 92 (c ∷ cs) Backslash WordPiece (backslash_begins fresh) (holds _ _ WordPiece (backslash c cs) all)

word_complete : (fresh : Bool) (text : List ℕ) → is_word text ≡ true → kind_at fresh text ≡ Some WordPiece
word_complete fresh [] is = cc
word_complete fresh (b ∷ bs) is =
    let parts : (not (is_ascii_digit b) ≡ true) × (are_word_parts Plain (b ∷ bs) ≡ true) = and_parts _ _ is in
    elim (cases_Bool (is_word_byte b)) as (λ _. kind_at fresh (b ∷ bs) ≡ Some WordPiece) [
      | inl byte ↦ elim (or_cases (is_nondigit b) (is_ascii_digit b) byte) as (λ _. kind_at fresh (b ∷ bs) ≡ Some WordPiece) [
        | inl nondigit ↦ nondigit_complete fresh b bs nondigit (sym (word_head b bs byte) ∙ parts.1)
        | inr digit ↦ absurd (both_ways _ (not-true _ parts.0) digit)
      ]
      | inr other ↦ elim (cases_Bool (b == 92)) as (λ _. kind_at fresh (b ∷ bs) ≡ Some WordPiece) [
        | inl slash ↦ at_byte (λ x. kind_at fresh (x ∷ bs) ≡ Some WordPiece) b 92 slash
            (slash_complete fresh bs (subst (λ x. are_word_parts Plain (x ∷ bs) ≡ true) (eqb-true b 92 slash) parts.1))
        | inr none ↦ (let nothing : are_word_parts Plain (b ∷ bs) ≡ false =
            ap (λ t. on_mode (if t then Some Plain else (if b == 92 then Some Escaped else None)) (λ m. are_word_parts m bs)) other
            ∙ ap (λ t. on_mode (if t then Some Escaped else None) (λ m. are_word_parts m bs)) none in absurd (both_ways _ nothing parts.1))
      ]
    ]

-- numbers

digit_complete : (fresh : Bool) (b : ℕ) (bs : List ℕ) → is_ascii_digit b ≡ true → are_number_parts false Plain bs ≡ true → kind_at fresh (b ∷ bs) ≡ Some NumberPiece
digit_complete fresh b bs is all = from_state fresh b bs (Number Plain false) NumberPiece (begins_number fresh b is) (holds _ _ NumberPiece (number false Plain bs) all)

dot_begins : (fresh : Bool) → begins fresh 46 ≡ InSign (Read Dot)
unfolding begins begins_sign one_byte_sign
dot_begins fresh = refl

dot_digit : (c : ℕ) → is_ascii_digit c ≡ true → behind (InSign (Read Dot)) c ≡ Some (Number Plain false)
unfolding behind behind_sign behind_punctuator behind_dot
dot_digit c is = cond-false (c == 46) _ _ (digit_dot c is) ∙ cond-true (is_ascii_digit c) _ _ is

dot_complete : (fresh : Bool) (c : ℕ) (cs : List ℕ) → is_ascii_digit c ≡ true → are_number_parts false Plain cs ≡ true → kind_at fresh (46 ∷ c ∷ cs) ≡ Some NumberPiece
dot_complete fresh c cs is all = from_state fresh 46 (c ∷ cs) (InSign (Read Dot)) NumberPiece (dot_begins fresh) (ap (λ o. on_some o (λ t. accepted t cs)) (dot_digit c is) ∙ holds _ _ NumberPiece (number false Plain cs) all)

number_complete : (fresh : Bool) (text : List ℕ) → is_number text ≡ true → kind_at fresh text ≡ Some NumberPiece
number_complete fresh [] is = cc
number_complete fresh (b ∷ []) is = digit_complete fresh b [] is refl
number_complete fresh (b ∷ c ∷ cs) is =
    elim (or_cases (is_ascii_digit b && are_number_parts false Plain (c ∷ cs)) ((b == 46 && is_ascii_digit c) && are_number_parts false Plain cs) is) as (λ _. kind_at fresh (b ∷ c ∷ cs) ≡ Some NumberPiece) [
      | inl h ↦ (let p : (is_ascii_digit b ≡ true) × (are_number_parts false Plain (c ∷ cs) ≡ true) = and_parts _ _ h in digit_complete fresh b (c ∷ cs) p.0 p.1)
      | inr h ↦ (let p : ((b == 46 && is_ascii_digit c) ≡ true) × (are_number_parts false Plain cs ≡ true) = and_parts _ _ h in
          let q : ((b == 46) ≡ true) × (is_ascii_digit c ≡ true) = and_parts _ _ p.0 in
          at_byte (λ x. kind_at fresh (x ∷ c ∷ cs) ≡ Some NumberPiece) b 46 q.0 (dot_complete fresh c cs q.1 p.1))
    ]

-- literals

opened_whole : (quote : Quote) (rs : List ℕ) → is_literal_rest (quote_byte quote) Plain rs ≡ true → accepted (Opened quote) rs ≡ Some (quoted_kind quote)
opened_whole quote [] all = cc
opened_whole quote (c ∷ cs) all = holds _ _ (quoted_kind quote) (opened quote c cs) all

quoted_rest : (P : List ℕ → Type 0) (front : List ℕ) (q : ℕ) (rest : List ℕ) → is_quoted q rest ≡ true → ((rs : List ℕ) → is_literal_rest q Plain rs ≡ true → P (front ++ q ∷ rs)) → P (front ++ rest)
quoted_rest P front q [] is whole = cc
quoted_rest P front q (r ∷ rs) is whole =
    let parts : ((r == q) ≡ true) × (is_literal_rest q Plain rs ≡ true) = and_parts _ _ is in
    at_byte (λ x. P (front ++ x ∷ rs)) r q parts.0 (whole rs parts.1)

-- a literal with one of some prefixes
prefixed : (P : List ℕ → Type 0) (q : ℕ) (text : List ℕ) (ps : List (List ℕ)) → is_prefixed ps q text ≡ true → Each (λ p. (rs : List ℕ) → is_literal_rest q Plain rs ≡ true → P (p ++ q ∷ rs)) ps → P text
prefixed P q text [] is each = cc
prefixed P q text (p ∷ ps) is each =
    elim (or_cases (bytes_eq (take (length p) text) p && is_quoted q (drop (length p) text)) (is_prefixed ps q text) is) as (λ _. P text) [
      | inl h ↦ (let parts : (bytes_eq (take (length p) text) p ≡ true) × (is_quoted q (drop (length p) text) ≡ true) = and_parts _ _ h in
          let front : take (length p) text ≡ p = (bytes_eq-Decides (take (length p) text) p).0 parts.0 in
          let split : text ≡ p ++ drop (length p) text = sym (take-append-drop (length p) text) ∙ ap (λ (f : List ℕ). f ++ drop (length p) text) front in
          subst P (sym split) (quoted_rest P p q (drop (length p) text) parts.1 each.0))
      | inr h ↦ prefixed P q text ps h each.1
    ]

character_complete : (fresh : Bool) (text : List ℕ) → is_prefixed character_prefixes 39 text ≡ true → kind_at fresh text ≡ Some Character
unfolding begins begins_sign one_byte_sign behind accepts behind_prefix behind_punctuator behind_sign behind_dot behind_minus behind_plus behind_ampersand behind_bar behind_slash behind_percent behind_less behind_greater only in_comment in_literal
character_complete fresh text is = prefixed (λ t. kind_at fresh t ≡ Some Character) 39 text character_prefixes is
    (λ rs all. opened_whole Single rs all, (λ rs all. opened_whole Single rs all, (λ rs all. opened_whole Single rs all, (λ rs all. opened_whole Single rs all, tt))))

text_complete : (fresh : Bool) (text : List ℕ) → is_prefixed text_prefixes 34 text ≡ true → kind_at fresh text ≡ Some Text
unfolding begins begins_sign one_byte_sign behind accepts behind_prefix behind_punctuator behind_sign behind_dot behind_minus behind_plus behind_ampersand behind_bar behind_slash behind_percent behind_less behind_greater only in_comment in_literal
text_complete fresh text is = prefixed (λ t. kind_at fresh t ≡ Some Text) 34 text text_prefixes is
    (λ rs all. opened_whole Double rs all, (λ rs all. opened_whole Double rs all, (λ rs all. opened_whole Double rs all, (λ rs all. opened_whole Double rs all, (λ rs all. opened_whole Double rs all, tt)))))

-- signs

spelled_complete : (fresh : Bool) (p : Punctuator) → kind_at fresh (punctuator_spelling p) ≡ Some (SignPiece (Read p))
unfolding begins begins_sign one_byte_sign behind accepts behind_prefix behind_punctuator behind_sign behind_dot behind_minus behind_plus behind_ampersand behind_bar behind_slash behind_percent behind_less behind_greater only in_comment in_literal
spelled_complete fresh p = elim p as (λ q. kind_at fresh (punctuator_spelling q) ≡ Some (SignPiece (Read q))) [ Dot ↦ refl | _ ↦ refl ]

sign_whole : (fresh : Bool) (sign : Sign) → not (begins_with_hash (sign_spelling sign) && fresh) ≡ true → kind_at fresh (sign_spelling sign) ≡ Some (SignPiece sign)
unfolding begins begins_sign one_byte_sign behind accepts behind_prefix behind_punctuator behind_sign behind_dot behind_minus behind_plus behind_ampersand behind_bar behind_slash behind_percent behind_less behind_greater only in_comment in_literal
sign_whole fresh (Read p) is = spelled_complete fresh p
sign_whole fresh LessColon is = refl
sign_whole fresh ColonGreater is = refl
sign_whole fresh LessPercent is = refl
sign_whole fresh PercentGreater is = refl
sign_whole true Hash is = cc
sign_whole false Hash is = refl
sign_whole true TwoHashes is = cc
sign_whole false TwoHashes is = refl
sign_whole fresh PercentColon is = refl
sign_whole fresh TwoPercentColons is = refl

sign_complete : (fresh : Bool) (sign : Sign) (text : List ℕ) → (bytes_eq text (sign_spelling sign) && not (begins_with_hash text && fresh)) ≡ true → kind_at fresh text ≡ Some (SignPiece sign)
sign_complete fresh sign text is =
    let parts : (bytes_eq text (sign_spelling sign) ≡ true) × (not (begins_with_hash text && fresh) ≡ true) = and_parts _ _ is in
    let same : text ≡ sign_spelling sign = (bytes_eq-Decides text (sign_spelling sign)).0 parts.0 in
    subst (λ t. kind_at fresh t ≡ Some (SignPiece sign)) (sym same) (sign_whole fresh sign (subst (λ t. not (begins_with_hash t && fresh) ≡ true) same parts.1))

-- what begins no token

among : (P : List ℕ → Type 0) (text : List ℕ) (ts : List (List ℕ)) → list_any (bytes_eq text) ts ≡ true → Each P ts → P text
among P text [] is each = cc
among P text (t ∷ ts) is each =
    elim (or_cases (bytes_eq text t) (list_any (bytes_eq text) ts) is) as (λ _. P text) [
      | inl h ↦ subst P (sym ((bytes_eq-Decides text t).0 h)) each.0
      | inr h ↦ among P text ts h each.1
    ]

opening_complete : (fresh : Bool) (text : List ℕ) → list_any (bytes_eq text) openings ≡ true → kind_at fresh text ≡ Some Broken
unfolding begins begins_sign one_byte_sign behind accepts behind_prefix behind_punctuator behind_sign behind_dot behind_minus behind_plus behind_ampersand behind_bar behind_slash behind_percent behind_less behind_greater only in_comment in_literal
opening_complete fresh text is = among (λ t. kind_at fresh t ≡ Some Broken) text openings is (refl, (refl, (refl, (refl, (refl, (refl, (refl, (refl, (refl, (refl, tt))))))))))

no_sign : (b : ℕ) → list_any (λ c. b == c) sign_bytes ≡ false → one_byte_sign b ≡ None
unfolding one_byte_sign
no_sign b h0 =
    let p0 : ((b == 91) ≡ false) × (list_any (λ c. b == c) (93 ∷ 40 ∷ 41 ∷ 123 ∷ 125 ∷ 46 ∷ 38 ∷ 42 ∷ 43 ∷ 45 ∷ 126 ∷ 33 ∷ 47 ∷ 37 ∷ 60 ∷ 62 ∷ 94 ∷ 124 ∷ 63 ∷ 58 ∷ 59 ∷ 61 ∷ 44 ∷ []) ≡ false) = or_none _ _ h0 in
    let h1 : list_any (λ c. b == c) (93 ∷ 40 ∷ 41 ∷ 123 ∷ 125 ∷ 46 ∷ 38 ∷ 42 ∷ 43 ∷ 45 ∷ 126 ∷ 33 ∷ 47 ∷ 37 ∷ 60 ∷ 62 ∷ 94 ∷ 124 ∷ 63 ∷ 58 ∷ 59 ∷ 61 ∷ 44 ∷ []) ≡ false = p0.1 in
    let p1 : ((b == 93) ≡ false) × (list_any (λ c. b == c) (40 ∷ 41 ∷ 123 ∷ 125 ∷ 46 ∷ 38 ∷ 42 ∷ 43 ∷ 45 ∷ 126 ∷ 33 ∷ 47 ∷ 37 ∷ 60 ∷ 62 ∷ 94 ∷ 124 ∷ 63 ∷ 58 ∷ 59 ∷ 61 ∷ 44 ∷ []) ≡ false) = or_none _ _ h1 in
    let h2 : list_any (λ c. b == c) (40 ∷ 41 ∷ 123 ∷ 125 ∷ 46 ∷ 38 ∷ 42 ∷ 43 ∷ 45 ∷ 126 ∷ 33 ∷ 47 ∷ 37 ∷ 60 ∷ 62 ∷ 94 ∷ 124 ∷ 63 ∷ 58 ∷ 59 ∷ 61 ∷ 44 ∷ []) ≡ false = p1.1 in
    let p2 : ((b == 40) ≡ false) × (list_any (λ c. b == c) (41 ∷ 123 ∷ 125 ∷ 46 ∷ 38 ∷ 42 ∷ 43 ∷ 45 ∷ 126 ∷ 33 ∷ 47 ∷ 37 ∷ 60 ∷ 62 ∷ 94 ∷ 124 ∷ 63 ∷ 58 ∷ 59 ∷ 61 ∷ 44 ∷ []) ≡ false) = or_none _ _ h2 in
    let h3 : list_any (λ c. b == c) (41 ∷ 123 ∷ 125 ∷ 46 ∷ 38 ∷ 42 ∷ 43 ∷ 45 ∷ 126 ∷ 33 ∷ 47 ∷ 37 ∷ 60 ∷ 62 ∷ 94 ∷ 124 ∷ 63 ∷ 58 ∷ 59 ∷ 61 ∷ 44 ∷ []) ≡ false = p2.1 in
    let p3 : ((b == 41) ≡ false) × (list_any (λ c. b == c) (123 ∷ 125 ∷ 46 ∷ 38 ∷ 42 ∷ 43 ∷ 45 ∷ 126 ∷ 33 ∷ 47 ∷ 37 ∷ 60 ∷ 62 ∷ 94 ∷ 124 ∷ 63 ∷ 58 ∷ 59 ∷ 61 ∷ 44 ∷ []) ≡ false) = or_none _ _ h3 in
    let h4 : list_any (λ c. b == c) (123 ∷ 125 ∷ 46 ∷ 38 ∷ 42 ∷ 43 ∷ 45 ∷ 126 ∷ 33 ∷ 47 ∷ 37 ∷ 60 ∷ 62 ∷ 94 ∷ 124 ∷ 63 ∷ 58 ∷ 59 ∷ 61 ∷ 44 ∷ []) ≡ false = p3.1 in
    let p4 : ((b == 123) ≡ false) × (list_any (λ c. b == c) (125 ∷ 46 ∷ 38 ∷ 42 ∷ 43 ∷ 45 ∷ 126 ∷ 33 ∷ 47 ∷ 37 ∷ 60 ∷ 62 ∷ 94 ∷ 124 ∷ 63 ∷ 58 ∷ 59 ∷ 61 ∷ 44 ∷ []) ≡ false) = or_none _ _ h4 in
    let h5 : list_any (λ c. b == c) (125 ∷ 46 ∷ 38 ∷ 42 ∷ 43 ∷ 45 ∷ 126 ∷ 33 ∷ 47 ∷ 37 ∷ 60 ∷ 62 ∷ 94 ∷ 124 ∷ 63 ∷ 58 ∷ 59 ∷ 61 ∷ 44 ∷ []) ≡ false = p4.1 in
    let p5 : ((b == 125) ≡ false) × (list_any (λ c. b == c) (46 ∷ 38 ∷ 42 ∷ 43 ∷ 45 ∷ 126 ∷ 33 ∷ 47 ∷ 37 ∷ 60 ∷ 62 ∷ 94 ∷ 124 ∷ 63 ∷ 58 ∷ 59 ∷ 61 ∷ 44 ∷ []) ≡ false) = or_none _ _ h5 in
    let h6 : list_any (λ c. b == c) (46 ∷ 38 ∷ 42 ∷ 43 ∷ 45 ∷ 126 ∷ 33 ∷ 47 ∷ 37 ∷ 60 ∷ 62 ∷ 94 ∷ 124 ∷ 63 ∷ 58 ∷ 59 ∷ 61 ∷ 44 ∷ []) ≡ false = p5.1 in
    let p6 : ((b == 46) ≡ false) × (list_any (λ c. b == c) (38 ∷ 42 ∷ 43 ∷ 45 ∷ 126 ∷ 33 ∷ 47 ∷ 37 ∷ 60 ∷ 62 ∷ 94 ∷ 124 ∷ 63 ∷ 58 ∷ 59 ∷ 61 ∷ 44 ∷ []) ≡ false) = or_none _ _ h6 in
    let h7 : list_any (λ c. b == c) (38 ∷ 42 ∷ 43 ∷ 45 ∷ 126 ∷ 33 ∷ 47 ∷ 37 ∷ 60 ∷ 62 ∷ 94 ∷ 124 ∷ 63 ∷ 58 ∷ 59 ∷ 61 ∷ 44 ∷ []) ≡ false = p6.1 in
    let p7 : ((b == 38) ≡ false) × (list_any (λ c. b == c) (42 ∷ 43 ∷ 45 ∷ 126 ∷ 33 ∷ 47 ∷ 37 ∷ 60 ∷ 62 ∷ 94 ∷ 124 ∷ 63 ∷ 58 ∷ 59 ∷ 61 ∷ 44 ∷ []) ≡ false) = or_none _ _ h7 in
    let h8 : list_any (λ c. b == c) (42 ∷ 43 ∷ 45 ∷ 126 ∷ 33 ∷ 47 ∷ 37 ∷ 60 ∷ 62 ∷ 94 ∷ 124 ∷ 63 ∷ 58 ∷ 59 ∷ 61 ∷ 44 ∷ []) ≡ false = p7.1 in
    let p8 : ((b == 42) ≡ false) × (list_any (λ c. b == c) (43 ∷ 45 ∷ 126 ∷ 33 ∷ 47 ∷ 37 ∷ 60 ∷ 62 ∷ 94 ∷ 124 ∷ 63 ∷ 58 ∷ 59 ∷ 61 ∷ 44 ∷ []) ≡ false) = or_none _ _ h8 in
    let h9 : list_any (λ c. b == c) (43 ∷ 45 ∷ 126 ∷ 33 ∷ 47 ∷ 37 ∷ 60 ∷ 62 ∷ 94 ∷ 124 ∷ 63 ∷ 58 ∷ 59 ∷ 61 ∷ 44 ∷ []) ≡ false = p8.1 in
    let p9 : ((b == 43) ≡ false) × (list_any (λ c. b == c) (45 ∷ 126 ∷ 33 ∷ 47 ∷ 37 ∷ 60 ∷ 62 ∷ 94 ∷ 124 ∷ 63 ∷ 58 ∷ 59 ∷ 61 ∷ 44 ∷ []) ≡ false) = or_none _ _ h9 in
    let h10 : list_any (λ c. b == c) (45 ∷ 126 ∷ 33 ∷ 47 ∷ 37 ∷ 60 ∷ 62 ∷ 94 ∷ 124 ∷ 63 ∷ 58 ∷ 59 ∷ 61 ∷ 44 ∷ []) ≡ false = p9.1 in
    let p10 : ((b == 45) ≡ false) × (list_any (λ c. b == c) (126 ∷ 33 ∷ 47 ∷ 37 ∷ 60 ∷ 62 ∷ 94 ∷ 124 ∷ 63 ∷ 58 ∷ 59 ∷ 61 ∷ 44 ∷ []) ≡ false) = or_none _ _ h10 in
    let h11 : list_any (λ c. b == c) (126 ∷ 33 ∷ 47 ∷ 37 ∷ 60 ∷ 62 ∷ 94 ∷ 124 ∷ 63 ∷ 58 ∷ 59 ∷ 61 ∷ 44 ∷ []) ≡ false = p10.1 in
    let p11 : ((b == 126) ≡ false) × (list_any (λ c. b == c) (33 ∷ 47 ∷ 37 ∷ 60 ∷ 62 ∷ 94 ∷ 124 ∷ 63 ∷ 58 ∷ 59 ∷ 61 ∷ 44 ∷ []) ≡ false) = or_none _ _ h11 in
    let h12 : list_any (λ c. b == c) (33 ∷ 47 ∷ 37 ∷ 60 ∷ 62 ∷ 94 ∷ 124 ∷ 63 ∷ 58 ∷ 59 ∷ 61 ∷ 44 ∷ []) ≡ false = p11.1 in
    let p12 : ((b == 33) ≡ false) × (list_any (λ c. b == c) (47 ∷ 37 ∷ 60 ∷ 62 ∷ 94 ∷ 124 ∷ 63 ∷ 58 ∷ 59 ∷ 61 ∷ 44 ∷ []) ≡ false) = or_none _ _ h12 in
    let h13 : list_any (λ c. b == c) (47 ∷ 37 ∷ 60 ∷ 62 ∷ 94 ∷ 124 ∷ 63 ∷ 58 ∷ 59 ∷ 61 ∷ 44 ∷ []) ≡ false = p12.1 in
    let p13 : ((b == 47) ≡ false) × (list_any (λ c. b == c) (37 ∷ 60 ∷ 62 ∷ 94 ∷ 124 ∷ 63 ∷ 58 ∷ 59 ∷ 61 ∷ 44 ∷ []) ≡ false) = or_none _ _ h13 in
    let h14 : list_any (λ c. b == c) (37 ∷ 60 ∷ 62 ∷ 94 ∷ 124 ∷ 63 ∷ 58 ∷ 59 ∷ 61 ∷ 44 ∷ []) ≡ false = p13.1 in
    let p14 : ((b == 37) ≡ false) × (list_any (λ c. b == c) (60 ∷ 62 ∷ 94 ∷ 124 ∷ 63 ∷ 58 ∷ 59 ∷ 61 ∷ 44 ∷ []) ≡ false) = or_none _ _ h14 in
    let h15 : list_any (λ c. b == c) (60 ∷ 62 ∷ 94 ∷ 124 ∷ 63 ∷ 58 ∷ 59 ∷ 61 ∷ 44 ∷ []) ≡ false = p14.1 in
    let p15 : ((b == 60) ≡ false) × (list_any (λ c. b == c) (62 ∷ 94 ∷ 124 ∷ 63 ∷ 58 ∷ 59 ∷ 61 ∷ 44 ∷ []) ≡ false) = or_none _ _ h15 in
    let h16 : list_any (λ c. b == c) (62 ∷ 94 ∷ 124 ∷ 63 ∷ 58 ∷ 59 ∷ 61 ∷ 44 ∷ []) ≡ false = p15.1 in
    let p16 : ((b == 62) ≡ false) × (list_any (λ c. b == c) (94 ∷ 124 ∷ 63 ∷ 58 ∷ 59 ∷ 61 ∷ 44 ∷ []) ≡ false) = or_none _ _ h16 in
    let h17 : list_any (λ c. b == c) (94 ∷ 124 ∷ 63 ∷ 58 ∷ 59 ∷ 61 ∷ 44 ∷ []) ≡ false = p16.1 in
    let p17 : ((b == 94) ≡ false) × (list_any (λ c. b == c) (124 ∷ 63 ∷ 58 ∷ 59 ∷ 61 ∷ 44 ∷ []) ≡ false) = or_none _ _ h17 in
    let h18 : list_any (λ c. b == c) (124 ∷ 63 ∷ 58 ∷ 59 ∷ 61 ∷ 44 ∷ []) ≡ false = p17.1 in
    let p18 : ((b == 124) ≡ false) × (list_any (λ c. b == c) (63 ∷ 58 ∷ 59 ∷ 61 ∷ 44 ∷ []) ≡ false) = or_none _ _ h18 in
    let h19 : list_any (λ c. b == c) (63 ∷ 58 ∷ 59 ∷ 61 ∷ 44 ∷ []) ≡ false = p18.1 in
    let p19 : ((b == 63) ≡ false) × (list_any (λ c. b == c) (58 ∷ 59 ∷ 61 ∷ 44 ∷ []) ≡ false) = or_none _ _ h19 in
    let h20 : list_any (λ c. b == c) (58 ∷ 59 ∷ 61 ∷ 44 ∷ []) ≡ false = p19.1 in
    let p20 : ((b == 58) ≡ false) × (list_any (λ c. b == c) (59 ∷ 61 ∷ 44 ∷ []) ≡ false) = or_none _ _ h20 in
    let h21 : list_any (λ c. b == c) (59 ∷ 61 ∷ 44 ∷ []) ≡ false = p20.1 in
    let p21 : ((b == 59) ≡ false) × (list_any (λ c. b == c) (61 ∷ 44 ∷ []) ≡ false) = or_none _ _ h21 in
    let h22 : list_any (λ c. b == c) (61 ∷ 44 ∷ []) ≡ false = p21.1 in
    let p22 : ((b == 61) ≡ false) × (list_any (λ c. b == c) (44 ∷ []) ≡ false) = or_none _ _ h22 in
    let h23 : list_any (λ c. b == c) (44 ∷ []) ≡ false = p22.1 in
    let p23 : ((b == 44) ≡ false) × (list_any (λ c. b == c) ([]) ≡ false) = or_none _ _ h23 in
    let h24 : list_any (λ c. b == c) ([]) ≡ false = p23.1 in
    cond-false (b == 91) _ _ p0.0 ∙ (cond-false (b == 93) _ _ p1.0 ∙ (cond-false (b == 40) _ _ p2.0 ∙ (cond-false (b == 41) _ _ p3.0 ∙ (cond-false (b == 123) _ _ p4.0 ∙ (cond-false (b == 125) _ _ p5.0 ∙ (cond-false (b == 46) _ _ p6.0 ∙ (cond-false (b == 38) _ _ p7.0 ∙ (cond-false (b == 42) _ _ p8.0 ∙ (cond-false (b == 43) _ _ p9.0 ∙ (cond-false (b == 45) _ _ p10.0 ∙ (cond-false (b == 126) _ _ p11.0 ∙ (cond-false (b == 33) _ _ p12.0 ∙ (cond-false (b == 47) _ _ p13.0 ∙ (cond-false (b == 37) _ _ p14.0 ∙ (cond-false (b == 60) _ _ p15.0 ∙ (cond-false (b == 62) _ _ p16.0 ∙ (cond-false (b == 94) _ _ p17.0 ∙ (cond-false (b == 124) _ _ p18.0 ∙ (cond-false (b == 63) _ _ p19.0 ∙ (cond-false (b == 58) _ _ p20.0 ∙ (cond-false (b == 59) _ _ p21.0 ∙ (cond-false (b == 61) _ _ p22.0 ∙ (cond-false (b == 44) _ _ p23.0)))))))))))))))))))))))

nonletter : (b : ℕ) → is_nondigit b ≡ false → (b == 76 || b == 85) ≡ false
nonletter b is = grind (arith, nat_tests)

non_u : (b : ℕ) → is_nondigit b ≡ false → (b == 117) ≡ false
non_u b is = grind (arith, nat_tests)

stray_begins : (fresh : Bool) (b : ℕ) → is_stray b ≡ true → (b == 92) ≡ false → begins fresh b ≡ Stray
unfolding begins begins_sign
stray_begins fresh b is slash =
    let a = or_none (is_blank b) _ (not-true _ is) in
    let f = or_none (b == 10) _ a.1 in
    let w = or_none (is_word_byte b) _ f.1 in
    let s = or_none (b == 39) _ w.1 in
    let d = or_none (b == 34) _ s.1 in
    let h = or_none (b == 35) _ d.1 in
    let n = or_none (is_nondigit b) (is_ascii_digit b) w.0 in
    cond-false (is_blank b) _ _ a.0 ∙ (cond-false (b == 10) _ _ f.0 ∙ (cond-false (b == 76 || b == 85) _ _ (nonletter b n.0) ∙ (cond-false (b == 117) _ _ (non_u b n.0) ∙ (cond-false (is_nondigit b) _ _ n.0 ∙ (cond-false (is_ascii_digit b) _ _ n.1
    ∙ (cond-false (b == 39) _ _ s.0 ∙ (cond-false (b == 34) _ _ d.0 ∙ (cond-false (b == 92) _ _ slash ∙ (cond-false (b == 35) _ _ h.0 ∙ ap sign_or_stray (no_sign b h.1))))))))))

lone_slash : (fresh : Bool) → kind_at fresh (92 ∷ []) ≡ Some Broken
unfolding begins begins_sign accepts
lone_slash fresh = refl

stray_whole : accepted Stray [] ≡ Some Broken
unfolding accepts
stray_whole = refl

stray_complete : (fresh : Bool) (b : ℕ) (bs : List ℕ) → is_stray b ≡ true → is_nil bs ≡ true → kind_at fresh (b ∷ bs) ≡ Some Broken
stray_complete fresh b (c ∷ cs) is none = cc
stray_complete fresh b [] is none =
    elim (cases_Bool (b == 92)) as (λ _. kind_at fresh (b ∷ []) ≡ Some Broken) [
      | inl slash ↦ at_byte (λ x. kind_at fresh (x ∷ []) ≡ Some Broken) b 92 slash (lone_slash fresh)
      | inr other ↦ from_state fresh b [] Stray Broken (stray_begins fresh b is other) stray_whole
    ]

broken_complete : (fresh : Bool) (text : List ℕ) → is_broken text ≡ true → kind_at fresh text ≡ Some Broken
broken_complete fresh [] is = cc
broken_complete fresh (b ∷ bs) is =
    elim (or_cases (is_stray b && is_nil bs) (list_any (bytes_eq (b ∷ bs)) openings) is) as (λ _. kind_at fresh (b ∷ bs) ≡ Some Broken) [
      | inl h ↦ (let parts : (is_stray b ≡ true) × (is_nil bs ≡ true) = and_parts _ _ h in stray_complete fresh b bs parts.0 parts.1)
      | inr h ↦ opening_complete fresh (b ∷ bs) h
    ]

pub complete : (fresh : Bool) (k : Kind) (text : List ℕ) → is_piece fresh k text ≡ true → kind_at fresh text ≡ Some k
complete fresh Blank text is = blank_complete fresh text is
complete fresh LineEndPiece text is = feed_complete fresh text is
complete fresh CommentPiece text is = comment_complete fresh text is
complete fresh Directive text is = directive_complete fresh text is
complete fresh WordPiece text is = word_complete fresh text is
complete fresh NumberPiece text is = number_complete fresh text is
complete fresh Character text is = character_complete fresh text is
complete fresh Text text is = text_complete fresh text is
complete fresh (SignPiece sign) text is = sign_complete fresh sign text is
complete fresh Broken text is = broken_complete fresh text is
