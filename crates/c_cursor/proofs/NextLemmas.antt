-- What a class has of the next token, told by its kind.
use Rattle.std.proofs.Common.{◌≡◌, refl, sym, ◌∙◌, ap, subst, ℕ, ◌+◌, arith, suc, zero, Bool, true, false, not, true≢false, List, [], ◌∷◌, drop, Option, Some, None, Result, Ok, Err}
use Rattle.cil_base.specs.declared.tokens.TokenKind.{TokenKind}
use Rattle.cil_base.specs.declared.tokens.TokenKind.TheVariants.{Name as IsName, Keyword as IsKeyword, Integer as IsInteger, Character as IsCharacter, Literal as IsLiteral, Punctuator as IsPunctuator}
use Rattle.cil_base.specs.declared.tokens.Punctuator.{Punctuator}
use Rattle.c_tree.specs.Spelling.{Lexeme}
use Rattle.c_cursor.specs.declared.stops.ParseStop.{ParseStop}
use Rattle.c_cursor.specs.Readers.{Input, input, head, one, token_taken}
use Rattle.c_cursor.specs.Classes.{next_is, next_is_not, is_sign, is_literal, a_literal, if_so, fitting, plain, of_kind, name_kind, has_text, is_static_word, is_assert_word}
use Rattle.c_cursor.specs.Lexemes.{Standing, ahead}
use Rattle.c_cursor.specs.Given.{IsNext, IsValue, Gives, next_of, given}

pub next_told : (test : TokenKind → Bool) (k : TokenKind) (o : Option Lexeme) → IsNext (Some k) o → test k ≡ next_is test o
next_told test k None is = absurd is
next_told test k (Some u) is = ap test (sym is.0)

pub none_told : (test : TokenKind → Bool) (o : Option Lexeme) → IsNext None o → false ≡ next_is test o
none_told test None is = refl
none_told test (Some u) is = absurd is

pub other_told : (p : Punctuator) (k : TokenKind) (o : Option Lexeme) → IsNext (Some k) o → not (is_sign p k) ≡ next_is_not p o
other_told p k None is = absurd is
other_told p k (Some u) is = ap (λ j. not (is_sign p j)) (sym is.0)

pub no_other : (p : Punctuator) (o : Option Lexeme) → IsNext None o → false ≡ next_is_not p o
no_other p None is = refl
no_other p (Some u) is = absurd is

-- a class that has no constant and no literal
pub record IsWordless {A : Type 0} (f : TokenKind → Option A) : Type 0 where
  pub none : (k : TokenKind) → has_text k ≡ true → f k ≡ None

emptied : {A : Type 0} (f : TokenKind → Option A) (k : TokenKind) (text : List ℕ) → text ≡ [] → f k ≡ of_kind f text k
emptied f k text e = rw e refl

unread : {A : Type 0} (f : TokenKind → Option A) (k : TokenKind) (text : List ℕ) → f k ≡ None → f k ≡ of_kind f text k
unread f k [] e = refl
unread f k (v ∷ vs) e = e

by_text : {A : Type 0} (f : TokenKind → Option A) → IsWordless f → (k : TokenKind) (text : List ℕ) (b : Bool) → has_text k ≡ b → (has_text k ≡ false → text ≡ []) → f k ≡ of_kind f text k
by_text f w k text true e empty = unread f k text (w.none k e)
by_text f w k text false e empty = emptied f k text (empty e)

pub next_plain : {A : Type 0} (f : TokenKind → Option A) → IsWordless f → (k : TokenKind) (o : Option Lexeme) → IsNext (Some k) o → f k ≡ next_of (plain f) o
next_plain f w k None is = absurd is
next_plain f w k (Some u) is = by_text f w k u.value (has_text k) refl is.1 ∙ ap (of_kind f u.value) (sym is.0)

pub none_plain : {A : Type 0} (p : Lexeme → Option A) (o : Option Lexeme) → IsNext None o → None ≡ next_of p o
none_plain p None is = refl
none_plain p (Some u) is = absurd is

name_of_text : (k : TokenKind) → has_text k ≡ true → name_kind k ≡ None
name_of_text (IsName n) e = absurd (true≢false (sym e))
name_of_text (IsKeyword w) e = refl
name_of_text IsInteger e = refl
name_of_text IsCharacter e = refl
name_of_text IsLiteral e = refl
name_of_text (IsPunctuator q) e = refl

pub names_plain : IsWordless name_kind
names_plain = record { none = λ k e. name_of_text k e }

sign_of_text : (p : Punctuator) (k : TokenKind) → has_text k ≡ true → if_so {A = Unit {0}} (is_sign p k) tt ≡ None
sign_of_text p (IsName n) e = refl
sign_of_text p (IsKeyword w) e = refl
sign_of_text p IsInteger e = refl
sign_of_text p IsCharacter e = refl
sign_of_text p IsLiteral e = refl
sign_of_text p (IsPunctuator q) e = absurd (true≢false (sym e))

pub sign_plain : (p : Punctuator) (k : TokenKind) (o : Option Lexeme) → IsNext (Some k) o → if_so {A = Unit {0}} (is_sign p k) tt ≡ next_of (plain (λ j. if_so {A = Unit {0}} (is_sign p j) tt)) o
sign_plain p k o is = next_plain (λ j. if_so {A = Unit {0}} (is_sign p j) tt) (record { none = sign_of_text p }) k o is

static_of_text : (k : TokenKind) → has_text k ≡ true → if_so {A = Unit {0}} (is_static_word k) tt ≡ None
static_of_text (IsName n) e = refl
static_of_text (IsKeyword w) e = absurd (true≢false (sym e))
static_of_text IsInteger e = refl
static_of_text IsCharacter e = refl
static_of_text IsLiteral e = refl
static_of_text (IsPunctuator q) e = refl

pub static_plain : (k : TokenKind) (o : Option Lexeme) → IsNext (Some k) o → if_so {A = Unit {0}} (is_static_word k) tt ≡ next_of (plain (λ j. if_so {A = Unit {0}} (is_static_word j) tt)) o
static_plain k o is = next_plain (λ j. if_so {A = Unit {0}} (is_static_word j) tt) (record { none = static_of_text }) k o is

assert_of_text : (k : TokenKind) → has_text k ≡ true → if_so {A = Unit {0}} (is_assert_word k) tt ≡ None
assert_of_text (IsName n) e = refl
assert_of_text (IsKeyword w) e = absurd (true≢false (sym e))
assert_of_text IsInteger e = refl
assert_of_text IsCharacter e = refl
assert_of_text IsLiteral e = refl
assert_of_text (IsPunctuator q) e = refl

pub assert_plain : (k : TokenKind) (o : Option Lexeme) → IsNext (Some k) o → if_so {A = Unit {0}} (is_assert_word k) tt ≡ next_of (plain (λ j. if_so {A = Unit {0}} (is_assert_word j) tt)) o
assert_plain k o is = next_plain (λ j. if_so {A = Unit {0}} (is_assert_word j) tt) (record { none = assert_of_text }) k o is

fitted_next : {A : Type 0} (fits : A → Bool) (f : TokenKind → Option A) (o : Option Lexeme) → fitting fits (next_of (plain f) o) ≡ next_of (λ u. fitting fits (plain f u)) o
fitted_next fits f None = refl
fitted_next fits f (Some u) = refl

-- of what a class has, only what fits
pub next_fitting : {A : Type 0} (fits : A → Bool) (f : TokenKind → Option A) → IsWordless f → (k : TokenKind) (o : Option Lexeme) → IsNext (Some k) o → fitting fits (f k) ≡ next_of (λ u. fitting fits (plain f u)) o
next_fitting fits f w k o is = ap (fitting fits) (next_plain f w k o is) ∙ fitted_next fits f o

of_found : {A : Type 0} (o : Option A) (n : ℕ) (u : Lexeme) (us : List Lexeme) → given o (input n (u ∷ us)) ≡ token_taken o n u us
of_found None n u us = refl
of_found (Some a) n u us = refl

one_given : {A : Type 0} (p : Lexeme → Option A) (n : ℕ) (us : List Lexeme) → given (next_of p (head us)) (input n us) ≡ one p (input n us)
one_given p n [] = refl
one_given p n (u ∷ us) = of_found (p u) n u us

-- the class takes what was found
pub taken_one : {A B : Type 0} (seen : A → B) (result : Result A ParseStop) (p : Lexeme → Option B) (i j : Input) (found : Option B) → found ≡ next_of p (head i.rest) → Gives seen result (given found i) j → Gives seen result (one p i) j
taken_one seen result p i j found e g = subst (λ r. Gives seen result r j) (one_given p i.at i.rest) (subst (λ o. Gives seen result (given o i) j) e g)

one_behind : (us : List Lexeme) (i : ℕ) → drop 1 (drop i us) ≡ drop (suc i) us
one_behind [] zero = refl
one_behind [] (suc i) = refl
one_behind (u ∷ us) zero = refl
one_behind (u ∷ us) (suc i) = one_behind us i

pub one_more : (us : List Lexeme) (i : ℕ) → drop 1 (drop i us) ≡ drop (i + 1) us
one_more us i = let e : suc i ≡ i + 1 = omega arith in one_behind us i ∙ ap (λ k. drop k us) e

behind_next : {A : Type 0} (a : A) (c d : Standing) → d ≡ record { all = c.all; at = c.at + 1 } → given (Some a) (ahead c) ≡ Ok (a, ahead d)
behind_next a c d e = subst (λ (x : Standing). given (Some a) (ahead c) ≡ Ok (a, ahead x)) (sym e) (ap (λ us. Ok (a, input (c.at + 1) us)) (one_more c.all c.at))

-- a cursor that was put behind the next token
pub given_ahead : {A : Type 0} (found : Option A) (a : A) (c d : Standing) → found ≡ Some a → d ≡ record { all = c.all; at = c.at + 1 } → given found (ahead c) ≡ Ok (a, ahead d)
given_ahead found a c d is e = subst (λ o. given o (ahead c) ≡ Ok (a, ahead d)) (sym is) (behind_next a c d e)

-- the class takes the next token, or there is none of it
pub class_taken : {A : Type 0} (p : Lexeme → Option A) (a : A) (c d : Standing) → next_of p (head (ahead c).rest) ≡ Some a → d ≡ record { all = c.all; at = c.at + 1 } → one p (ahead c) ≡ Ok (a, ahead d)
class_taken p a c d is e = sym (one_given p c.at (drop c.at c.all)) ∙ given_ahead (next_of p (head (ahead c).rest)) a c d is e

pub class_missing : {A : Type 0} (p : Lexeme → Option A) (c : Standing) → next_of p (head (ahead c).rest) ≡ None → one p (ahead c) ≡ Err (ahead c)
class_missing p c is = sym (one_given p c.at (drop c.at c.all)) ∙ ap (λ o. given o (ahead c)) is

-- string literals

pub literal_next : (text : List ℕ) (o : Option Lexeme) → next_is is_literal o ≡ true → IsValue text o → next_of a_literal o ≡ Some text
literal_next text None e is = absurd is
literal_next text (Some u) e is = ap (λ b. if_so b u.value) e ∙ ap (λ t. Some t) is

pub no_literal_next : (o : Option Lexeme) → next_is is_literal o ≡ false → next_of a_literal o ≡ None
no_literal_next None e = refl
no_literal_next (Some u) e = ap (λ b. if_so b u.value) e
