-- What a class has of the next token, told by its kind.
use Rattle.std.specs.Prelude.{if◌then◌else◌}
use Rattle.std.proofs.Common.{◌≡◌, refl, sym, ◌∙◌, ap, ℕ, ◌+◌, Bool, true, false, not, true≢false, ◌||◌, List, [], Option, Some, None, Ok}
use Rattle.cil_base.specs.declared.numbers.NameId.{NameId}
use Rattle.cil_base.specs.declared.tokens.TokenKind.{TokenKind}
use Rattle.cil_base.specs.declared.tokens.TokenKind.TheVariants.{Name as IsName, Keyword as IsKeyword, Integer as IsInteger, Character as IsCharacter, Literal as IsLiteral, Punctuator as IsPunctuator}
use Rattle.typedef_scopes.specs.Scopes.{Scope, is_type}
use Rattle.c_tree.specs.Spelling.{Lexeme}
use Rattle.c_cursor.specs.Readers.{head, one}
use Rattle.c_cursor.specs.Classes.{fitting, has_text, a_name}
use Rattle.c_exprs.specs.Classes.{is_empty, start_kind, start_fits, start_of, with_text, qualifier_kind, designation_kind, piece_kind, operator_kind, derivation_kind, an_identifier}
use Rattle.c_cursor.specs.Lexemes.{Standing, ahead}
use Rattle.c_cursor.specs.Given.{IsNext, IsValue, next_of}
use Rattle.c_exprs.specs.Given.{IsStartNext}
use Rattle.c_tree.specs.declared.level.Level.{Level}
use Rattle.c_exprs.specs.declared.words.Start.{Start}
use Rattle.c_cursor.proofs.NextLemmas.{IsWordless, none_plain, class_taken}

qualifier_of_text : (k : TokenKind) → has_text k ≡ true → qualifier_kind k ≡ None
qualifier_of_text (IsName n) e = refl
qualifier_of_text (IsKeyword w) e = absurd (true≢false (sym e))
qualifier_of_text IsInteger e = refl
qualifier_of_text IsCharacter e = refl
qualifier_of_text IsLiteral e = refl
qualifier_of_text (IsPunctuator q) e = refl

pub qualifiers_plain : IsWordless qualifier_kind
qualifiers_plain = record { none = λ k e. qualifier_of_text k e }

designation_of_text : (k : TokenKind) → has_text k ≡ true → designation_kind k ≡ None
designation_of_text (IsName n) e = refl
designation_of_text (IsKeyword w) e = refl
designation_of_text IsInteger e = refl
designation_of_text IsCharacter e = refl
designation_of_text IsLiteral e = refl
designation_of_text (IsPunctuator q) e = absurd (true≢false (sym e))

pub designations_plain : IsWordless designation_kind
designations_plain = record { none = λ k e. designation_of_text k e }

piece_of_text : (typed : Bool) (ds : List Scope) (k : TokenKind) → has_text k ≡ true → piece_kind typed ds k ≡ None
piece_of_text typed ds (IsName n) e = absurd (true≢false (sym e))
piece_of_text typed ds (IsKeyword w) e = absurd (true≢false (sym e))
piece_of_text typed ds IsInteger e = refl
piece_of_text typed ds IsCharacter e = refl
piece_of_text typed ds IsLiteral e = refl
piece_of_text typed ds (IsPunctuator q) e = refl

pub pieces_plain : (typed : Bool) (ds : List Scope) → IsWordless (piece_kind typed ds)
pieces_plain typed ds = record { none = λ k e. piece_of_text typed ds k e }

operator_of_text : (k : TokenKind) → has_text k ≡ true → operator_kind k ≡ None
operator_of_text (IsName n) e = refl
operator_of_text (IsKeyword w) e = refl
operator_of_text IsInteger e = refl
operator_of_text IsCharacter e = refl
operator_of_text IsLiteral e = refl
operator_of_text (IsPunctuator q) e = absurd (true≢false (sym e))

pub operators_plain : IsWordless operator_kind
operators_plain = record { none = λ k e. operator_of_text k e }

derivation_of_text : (k : TokenKind) → has_text k ≡ true → derivation_kind k ≡ None
derivation_of_text (IsName n) e = refl
derivation_of_text (IsKeyword w) e = refl
derivation_of_text IsInteger e = refl
derivation_of_text IsCharacter e = refl
derivation_of_text IsLiteral e = refl
derivation_of_text (IsPunctuator q) e = absurd (true≢false (sym e))

pub derivations_plain : IsWordless derivation_kind
derivations_plain = record { none = λ k e. derivation_of_text k e }

identifier_found : (ds : List Scope) (o : Option Lexeme) → fitting (λ n. not (is_type ds n)) (next_of a_name o) ≡ next_of (an_identifier ds) o
identifier_found ds None = refl
identifier_found ds (Some u) = refl

-- of what is a name, only what is no typedef name
pub identifier_next : (ds : List Scope) (o : Option Lexeme) (found result : Option NameId) → found ≡ next_of a_name o → result ≡ fitting (λ n. not (is_type ds n)) found → result ≡ next_of (an_identifier ds) o
identifier_next ds o found result e is = is ∙ (ap (fitting (λ n. not (is_type ds n))) e ∙ identifier_found ds o)

-- the first token of an expression, whose text is empty where its kind has none

told_or_empty : (k : TokenKind) (text : List ℕ) (b : Bool) → has_text k ≡ b → (has_text k ≡ false → text ≡ []) → (has_text k || is_empty text) ≡ true
told_or_empty k text true e empty = ap (λ b. b || is_empty text) e
told_or_empty k text false e empty = ap (λ b. b || is_empty text) e ∙ ap is_empty (empty e)

start_told : (h : ℕ) (level : Level) (ds : List Scope) (u : Lexeme) → (has_text u.kind || is_empty u.value) ≡ true → start_of h level ds u ≡ with_text u.value (fitting (start_fits h level) (start_kind ds u.kind))
start_told h level ds u e = ap (λ b. with_text u.value (if b then fitting (start_fits h level) (start_kind ds u.kind) else None)) e

kind_told : (k : TokenKind) (u : Lexeme) → IsNext (Some k) (Some u) → has_text u.kind ≡ false → u.value ≡ []
kind_told k u is e = is.1 (ap has_text (sym is.0) ∙ e)

start_is : (h : ℕ) (level : Level) (ds : List Scope) (k : TokenKind) (u : Lexeme) → IsNext (Some k) (Some u) → start_of h level ds u ≡ with_text u.value (fitting (start_fits h level) (start_kind ds k))
start_is h level ds k u is =
    start_told h level ds u (told_or_empty u.kind u.value (has_text u.kind) refl (kind_told k u is)) ∙ ap (λ j. with_text u.value (fitting (start_fits h level) (start_kind ds j))) is.0

pub start_next : (h : ℕ) (level : Level) (ds : List Scope) (k : TokenKind) (o : Option Lexeme) (s : Start) (text : List ℕ) → IsNext (Some k) o → fitting (start_fits h level) (start_kind ds k) ≡ Some s → IsValue text o → next_of (start_of h level ds) o ≡ Some (s, text)
start_next h level ds k None s text is e t = absurd is
start_next h level ds k (Some u) s text is e t = start_is h level ds k u is ∙ (ap (with_text u.value) e ∙ ap (λ v. Some (s, v)) t)

pub no_start_next : (h : ℕ) (level : Level) (ds : List Scope) (k : TokenKind) (o : Option Lexeme) → IsNext (Some k) o → fitting (start_fits h level) (start_kind ds k) ≡ None → next_of (start_of h level ds) o ≡ None
no_start_next h level ds k None is e = refl
no_start_next h level ds k (Some u) is e = start_is h level ds k u is ∙ ap (with_text u.value) e

pub nothing_next : {A : Type 0} (p : Lexeme → Option A) (o : Option Lexeme) → IsNext None o → next_of p o ≡ None
nothing_next p o is = sym (none_plain p o is)

pub start_found : (h : ℕ) (level : Level) (ds : List Scope) (k : TokenKind) (o : Option Lexeme) (found : Option Start) → IsNext (Some k) o → found ≡ fitting (start_fits h level) (start_kind ds k) → IsStartNext found (next_of (start_of h level ds) o) o
start_found h level ds k o None is e = no_start_next h level ds k o is (sym e)
start_found h level ds k o (Some s) is e = λ text t. start_next h level ds k o s text is (sym e) t

pub start_taken : (p : Lexeme → Option (Start × List ℕ)) (s : Start) (text : List ℕ) (c d : Standing) → ((t : List ℕ) → IsValue t (head (ahead c).rest) → next_of p (head (ahead c).rest) ≡ Some (s, t)) → IsValue text (head (ahead c).rest) →
    d ≡ record { all = c.all; at = c.at + 1 } → one p (ahead c) ≡ Ok ((s, text), ahead d)
start_taken p s text c d found v e = class_taken p (s, text) c d (found text v) e
