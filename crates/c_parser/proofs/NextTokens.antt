-- What the next tokens tell the readings of statements, by their kinds.
use Rattle.std.proofs.Common.{◌≡◌, refl, sym, ap, ◌∙◌, Bool, true, false, ◌&&◌, true≢false, List, [], ◌∷◌, drop, Option, Some, None}
use Rattle.cil_base.specs.declared.numbers.NameId.{NameId}
use Rattle.cil_base.specs.declared.tokens.TokenKind.{TokenKind}
use Rattle.cil_base.specs.declared.tokens.TokenKind.TheVariants.{Name as IsName, Keyword as IsKeyword, Integer as IsInteger, Character as IsCharacter, Literal as IsLiteral, Punctuator as IsPunctuator}
use Rattle.cil_base.specs.declared.tokens.Punctuator.TheVariants.{Colon}
use Rattle.typedef_scopes.specs.Scopes.{Scope, is_type}
use Rattle.c_tree.specs.Spelling.{Lexeme}
use Rattle.c_cursor.specs.Readers.{head}
use Rattle.c_cursor.specs.Classes.{is_sign, next_is, fitting, plain, if_so, name_kind, has_text}
use Rattle.c_exprs.specs.Classes.{is_some_of}
use Rattle.c_cursor.specs.Given.{IsNext, next_of}
use Rattle.c_cursor.proofs.NextLemmas.{IsWordless, next_plain, names_plain}
use Rattle.c_parser.specs.StatementWords.{statement_kind, is_while_word, name_ahead, type_ahead, token_ahead, label_ahead}
use Rattle.c_parser.specs.UnitForms.{is_else_word}

pub token_told : (k : TokenKind) (o : Option Lexeme) → IsNext (Some k) o → true ≡ token_ahead o
token_told k None is = absurd is
token_told k (Some u) is = refl

pub no_token : (o : Option Lexeme) → IsNext None o → false ≡ token_ahead o
no_token None is = refl
no_token (Some u) is = absurd is

pub name_told : (k : TokenKind) (o : Option Lexeme) → IsNext (Some k) o → is_some_of (name_kind k) ≡ name_ahead o
name_told k None is = absurd is
name_told k (Some u) is = ap is_some_of (next_plain name_kind names_plain k (Some u) is)

pub no_name : (o : Option Lexeme) → IsNext None o → false ≡ name_ahead o
no_name None is = refl
no_name (Some u) is = absurd is

pub type_told : (ds : List Scope) (k : TokenKind) (o : Option Lexeme) → IsNext (Some k) o → is_some_of (fitting (is_type ds) (name_kind k)) ≡ type_ahead ds o
type_told ds k None is = absurd is
type_told ds k (Some u) is = ap (λ n. is_some_of (fitting (is_type ds) n)) (next_plain name_kind names_plain k (Some u) is)

some_if : (b : Bool) (n : NameId) → b ≡ is_some_of (if_so b n)
some_if true n = refl
some_if false n = refl

pub type_name_told : (ds : List Scope) (n : NameId) → is_type ds n ≡ is_some_of (fitting (is_type ds) (Some n))
type_name_told ds n = some_if (is_type ds n) n

pub no_type : (ds : List Scope) (o : Option Lexeme) → IsNext None o → false ≡ type_ahead ds o
no_type ds None is = refl
no_type ds (Some u) is = absurd is

and_both : (a b c d : Bool) → a ≡ c → b ≡ d → (a && b) ≡ (c && d)
and_both a b c d e f = rw (e, f) refl

and_false : (a b : Bool) → a ≡ false → (a && b) ≡ false
and_false a b e = rw e refl

-- the two tokens of a label
pub label_told : (us : List Lexeme) (a b : Bool) → a ≡ name_ahead (head us) → b ≡ next_is (is_sign Colon) (head (drop 1 us)) → (a && b) ≡ label_ahead us
label_told [] a b e f = and_false a b e
label_told (u ∷ []) a b e f = and_both a b (name_ahead (Some u)) false e f
label_told (u ∷ v ∷ us) a b e f = and_both a b (name_ahead (Some u)) (is_sign Colon v.kind) e f

word_of_text : (k : TokenKind) → has_text k ≡ true → statement_kind k ≡ None
word_of_text (IsName n) e = refl
word_of_text (IsKeyword w) e = absurd (true≢false (sym e))
word_of_text IsInteger e = refl
word_of_text IsCharacter e = refl
word_of_text IsLiteral e = refl
word_of_text (IsPunctuator q) e = absurd (true≢false (sym e))

pub words_plain : IsWordless statement_kind
words_plain = record { none = λ k e. word_of_text k e }

else_of_text : (k : TokenKind) → has_text k ≡ true → if_so {A = Unit {0}} (is_else_word k) tt ≡ None
else_of_text (IsName n) e = refl
else_of_text (IsKeyword w) e = absurd (true≢false (sym e))
else_of_text IsInteger e = refl
else_of_text IsCharacter e = refl
else_of_text IsLiteral e = refl
else_of_text (IsPunctuator q) e = refl

pub else_plain : (k : TokenKind) (o : Option Lexeme) → IsNext (Some k) o → if_so {A = Unit {0}} (is_else_word k) tt ≡ next_of (plain (λ j. if_so {A = Unit {0}} (is_else_word j) tt)) o
else_plain k o is = next_plain (λ j. if_so {A = Unit {0}} (is_else_word j) tt) (record { none = else_of_text }) k o is

while_of_text : (k : TokenKind) → has_text k ≡ true → if_so {A = Unit {0}} (is_while_word k) tt ≡ None
while_of_text (IsName n) e = refl
while_of_text (IsKeyword w) e = absurd (true≢false (sym e))
while_of_text IsInteger e = refl
while_of_text IsCharacter e = refl
while_of_text IsLiteral e = refl
while_of_text (IsPunctuator q) e = refl

pub while_plain : (k : TokenKind) (o : Option Lexeme) → IsNext (Some k) o → if_so {A = Unit {0}} (is_while_word k) tt ≡ next_of (plain (λ j. if_so {A = Unit {0}} (is_while_word j) tt)) o
while_plain k o is = next_plain (λ j. if_so {A = Unit {0}} (is_while_word j) tt) (record { none = while_of_text }) k o is
