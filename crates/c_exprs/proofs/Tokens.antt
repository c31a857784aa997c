-- Device: the classes of tokens tell which tokens they are.
use Rattle.std.proofs.Common.{◌≡◌, refl, sym, ap, ◌∙◌, subst, ℕ, ◌<◌, ◌≤◌, Bool, true, false, not, ◌&&◌, ◌||◌, nat_le, nat_lt, List, [], ◌∷◌, Option, Some, None, arith, true≢false, if◌then◌else◌}
use Rattle.std.proofs.lemmas.Bool.Decides.{nat_tests}
use Rattle.cil_base.specs.declared.numbers.NameId.{NameId}
use Rattle.cil_base.specs.declared.operators.BinOp.TheVariants.{Mul, Div, Rem, Add, Sub, Shl, Shr, Lt, Gt, Le, Ge, Eq, Ne, And, Xor, Or}
use Rattle.cil_base.specs.declared.tokens.TokenKind.{TokenKind}
use Rattle.cil_base.specs.declared.tokens.TokenKind.TheVariants.{Name as IsName, Keyword as IsKeyword, Integer as IsInteger, Character as IsCharacter, Literal as IsLiteral, Punctuator as IsPunctuator}
use Rattle.cil_base.specs.declared.tokens.Keyword.{Keyword}
use Rattle.cil_base.specs.declared.tokens.Keyword.TheVariants.{Auto as AutoWord, Char as CharWord, Const as ConstWord, Enum as EnumWord, Extern as ExternWord, Inline as InlineWord, Int as IntWord, Long as LongWord, Register as RegisterWord, Restrict as RestrictWord, Short as ShortWord, Signed as SignedWord, Sizeof as SizeofWord, Static as StaticWord, Struct as StructWord, Typedef as TypedefWord, Union as UnionWord, Unsigned as UnsignedWord, Void as VoidWord, Alignof as AlignofWord, Bool as BoolWord, Noreturn as NoreturnWord, StaticAssert as StaticAssertWord}
use Rattle.cil_base.specs.declared.tokens.Punctuator.{Punctuator}
use Rattle.cil_base.specs.declared.tokens.Punctuator.TheVariants.{LeftBracket, LeftParen, Dot, Arrow as ArrowSign, PlusPlus, MinusMinus, Ampersand, Star as StarSign, Plus, Minus, Tilde, Exclamation, Slash, Percent, LeftShift, RightShift, Less, Greater, LessEqual, GreaterEqual, EqualEqual, ExclamationEqual, Caret, Bar, AmpersandAmpersand, BarBar, Question, Equal, StarEqual, SlashEqual, PercentEqual, PlusEqual, MinusEqual, LeftShiftEqual, RightShiftEqual, AmpersandEqual, CaretEqual, BarEqual, Comma as CommaSign}
use Rattle.typedef_scopes.specs.Scopes.{Scope, is_type}
use Rattle.c_tree.specs.declared.words.StorageClass.TheVariants.{Typedef, Extern, Static, Auto, Register}
use Rattle.c_tree.specs.declared.words.BasicType.TheVariants.{Void, Char, Short, Int, Long, Signed, Unsigned, Bool as Boolean}
use Rattle.c_tree.specs.declared.words.Qualifier.{Qualifier}
use Rattle.c_tree.specs.declared.words.Qualifier.TheVariants.{Const, Restrict}
use Rattle.c_tree.specs.declared.words.FunctionSpecifier.TheVariants.{Inline, Noreturn}
use Rattle.c_tree.specs.declared.words.StructKind.TheVariants.{Struct, Union}
use Rattle.c_tree.specs.declared.words.StepOp.TheVariants.{Increment, Decrement}
use Rattle.c_tree.specs.declared.words.UnaryOp.TheVariants.{Address, Indirection, Plus as PlusOp, Minus as MinusOp, Complement, Not}
use Rattle.c_tree.specs.declared.words.LogicalOp.TheVariants.{And as BothOf, Or as OneOf}
use Rattle.c_tree.specs.declared.level.Level.{Level}
use Rattle.c_exprs.specs.declared.words.Start.{Start}
use Rattle.c_exprs.specs.declared.words.Start.TheVariants.{Name as NameStart, Integer as IntegerStart, Character as CharacterStart, Literal as LiteralStart, Parenthesis as ParenthesisStart, Step as StepStart, Unary as UnaryStart, Sizeof as SizeofStart, Alignof as AlignofStart}
use Rattle.c_exprs.specs.declared.words.Joint.{Joint}
use Rattle.c_exprs.specs.declared.words.Joint.TheVariants.{Arithmetic as Arithmetically, Logical as Logically, Assign as Assigning, Comma as InSequence}
use Rattle.c_exprs.specs.declared.words.Operator.{Operator}
use Rattle.c_exprs.specs.declared.words.Operator.TheVariants.{Index as ToIndex, Call as ToCall, Member as ToMember, Arrow as ToArrow, Step as ToStep, Conditional as ToChoose, Join as ToJoin}
use Rattle.c_exprs.specs.declared.words.Piece.{Piece}
use Rattle.c_exprs.specs.declared.words.Piece.TheVariants.{Storage as StoragePiece, Basic as BasicPiece, Qualifier as QualifierPiece, Function as FunctionPiece, Name as NamePiece, Struct as StructPiece, Enum as EnumPiece}
use Rattle.c_exprs.specs.declared.words.SpecifierForm.{SpecifierForm}
use Rattle.c_exprs.specs.declared.words.Derivation.{Derivation}
use Rattle.c_exprs.specs.declared.words.Derivation.TheVariants.{Array as ArrayOf, Function as FunctionOf}
use Rattle.c_exprs.specs.declared.words.Designation.{Designation}
use Rattle.c_exprs.specs.declared.words.Designation.TheVariants.{Index as ByIndex, Member as ByMember}
use Rattle.cil_base.specs.declared.operators.BinOp.{BinOp}
use Rattle.c_tree.specs.declared.words.StorageClass.{StorageClass}
use Rattle.c_tree.specs.declared.words.BasicType.{BasicType}
use Rattle.c_tree.specs.declared.words.FunctionSpecifier.{FunctionSpecifier}
use Rattle.c_tree.specs.declared.words.StructKind.{StructKind}
use Rattle.c_tree.specs.declared.words.StepOp.{StepOp}
use Rattle.c_tree.specs.declared.words.UnaryOp.{UnaryOp}
use Rattle.c_tree.specs.declared.words.LogicalOp.{LogicalOp}
use Rattle.c_tree.specs.Spelling.{Lexeme, word, sign, named, integer, character, literal, storage_word, basic_word, qualifier_word, function_word, struct_word, step_sign, unary_sign, binary_sign, logical_sign, assign_sign, spell_assign}
use Rattle.c_tree.specs.Syntax.{ExprTree, DeclaratorTree}
use Rattle.c_tree.specs.Height.{declarator_height}
use Rattle.c_tree.specs.Levels.{is_assign_op}
use Rattle.c_cursor.specs.Classes.{sign_number, is_sign, is_static_word, is_assert_word, is_literal, plain, fitting, name_kind, a_name, a_literal, has_text}
use Rattle.c_exprs.specs.Classes.{an_identifier, step_sign_kind, start_word_kind, start_kind, is_empty, start_fits, with_text, start_of, operator_sign, operator_kind, operator_fits, operator_for, piece_word, piece_kind, piece_fits, piece_for, qualifier_word_kind, qualifier_kind, a_qualifier, derivation_sign, derivation_kind, derivation_for, designation_sign, designation_kind, a_designation}
use Rattle.c_exprs.proofs.Laws.{bare, Tells, some_is, none_is_no, if_so_is, plain_is, fitting_is}
use Rattle.c_cursor.proofs.Tokens.{eq_true, true_eq, same_number}

pub le_true : (a b : ℕ) → nat_le a b ≡ true → a ≤ b
le_true a b e = grind (arith, nat_tests)

pub true_le : (a b : ℕ) → a ≤ b → nat_le a b ≡ true
true_le a b e = grind (arith, nat_tests)

pub false_le : (a b : ℕ) → b < a → nat_le a b ≡ false
false_le a b e = grind (arith, nat_tests)

pub le_false : (a b : ℕ) → nat_le a b ≡ false → b < a
le_false a b e = grind (arith, nat_tests)

pub lt_true : (a b : ℕ) → nat_lt a b ≡ true → a < b
lt_true a b e = grind (arith, nat_tests)

pub true_lt : (a b : ℕ) → a < b → nat_lt a b ≡ true
true_lt a b e = grind (arith, nat_tests)

-- conditions

pub both : (a b : Bool) → (a && b) ≡ true → (a ≡ true) × (b ≡ true)
both true b h = (refl, h)
both false b h = absurd (true≢false (sym h))

pub none_of : (a b : Bool) → (a || b) ≡ false → (a ≡ false) × (b ≡ false)
none_of true b h = absurd (true≢false h)
none_of false b h = (refl, h)

pub not_true : (b : Bool) → not b ≡ true → b ≡ false
not_true true e = absurd (true≢false (sym e))
not_true false e = refl

pub or_true : (b : Bool) → (b || true) ≡ true
or_true true = refl
or_true false = refl

pub or_false : (b : Bool) → (b || false) ≡ b
or_false true = refl
or_false false = refl

pub not_both_ways : (b : Bool) → b ≡ true → b ≡ false → ⊥
not_both_ways b e f = true≢false (sym e ∙ f)

pub fitted : {A : Type 0} (fits : A → Bool) (a : A) → fits a ≡ true → fitting fits (Some a) ≡ Some a
fitted fits a e = rw e refl

sign_only : (p : Punctuator) (k : TokenKind) → is_sign p k ≡ true → k ≡ IsPunctuator p
sign_only p (IsName n) e = absurd (true≢false (sym e))
sign_only p (IsKeyword w) e = absurd (true≢false (sym e))
sign_only p IsInteger e = absurd (true≢false (sym e))
sign_only p IsCharacter e = absurd (true≢false (sym e))
sign_only p IsLiteral e = absurd (true≢false (sym e))
sign_only p (IsPunctuator q) e = ap IsPunctuator (same_number p q (eq_true (sign_number p) (sign_number q) e))

pub sign_tells : (p : Punctuator) → Tells (is_sign p) (IsPunctuator p)
sign_tells p = record { is = sign_only p; true_of = true_eq (sign_number p) }

static_only_word : (w : Keyword) → is_static_word (IsKeyword w) ≡ true → IsKeyword w ≡ IsKeyword StaticWord
static_only_word StaticWord e = refl
static_only_word _ e = absurd (true≢false (sym e))

static_only : (k : TokenKind) → is_static_word k ≡ true → k ≡ IsKeyword StaticWord
static_only (IsKeyword w) e = static_only_word w e
static_only _ e = absurd (true≢false (sym e))

pub static_tells : Tells is_static_word (IsKeyword StaticWord)
static_tells = record { is = static_only; true_of = refl }

assert_only_word : (w : Keyword) → is_assert_word (IsKeyword w) ≡ true → IsKeyword w ≡ IsKeyword StaticAssertWord
assert_only_word StaticAssertWord e = refl
assert_only_word _ e = absurd (true≢false (sym e))

assert_only : (k : TokenKind) → is_assert_word k ≡ true → k ≡ IsKeyword StaticAssertWord
assert_only (IsKeyword w) e = assert_only_word w e
assert_only _ e = absurd (true≢false (sym e))

pub assert_tells : Tells is_assert_word (IsKeyword StaticAssertWord)
assert_tells = record { is = assert_only; true_of = refl }

-- identifiers and literals

name_only : (k : TokenKind) (n : NameId) → name_kind k ≡ Some n → k ≡ IsName n
name_only (IsName m) n e = ap IsName (some_is e)
name_only _ n e = absurd (none_is_no e)

pub a_name_is : (u : Lexeme) (n : NameId) → a_name u ≡ Some n → u ≡ named n
a_name_is u n e = let r = plain_is name_kind u n e in r.0 ∙ ap bare (name_only u.kind n r.1)

pub an_identifier_is : (ds : List Scope) (u : Lexeme) (n : NameId) → an_identifier ds u ≡ Some n → (u ≡ named n) × (is_type ds n ≡ false)
an_identifier_is ds u n e = let r = fitting_is (λ m. not (is_type ds m)) (a_name u) n e in (a_name_is u n r.0, not_true (is_type ds n) r.1)

literal_only : (k : TokenKind) → is_literal k ≡ true → k ≡ IsLiteral
literal_only IsLiteral e = refl
literal_only _ e = absurd (true≢false (sym e))

pub a_literal_is : (u : Lexeme) (t : List ℕ) → a_literal u ≡ Some t → u ≡ literal t
a_literal_is u t e = let r = if_so_is (is_literal u.kind) u.value t e in
    ap (λ k. record { kind = k; value = u.value }) (literal_only u.kind r.0) ∙ ap (λ v. record { kind = IsLiteral; value = v }) r.1

-- first tokens of expressions

abbrev pub start_lexeme : Start → List ℕ → Lexeme
start_lexeme (NameStart n) text = named n
start_lexeme IntegerStart text = integer text
start_lexeme CharacterStart text = character text
start_lexeme LiteralStart text = literal text
start_lexeme ParenthesisStart text = sign LeftParen
start_lexeme (StepStart op) text = sign (step_sign op)
start_lexeme (UnaryStart op) text = sign (unary_sign op)
start_lexeme SizeofStart text = word SizeofWord
start_lexeme AlignofStart text = word AlignofWord

-- what is told of a first token: a name is no typedef name, and constants and literals alone have a text
abbrev pub StartIs : List Scope → Start → List ℕ → Type 0
StartIs ds (NameStart n) text = (is_type ds n ≡ false) × (text ≡ [])
StartIs ds IntegerStart text = Unit {0}
StartIs ds CharacterStart text = Unit {0}
StartIs ds LiteralStart text = Unit {0}
StartIs ds ParenthesisStart text = text ≡ []
StartIs ds (StepStart op) text = text ≡ []
StartIs ds (UnaryStart op) text = text ≡ []
StartIs ds SizeofStart text = text ≡ []
StartIs ds AlignofStart text = text ≡ []

abbrev Started : List Scope → Start → List ℕ → TokenKind → Type 0
Started ds s text k = (record { kind = k; value = text } ≡ start_lexeme s text) × StartIs ds s text

started : (ds : List Scope) (s t : Start) (k : TokenKind) → ◌≡◌ {A = Option Start} (Some s) (Some t) → Started ds s [] k → Started ds t [] k
started ds s t k e h = subst (λ r. Started ds r [] k) (some_is e) h

sign_started : (ds : List Scope) (p : Punctuator) (s : Start) → step_sign_kind p ≡ Some s → Started ds s [] (IsPunctuator p)
sign_started ds LeftParen s e = started ds ParenthesisStart s (IsPunctuator LeftParen) e (refl, refl)
sign_started ds PlusPlus s e = started ds (StepStart Increment) s (IsPunctuator PlusPlus) e (refl, refl)
sign_started ds MinusMinus s e = started ds (StepStart Decrement) s (IsPunctuator MinusMinus) e (refl, refl)
sign_started ds Ampersand s e = started ds (UnaryStart Address) s (IsPunctuator Ampersand) e (refl, refl)
sign_started ds StarSign s e = started ds (UnaryStart Indirection) s (IsPunctuator StarSign) e (refl, refl)
sign_started ds Plus s e = started ds (UnaryStart PlusOp) s (IsPunctuator Plus) e (refl, refl)
sign_started ds Minus s e = started ds (UnaryStart MinusOp) s (IsPunctuator Minus) e (refl, refl)
sign_started ds Tilde s e = started ds (UnaryStart Complement) s (IsPunctuator Tilde) e (refl, refl)
sign_started ds Exclamation s e = started ds (UnaryStart Not) s (IsPunctuator Exclamation) e (refl, refl)
sign_started ds _ s e = absurd (none_is_no e)

word_started : (ds : List Scope) (w : Keyword) (s : Start) → start_word_kind w ≡ Some s → Started ds s [] (IsKeyword w)
word_started ds SizeofWord s e = started ds SizeofStart s (IsKeyword SizeofWord) e (refl, refl)
word_started ds AlignofWord s e = started ds AlignofStart s (IsKeyword AlignofWord) e (refl, refl)
word_started ds _ s e = absurd (none_is_no e)

bare_started : (ds : List Scope) (k : TokenKind) (s : Start) → has_text k ≡ false → start_kind ds k ≡ Some s → Started ds s [] k
bare_started ds (IsName n) s no_text e = let r = if_so_is (not (is_type ds n)) (NameStart n) s e in subst (λ t. Started ds t [] (IsName n)) r.1 (refl, (not_true (is_type ds n) r.0, refl))
bare_started ds (IsKeyword w) s no_text e = word_started ds w s e
bare_started ds IsInteger s no_text e = absurd (true≢false no_text)
bare_started ds IsCharacter s no_text e = absurd (true≢false no_text)
bare_started ds IsLiteral s no_text e = absurd (true≢false no_text)
bare_started ds (IsPunctuator p) s no_text e = sign_started ds p s e

text_started : (ds : List Scope) (k : TokenKind) (text : List ℕ) (s : Start) → has_text k ≡ true → start_kind ds k ≡ Some s → Started ds s text k
text_started ds IsInteger text s some e = subst (λ t. Started ds t text IsInteger) (some_is e) (refl, tt)
text_started ds IsCharacter text s some e = subst (λ t. Started ds t text IsCharacter) (some_is e) (refl, tt)
text_started ds IsLiteral text s some e = subst (λ t. Started ds t text IsLiteral) (some_is e) (refl, tt)
text_started ds _ text s some e = absurd (true≢false (sym some))

kind_started : (ds : List Scope) (k : TokenKind) (text : List ℕ) (s : Start) (b : Bool) → has_text k ≡ b → (b || is_empty text) ≡ true → start_kind ds k ≡ Some s → Started ds s text k
kind_started ds k text s true b c e = text_started ds k text s b e
kind_started ds k [] s false b c e = bare_started ds k s b e
kind_started ds k (v ∷ vs) s false b c e = absurd (true≢false (sym c))

with_text_is : (text : List ℕ) (o : Option Start) (s : Start) (t : List ℕ) → with_text text o ≡ Some (s, t) → (o ≡ Some s) × (text ≡ t)
with_text_is text None s t e = absurd (none_is_no e)
with_text_is text (Some r) s t e = let same : ◌≡◌ {A = Start × List ℕ} (r, text) (s, t) = some_is e in (ap (λ x. Some x.0) same, ap (λ x. x.1) same)

if_none : {A : Type 0} (b : Bool) (o : Option A) (a : A) → (if b then o else None) ≡ Some a → (b ≡ true) × (o ≡ Some a)
if_none true o a e = (refl, e)
if_none false o a e = absurd (none_is_no e)

pub start_is : (h : ℕ) (level : Level) (ds : List Scope) (u : Lexeme) (s : Start) (text : List ℕ) → start_of h level ds u ≡ Some (s, text) → (u ≡ start_lexeme s text) × StartIs ds s text × (start_fits h level s ≡ true)
start_is h level ds u s text e =
    let r = with_text_is u.value (if has_text u.kind || is_empty u.value then fitting (start_fits h level) (start_kind ds u.kind) else None) s text e in
    let c = if_none (has_text u.kind || is_empty u.value) (fitting (start_fits h level) (start_kind ds u.kind)) s r.0 in
    let f = fitting_is (start_fits h level) (start_kind ds u.kind) s c.1 in
    let k = kind_started ds u.kind u.value s (has_text u.kind) refl c.0 f.0 in
    (k.0 ∙ ap (start_lexeme s) r.1, subst (StartIs ds s) r.1 k.1, f.1)

step_starts : (ds : List Scope) (op : StepOp) → start_kind ds (IsPunctuator (step_sign op)) ≡ Some (StepStart op)
step_starts ds op = elim op as (λ o. start_kind ds (IsPunctuator (step_sign o)) ≡ Some (StepStart o)) [ Increment ↦ refl | _ ↦ refl ]

unary_starts : (ds : List Scope) (op : UnaryOp) → start_kind ds (IsPunctuator (unary_sign op)) ≡ Some (UnaryStart op)
unary_starts ds op = elim op as (λ o. start_kind ds (IsPunctuator (unary_sign o)) ≡ Some (UnaryStart o)) [ Address ↦ refl | _ ↦ refl ]

pub is_start : (h : ℕ) (level : Level) (ds : List Scope) (s : Start) (text : List ℕ) → StartIs ds s text → start_fits h level s ≡ true → start_of h level ds (start_lexeme s text) ≡ Some (s, text)
is_start h level ds (NameStart n) text i f = rw (i.0, f, i.1) refl
is_start h level ds IntegerStart text i f = rw f refl
is_start h level ds CharacterStart text i f = rw f refl
is_start h level ds LiteralStart text i f = rw f refl
is_start h level ds ParenthesisStart text i f = rw (f, i) refl
is_start h level ds (StepStart op) text i f = rw (step_starts ds op, f, i) refl
is_start h level ds (UnaryStart op) text i f = rw (unary_starts ds op, f, i) refl
is_start h level ds SizeofStart text i f = rw (f, i) refl
is_start h level ds AlignofStart text i f = rw (f, i) refl

-- operators

abbrev pub joint_text : Joint → List Lexeme
joint_text (Arithmetically op) = sign (binary_sign op) ∷ []
joint_text (Logically op) = sign (logical_sign op) ∷ []
joint_text (Assigning op) = spell_assign (assign_sign op)
joint_text InSequence = sign CommaSign ∷ []

abbrev pub operator_text : Operator → List Lexeme
operator_text ToIndex = sign LeftBracket ∷ []
operator_text ToCall = sign LeftParen ∷ []
operator_text ToMember = sign Dot ∷ []
operator_text ToArrow = sign ArrowSign ∷ []
operator_text (ToStep op) = sign (step_sign op) ∷ []
operator_text ToChoose = sign Question ∷ []
operator_text (ToJoin j) = joint_text j

abbrev pub joint_valid : Joint → Bool
joint_valid (Arithmetically op) = true
joint_valid (Logically op) = true
joint_valid (Assigning op) = is_assign_op op
joint_valid InSequence = true

abbrev pub operator_valid : Operator → Bool
operator_valid (ToJoin j) = joint_valid j
operator_valid _ = true

operator_told : (op other : Operator) (u : Lexeme) → ◌≡◌ {A = Option Operator} (Some op) (Some other) → operator_text op ≡ u ∷ [] → operator_valid op ≡ true → (operator_text other ≡ u ∷ []) × (operator_valid other ≡ true)
operator_told op other u e text valid = subst (λ o. (operator_text o ≡ u ∷ []) × (operator_valid o ≡ true)) (some_is e) (text, valid)

sign_operates : (p : Punctuator) (op : Operator) → operator_sign p ≡ Some op → (operator_text op ≡ sign p ∷ []) × (operator_valid op ≡ true)
sign_operates LeftBracket op e = operator_told ToIndex op (sign LeftBracket) e refl refl
sign_operates LeftParen op e = operator_told ToCall op (sign LeftParen) e refl refl
sign_operates Dot op e = operator_told ToMember op (sign Dot) e refl refl
sign_operates ArrowSign op e = operator_told ToArrow op (sign ArrowSign) e refl refl
sign_operates PlusPlus op e = operator_told (ToStep Increment) op (sign PlusPlus) e refl refl
sign_operates MinusMinus op e = operator_told (ToStep Decrement) op (sign MinusMinus) e refl refl
sign_operates StarSign op e = operator_told (ToJoin (Arithmetically Mul)) op (sign StarSign) e refl refl
sign_operates Slash op e = operator_told (ToJoin (Arithmetically Div)) op (sign Slash) e refl refl
sign_operates Percent op e = operator_told (ToJoin (Arithmetically Rem)) op (sign Percent) e refl refl
sign_operates Plus op e = operator_told (ToJoin (Arithmetically Add)) op (sign Plus) e refl refl
sign_operates Minus op e = operator_told (ToJoin (Arithmetically Sub)) op (sign Minus) e refl refl
sign_operates LeftShift op e = operator_told (ToJoin (Arithmetically Shl)) op (sign LeftShift) e refl refl
sign_operates RightShift op e = operator_told (ToJoin (Arithmetically Shr)) op (sign RightShift) e refl refl
sign_operates Less op e = operator_told (ToJoin (Arithmetically Lt)) op (sign Less) e refl refl
sign_operates Greater op e = operator_told (ToJoin (Arithmetically Gt)) op (sign Greater) e refl refl
sign_operates LessEqual op e = operator_told (ToJoin (Arithmetically Le)) op (sign LessEqual) e refl refl
sign_operates GreaterEqual op e = operator_told (ToJoin (Arithmetically Ge)) op (sign GreaterEqual) e refl refl
sign_operates EqualEqual op e = operator_told (ToJoin (Arithmetically Eq)) op (sign EqualEqual) e refl refl
sign_operates ExclamationEqual op e = operator_told (ToJoin (Arithmetically Ne)) op (sign ExclamationEqual) e refl refl
sign_operates Ampersand op e = operator_told (ToJoin (Arithmetically And)) op (sign Ampersand) e refl refl
sign_operates Caret op e = operator_told (ToJoin (Arithmetically Xor)) op (sign Caret) e refl refl
sign_operates Bar op e = operator_told (ToJoin (Arithmetically Or)) op (sign Bar) e refl refl
sign_operates AmpersandAmpersand op e = operator_told (ToJoin (Logically BothOf)) op (sign AmpersandAmpersand) e refl refl
sign_operates BarBar op e = operator_told (ToJoin (Logically OneOf)) op (sign BarBar) e refl refl
sign_operates Question op e = operator_told ToChoose op (sign Question) e refl refl
sign_operates Equal op e = operator_told (ToJoin (Assigning None)) op (sign Equal) e refl refl
sign_operates StarEqual op e = operator_told (ToJoin (Assigning (Some Mul))) op (sign StarEqual) e refl refl
sign_operates SlashEqual op e = operator_told (ToJoin (Assigning (Some Div))) op (sign SlashEqual) e refl refl
sign_operates PercentEqual op e = operator_told (ToJoin (Assigning (Some Rem))) op (sign PercentEqual) e refl refl
sign_operates PlusEqual op e = operator_told (ToJoin (Assigning (Some Add))) op (sign PlusEqual) e refl refl
sign_operates MinusEqual op e = operator_told (ToJoin (Assigning (Some Sub))) op (sign MinusEqual) e refl refl
sign_operates LeftShiftEqual op e = operator_told (ToJoin (Assigning (Some Shl))) op (sign LeftShiftEqual) e refl refl
sign_operates RightShiftEqual op e = operator_told (ToJoin (Assigning (Some Shr))) op (sign RightShiftEqual) e refl refl
sign_operates AmpersandEqual op e = operator_told (ToJoin (Assigning (Some And))) op (sign AmpersandEqual) e refl refl
sign_operates CaretEqual op e = operator_told (ToJoin (Assigning (Some Xor))) op (sign CaretEqual) e refl refl
sign_operates BarEqual op e = operator_told (ToJoin (Assigning (Some Or))) op (sign BarEqual) e refl refl
sign_operates CommaSign op e = operator_told (ToJoin InSequence) op (sign CommaSign) e refl refl
sign_operates _ op e = absurd (none_is_no e)

kind_operates : (k : TokenKind) (op : Operator) → operator_kind k ≡ Some op → (operator_text op ≡ bare k ∷ []) × (operator_valid op ≡ true)
kind_operates (IsPunctuator p) op e = sign_operates p op e
kind_operates _ op e = absurd (none_is_no e)

-- the token is the operator's, and the operator fits
pub record Operates (h : ℕ) (level : Level) (e : ExprTree) (u : Lexeme) (op : Operator) : Type 0 where
  pub text : operator_text op ≡ u ∷ []
  pub valid : operator_valid op ≡ true
  pub kind : operator_kind u.kind ≡ Some op
  pub fits : operator_fits h level e op ≡ true

pub operator_is : (h : ℕ) (level : Level) (e : ExprTree) (u : Lexeme) (op : Operator) → operator_for h level e u ≡ Some op → Operates h level e u op
operator_is h level e u op is =
    let f = fitting_is (operator_fits h level e) (plain operator_kind u) op is in
    let p = plain_is operator_kind u op f.0 in
    let k = kind_operates u.kind op p.1 in
    record { text = k.0 ∙ ap (λ v. v ∷ []) (sym p.0); valid = k.1; kind = p.1; fits = f.1 }

arithmetic_operates : (op : BinOp) → operator_sign (binary_sign op) ≡ Some (ToJoin (Arithmetically op))
arithmetic_operates op = elim op as (λ o. operator_sign (binary_sign o) ≡ Some (ToJoin (Arithmetically o))) [ Mul ↦ refl | _ ↦ refl ]

logic_operates : (op : LogicalOp) → operator_sign (logical_sign op) ≡ Some (ToJoin (Logically op))
logic_operates op = elim op as (λ o. operator_sign (logical_sign o) ≡ Some (ToJoin (Logically o))) [ BothOf ↦ refl | _ ↦ refl ]

step_operates : (op : StepOp) → operator_sign (step_sign op) ≡ Some (ToStep op)
step_operates op = elim op as (λ o. operator_sign (step_sign o) ≡ Some (ToStep o)) [ Increment ↦ refl | _ ↦ refl ]

-- an operator has one token, by which it is known
pub record OneToken (op : Operator) : Type 0 where
  pub token : Punctuator
  pub text : operator_text op ≡ sign token ∷ []
  pub known : operator_sign token ≡ Some op

assign_token : (op : Option BinOp) → is_assign_op op ≡ true → OneToken (ToJoin (Assigning op))
assign_token None e = record { token = Equal; text = refl; known = refl }
assign_token (Some Mul) e = record { token = StarEqual; text = refl; known = refl }
assign_token (Some Div) e = record { token = SlashEqual; text = refl; known = refl }
assign_token (Some Rem) e = record { token = PercentEqual; text = refl; known = refl }
assign_token (Some Add) e = record { token = PlusEqual; text = refl; known = refl }
assign_token (Some Sub) e = record { token = MinusEqual; text = refl; known = refl }
assign_token (Some Shl) e = record { token = LeftShiftEqual; text = refl; known = refl }
assign_token (Some Shr) e = record { token = RightShiftEqual; text = refl; known = refl }
assign_token (Some And) e = record { token = AmpersandEqual; text = refl; known = refl }
assign_token (Some Xor) e = record { token = CaretEqual; text = refl; known = refl }
assign_token (Some Or) e = record { token = BarEqual; text = refl; known = refl }
assign_token (Some _) e = absurd (true≢false (sym e))

joint_token : (j : Joint) → joint_valid j ≡ true → OneToken (ToJoin j)
joint_token (Arithmetically op) e = record { token = binary_sign op; text = refl; known = arithmetic_operates op }
joint_token (Logically op) e = record { token = logical_sign op; text = refl; known = logic_operates op }
joint_token (Assigning op) e = assign_token op e
joint_token InSequence e = record { token = CommaSign; text = refl; known = refl }

pub one_token : (op : Operator) → operator_valid op ≡ true → OneToken op
one_token ToIndex e = record { token = LeftBracket; text = refl; known = refl }
one_token ToCall e = record { token = LeftParen; text = refl; known = refl }
one_token ToMember e = record { token = Dot; text = refl; known = refl }
one_token ToArrow e = record { token = ArrowSign; text = refl; known = refl }
one_token (ToStep op) e = record { token = step_sign op; text = refl; known = step_operates op }
one_token ToChoose e = record { token = Question; text = refl; known = refl }
one_token (ToJoin j) e = joint_token j e

pub is_operator : (h : ℕ) (level : Level) (e : ExprTree) (op : Operator) (t : OneToken op) → operator_fits h level e op ≡ true → operator_for h level e (sign t.token) ≡ Some op
is_operator h level e op t f = rw (t.known, f) refl

-- specifiers

abbrev pub piece_lexeme : Piece → Lexeme
piece_lexeme (StoragePiece w) = word (storage_word w)
piece_lexeme (BasicPiece w) = word (basic_word w)
piece_lexeme (QualifierPiece q) = word (qualifier_word q)
piece_lexeme (FunctionPiece w) = word (function_word w)
piece_lexeme (NamePiece n) = named n
piece_lexeme (StructPiece kind) = word (struct_word kind)
piece_lexeme EnumPiece = word EnumWord

-- a typedef name in scope, where no type specifier was read
abbrev pub PieceIs : Bool → List Scope → Piece → Type 0
PieceIs typed ds (NamePiece n) = (not typed && is_type ds n) ≡ true
PieceIs typed ds _ = Unit {0}

abbrev Pieced : Bool → List Scope → Piece → TokenKind → Type 0
Pieced typed ds p k = (bare k ≡ piece_lexeme p) × PieceIs typed ds p

pieced : (typed : Bool) (ds : List Scope) (p q : Piece) (k : TokenKind) → ◌≡◌ {A = Option Piece} (Some p) (Some q) → Pieced typed ds p k → Pieced typed ds q k
pieced typed ds p q k e h = subst (λ r. Pieced typed ds r k) (some_is e) h

word_pieced : (typed : Bool) (ds : List Scope) (w : Keyword) (p : Piece) → piece_word w ≡ Some p → Pieced typed ds p (IsKeyword w)
word_pieced typed ds TypedefWord p e = pieced typed ds (StoragePiece Typedef) p (IsKeyword TypedefWord) e (refl, tt)
word_pieced typed ds ExternWord p e = pieced typed ds (StoragePiece Extern) p (IsKeyword ExternWord) e (refl, tt)
word_pieced typed ds StaticWord p e = pieced typed ds (StoragePiece Static) p (IsKeyword StaticWord) e (refl, tt)
word_pieced typed ds AutoWord p e = pieced typed ds (StoragePiece Auto) p (IsKeyword AutoWord) e (refl, tt)
word_pieced typed ds RegisterWord p e = pieced typed ds (StoragePiece Register) p (IsKeyword RegisterWord) e (refl, tt)
word_pieced typed ds VoidWord p e = pieced typed ds (BasicPiece Void) p (IsKeyword VoidWord) e (refl, tt)
word_pieced typed ds CharWord p e = pieced typed ds (BasicPiece Char) p (IsKeyword CharWord) e (refl, tt)
word_pieced typed ds ShortWord p e = pieced typed ds (BasicPiece Short) p (IsKeyword ShortWord) e (refl, tt)
word_pieced typed ds IntWord p e = pieced typed ds (BasicPiece Int) p (IsKeyword IntWord) e (refl, tt)
word_pieced typed ds LongWord p e = pieced typed ds (BasicPiece Long) p (IsKeyword LongWord) e (refl, tt)
word_pieced typed ds SignedWord p e = pieced typed ds (BasicPiece Signed) p (IsKeyword SignedWord) e (refl, tt)
word_pieced typed ds UnsignedWord p e = pieced typed ds (BasicPiece Unsigned) p (IsKeyword UnsignedWord) e (refl, tt)
word_pieced typed ds BoolWord p e = pieced typed ds (BasicPiece Boolean) p (IsKeyword BoolWord) e (refl, tt)
word_pieced typed ds ConstWord p e = pieced typed ds (QualifierPiece Const) p (IsKeyword ConstWord) e (refl, tt)
word_pieced typed ds RestrictWord p e = pieced typed ds (QualifierPiece Restrict) p (IsKeyword RestrictWord) e (refl, tt)
word_pieced typed ds InlineWord p e = pieced typed ds (FunctionPiece Inline) p (IsKeyword InlineWord) e (refl, tt)
word_pieced typed ds NoreturnWord p e = pieced typed ds (FunctionPiece Noreturn) p (IsKeyword NoreturnWord) e (refl, tt)
word_pieced typed ds StructWord p e = pieced typed ds (StructPiece Struct) p (IsKeyword StructWord) e (refl, tt)
word_pieced typed ds UnionWord p e = pieced typed ds (StructPiece Union) p (IsKeyword UnionWord) e (refl, tt)
word_pieced typed ds EnumWord p e = pieced typed ds EnumPiece p (IsKeyword EnumWord) e (refl, tt)
word_pieced typed ds _ p e = absurd (none_is_no e)

kind_pieced : (typed : Bool) (ds : List Scope) (k : TokenKind) (p : Piece) → piece_kind typed ds k ≡ Some p → Pieced typed ds p k
kind_pieced typed ds (IsName n) p e = let r = if_so_is (not typed && is_type ds n) (NamePiece n) p e in subst (λ q. Pieced typed ds q (IsName n)) r.1 (refl, r.0)
kind_pieced typed ds (IsKeyword w) p e = word_pieced typed ds w p e
kind_pieced typed ds IsInteger p e = absurd (none_is_no e)
kind_pieced typed ds IsCharacter p e = absurd (none_is_no e)
kind_pieced typed ds IsLiteral p e = absurd (none_is_no e)
kind_pieced typed ds (IsPunctuator s) p e = absurd (none_is_no e)

-- the token is the piece's, and the piece fits
pub record Pieces (h : ℕ) (form : SpecifierForm) (typed : Bool) (ds : List Scope) (u : Lexeme) (p : Piece) : Type 0 where
  pub text : u ≡ piece_lexeme p
  pub is : PieceIs typed ds p
  pub kind : piece_kind typed ds u.kind ≡ Some p
  pub fits : piece_fits h form p ≡ true

pub piece_is : (h : ℕ) (form : SpecifierForm) (typed : Bool) (ds : List Scope) (u : Lexeme) (p : Piece) → piece_for h form typed ds u ≡ Some p → Pieces h form typed ds u p
piece_is h form typed ds u p e =
    let f = fitting_is (piece_fits h form) (plain (piece_kind typed ds) u) p e in
    let r = plain_is (piece_kind typed ds) u p f.0 in
    let k = kind_pieced typed ds u.kind p r.1 in
    record { text = r.0 ∙ k.0; is = k.1; kind = r.1; fits = f.1 }

storage_pieces : (w : StorageClass) → piece_word (storage_word w) ≡ Some (StoragePiece w)
storage_pieces w = elim w as (λ o. piece_word (storage_word o) ≡ Some (StoragePiece o)) [ Typedef ↦ refl | _ ↦ refl ]

basic_pieces : (w : BasicType) → piece_word (basic_word w) ≡ Some (BasicPiece w)
basic_pieces w = elim w as (λ o. piece_word (basic_word o) ≡ Some (BasicPiece o)) [ Void ↦ refl | _ ↦ refl ]

qualifier_pieces : (w : Qualifier) → piece_word (qualifier_word w) ≡ Some (QualifierPiece w)
qualifier_pieces w = elim w as (λ o. piece_word (qualifier_word o) ≡ Some (QualifierPiece o)) [ Const ↦ refl | _ ↦ refl ]

function_pieces : (w : FunctionSpecifier) → piece_word (function_word w) ≡ Some (FunctionPiece w)
function_pieces w = elim w as (λ o. piece_word (function_word o) ≡ Some (FunctionPiece o)) [ Inline ↦ refl | _ ↦ refl ]

struct_pieces : (w : StructKind) → piece_word (struct_word w) ≡ Some (StructPiece w)
struct_pieces w = elim w as (λ o. piece_word (struct_word o) ≡ Some (StructPiece o)) [ Struct ↦ refl | _ ↦ refl ]

pub lexeme_pieces : (typed : Bool) (ds : List Scope) (p : Piece) → PieceIs typed ds p → plain (piece_kind typed ds) (piece_lexeme p) ≡ Some p
lexeme_pieces typed ds (StoragePiece w) i = storage_pieces w
lexeme_pieces typed ds (BasicPiece w) i = basic_pieces w
lexeme_pieces typed ds (QualifierPiece w) i = qualifier_pieces w
lexeme_pieces typed ds (FunctionPiece w) i = function_pieces w
lexeme_pieces typed ds (NamePiece n) i = rw i refl
lexeme_pieces typed ds (StructPiece w) i = struct_pieces w
lexeme_pieces typed ds EnumPiece i = refl

pub is_piece : (h : ℕ) (form : SpecifierForm) (typed : Bool) (ds : List Scope) (p : Piece) → PieceIs typed ds p → piece_fits h form p ≡ true → piece_for h form typed ds (piece_lexeme p) ≡ Some p
is_piece h form typed ds p i f = rw (lexeme_pieces typed ds p i) (fitted (piece_fits h form) p f)

-- qualifiers

qualifier_only_word : (w : Keyword) (q : Qualifier) → qualifier_word_kind w ≡ Some q → IsKeyword w ≡ IsKeyword (qualifier_word q)
qualifier_only_word ConstWord q e = ap (λ r. IsKeyword (qualifier_word r)) (some_is e)
qualifier_only_word RestrictWord q e = ap (λ r. IsKeyword (qualifier_word r)) (some_is e)
qualifier_only_word _ q e = absurd (none_is_no e)

qualifier_only : (k : TokenKind) (q : Qualifier) → qualifier_kind k ≡ Some q → k ≡ IsKeyword (qualifier_word q)
qualifier_only (IsKeyword w) q e = qualifier_only_word w q e
qualifier_only _ q e = absurd (none_is_no e)

pub a_qualifier_is : (u : Lexeme) (q : Qualifier) → a_qualifier u ≡ Some q → u ≡ word (qualifier_word q)
a_qualifier_is u q e = let r = plain_is qualifier_kind u q e in r.0 ∙ ap bare (qualifier_only u.kind q r.1)

pub is_a_qualifier : (q : Qualifier) → a_qualifier (word (qualifier_word q)) ≡ Some q
is_a_qualifier q = elim q as (λ r. a_qualifier (word (qualifier_word r)) ≡ Some r) [ Const ↦ refl | _ ↦ refl ]

-- derivations and designators

abbrev pub derivation_text : Derivation → Lexeme
derivation_text ArrayOf = sign LeftBracket
derivation_text FunctionOf = sign LeftParen

derivation_only_sign : (p : Punctuator) (k : Derivation) → derivation_sign p ≡ Some k → sign p ≡ derivation_text k
derivation_only_sign LeftBracket k e = ap derivation_text (some_is e)
derivation_only_sign LeftParen k e = ap derivation_text (some_is e)
derivation_only_sign _ k e = absurd (none_is_no e)

derivation_only : (j : TokenKind) (k : Derivation) → derivation_kind j ≡ Some k → bare j ≡ derivation_text k
derivation_only (IsPunctuator p) k e = derivation_only_sign p k e
derivation_only _ k e = absurd (none_is_no e)

pub derivation_is : (h : ℕ) (d : DeclaratorTree) (u : Lexeme) (k : Derivation) → derivation_for h d u ≡ Some k → (u ≡ derivation_text k) × (declarator_height d < h)
derivation_is h d u k e =
    let f = fitting_is (λ k. nat_lt (declarator_height d) h) (plain derivation_kind u) k e in
    let r = plain_is derivation_kind u k f.0 in
    (r.0 ∙ derivation_only u.kind k r.1, lt_true (declarator_height d) h f.1)

pub is_derivation : (h : ℕ) (d : DeclaratorTree) (k : Derivation) → declarator_height d < h → derivation_for h d (derivation_text k) ≡ Some k
is_derivation h d ArrayOf low = rw (true_lt (declarator_height d) h low) refl
is_derivation h d FunctionOf low = rw (true_lt (declarator_height d) h low) refl

abbrev pub designation_text : Designation → Lexeme
designation_text ByIndex = sign LeftBracket
designation_text ByMember = sign Dot

designation_only_sign : (p : Punctuator) (k : Designation) → designation_sign p ≡ Some k → sign p ≡ designation_text k
designation_only_sign LeftBracket k e = ap designation_text (some_is e)
designation_only_sign Dot k e = ap designation_text (some_is e)
designation_only_sign _ k e = absurd (none_is_no e)

designation_only : (j : TokenKind) (k : Designation) → designation_kind j ≡ Some k → bare j ≡ designation_text k
designation_only (IsPunctuator p) k e = designation_only_sign p k e
designation_only _ k e = absurd (none_is_no e)

pub a_designation_is : (u : Lexeme) (k : Designation) → a_designation u ≡ Some k → u ≡ designation_text k
a_designation_is u k e = let r = plain_is designation_kind u k e in r.0 ∙ designation_only u.kind k r.1
