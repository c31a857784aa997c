-- Device: the first tokens of trees.
use Rattle.std.proofs.Common.{◌≡◌, refl, sym, ap, ◌∙◌, ℕ, Bool, true, false, not, List, [], ◌∷◌, ◌++◌, Option, Some, None, append_assoc, true≢false}
use Rattle.cil_base.specs.declared.numbers.NameId.{NameId}
use Rattle.cil_base.specs.declared.tokens.TokenKind.{TokenKind}
use Rattle.cil_base.specs.declared.tokens.TokenKind.TheVariants.{Name as IsName, Keyword as IsKeyword, Integer as IsInteger, Character as IsCharacter, Literal as IsLiteral, Punctuator as IsPunctuator}
use Rattle.cil_base.specs.declared.tokens.Keyword.{Keyword}
use Rattle.cil_base.specs.declared.tokens.Keyword.TheVariants.{Sizeof as SizeofWord, Alignof as AlignofWord}
use Rattle.cil_base.specs.declared.tokens.Punctuator.{Punctuator}
use Rattle.cil_base.specs.declared.tokens.Punctuator.TheVariants.{LeftBracket, LeftParen, Star as StarSign}
use Rattle.typedef_scopes.specs.Scopes.{Scope, is_type}
use Rattle.c_tree.specs.declared.words.StorageClass.{StorageClass}
use Rattle.c_tree.specs.declared.words.StorageClass.TheVariants.{Typedef}
use Rattle.c_tree.specs.declared.words.BasicType.{BasicType}
use Rattle.c_tree.specs.declared.words.BasicType.TheVariants.{Void}
use Rattle.c_tree.specs.declared.words.Qualifier.{Qualifier}
use Rattle.c_tree.specs.declared.words.Qualifier.TheVariants.{Const}
use Rattle.c_tree.specs.declared.words.FunctionSpecifier.{FunctionSpecifier}
use Rattle.c_tree.specs.declared.words.FunctionSpecifier.TheVariants.{Inline}
use Rattle.c_tree.specs.declared.words.StructKind.{StructKind}
use Rattle.c_tree.specs.declared.words.StructKind.TheVariants.{Struct}
use Rattle.c_tree.specs.declared.words.TagKind.{TagKind}
use Rattle.c_tree.specs.declared.words.TagKind.TheVariants.{Struct as StructTag}
use Rattle.c_tree.specs.declared.words.StepOp.{StepOp}
use Rattle.c_tree.specs.declared.words.StepOp.TheVariants.{Increment}
use Rattle.c_tree.specs.declared.words.UnaryOp.{UnaryOp}
use Rattle.c_tree.specs.declared.words.UnaryOp.TheVariants.{Address}
use Rattle.c_tree.specs.Syntax.{ExprTree, Name, Integer, Character, Literals, Parentheses, Index, Call, Member, Arrow, Postfix, CompoundLiteral, Prefix, Unary, SizeofExpr, SizeofType, AlignofType, Cast, Binary, Logical, Conditional, Assign, Comma, SpecifierTree, Storage, Basic, Qualified, Functional, TypedefName, Tag, StructBody, EnumBody, SpecifierTrees, NoSpecifiers, MoreSpecifiers, DeclaratorTree, Declared, Absent, Grouped, Pointer, Array, Function, Unprototyped}
use Rattle.c_tree.specs.Spelling.{Lexeme, storage_word, basic_word, qualifier_word, function_word, struct_word, tag_word, step_sign, unary_sign, spell_expr, spell_exprs, spell_specifier, spell_specifiers, spell_declarator, spell_bound, spell_parameters, spell_names, spell_ellipsis, in_brackets, in_parens, with_commas}
use Rattle.c_tree.specs.Levels.{levelled, has_some, is_absent, declares, is_specifier_qualifier, are_specifier_qualifiers, has_specifier}
use Rattle.c_tree.specs.Scoped.{scoped_expr, scoped_specifier, scoped_specifiers, first_name}
use Rattle.c_exprs.specs.declared.words.Piece.TheVariants.{Name as NamePiece}
use Rattle.c_exprs.specs.declared.words.SpecifierForm.TheVariants.{TypeName as InTypeName}
use Rattle.c_cursor.specs.Readers.{head}
use Rattle.c_cursor.specs.Classes.{is_sign, next_is, fitting, if_so}
use Rattle.c_exprs.specs.Classes.{start_kind, step_sign_kind, start_word_kind, is_some_of, piece_word, piece_fits, begins_type_name}
use Rattle.c_exprs.proofs.Tokens.{both, sign_tells}

-- expressions

abbrev pub Starts : List Scope → Option Lexeme → Type 0
Starts ds o = next_is (λ k. is_some_of (start_kind ds k)) o ≡ true

step_starts : (ds : List Scope) (op : StepOp) → is_some_of (start_kind ds (IsPunctuator (step_sign op))) ≡ true
step_starts ds op = elim op as (λ o. is_some_of (start_kind ds (IsPunctuator (step_sign o))) ≡ true) [ Increment ↦ refl | _ ↦ refl ]

unary_starts : (ds : List Scope) (op : UnaryOp) → is_some_of (start_kind ds (IsPunctuator (unary_sign op))) ≡ true
unary_starts ds op = elim op as (λ o. is_some_of (start_kind ds (IsPunctuator (unary_sign o))) ≡ true) [ Address ↦ refl | _ ↦ refl ]

longer : (ds : List Scope) (a b rest : List Lexeme) → Starts ds (head (a ++ (b ++ rest))) → Starts ds (head ((a ++ b) ++ rest))
longer ds a b rest h = rw append_assoc h

literals_start : (ds : List Scope) (texts : List (List ℕ)) (rest : List Lexeme) → has_some texts ≡ true → Starts ds (head (spell_expr (Literals 0 texts) ++ rest))
literals_start ds [] rest h = absurd (true≢false (sym h))
literals_start ds (t ∷ ts) rest h = refl

pub expr_starts : (ds : List Scope) (e : ExprTree) (rest : List Lexeme) → levelled e ≡ true → scoped_expr ds e ≡ true → Starts ds (head (spell_expr e ++ rest))
expr_starts ds (Name at n) rest l s = rw s refl
expr_starts ds (Integer at text) rest l s = refl
expr_starts ds (Character at text) rest l s = refl
expr_starts ds (Literals at texts) rest l s = literals_start ds texts rest l
expr_starts ds (Parentheses at e) rest l s = refl
expr_starts ds (Index at e i) rest l s = longer ds (spell_expr e) (in_brackets (spell_expr i)) rest (expr_starts ds e (in_brackets (spell_expr i) ++ rest) (both _ _ (both _ _ l).1).0 (both _ _ s).0)
expr_starts ds (Call at e es) rest l s = longer ds (spell_expr e) (in_parens (with_commas (spell_exprs es))) rest (expr_starts ds e (in_parens (with_commas (spell_exprs es)) ++ rest) (both _ _ (both _ _ l).1).0 (both _ _ s).0)
expr_starts ds (Member at e n) rest l s = longer ds (spell_expr e) _ rest (expr_starts ds e _ (both _ _ l).1 s)
expr_starts ds (Arrow at e n) rest l s = longer ds (spell_expr e) _ rest (expr_starts ds e _ (both _ _ l).1 s)
expr_starts ds (Postfix at e op) rest l s = longer ds (spell_expr e) _ rest (expr_starts ds e _ (both _ _ l).1 s)
expr_starts ds (CompoundLiteral at t items comma) rest l s = refl
expr_starts ds (Prefix at op e) rest l s = step_starts ds op
expr_starts ds (Unary at op e) rest l s = unary_starts ds op
expr_starts ds (SizeofExpr at e) rest l s = refl
expr_starts ds (SizeofType at t) rest l s = refl
expr_starts ds (AlignofType at t) rest l s = refl
expr_starts ds (Cast at t e) rest l s = refl
expr_starts ds (Binary at op a b) rest l s = longer ds (spell_expr a) _ rest (expr_starts ds a _ (both _ _ (both _ _ l).0).1 (both _ _ s).0)
expr_starts ds (Logical at op a b) rest l s = longer ds (spell_expr a) _ rest (expr_starts ds a _ (both _ _ (both _ _ l).0).1 (both _ _ s).0)
expr_starts ds (Conditional at c a b) rest l s = longer ds (spell_expr c) _ rest (expr_starts ds c _ (both _ _ (both _ _ l).0).1 (both _ _ s).0)
expr_starts ds (Assign at op a b) rest l s = longer ds (spell_expr a) _ rest (expr_starts ds a _ (both _ _ (both _ _ (both _ _ l).0).1).1 (both _ _ s).0)
expr_starts ds (Comma at a b) rest l s = longer ds (spell_expr a) _ rest (expr_starts ds a _ (both _ _ l).0 (both _ _ s).0)

-- tokens of some class, against a test that none of that class passes

told_apart : (b : Bool) (c : Bool) → b ≡ true → (c ≡ true → b ≡ false) → c ≡ false
told_apart b true h apart = absurd (true≢false (sym h ∙ apart refl))
told_apart b false h apart = refl

pub apart : (is test : TokenKind → Bool) (o : Option Lexeme) → next_is is o ≡ true → ((k : TokenKind) → test k ≡ true → is k ≡ false) → next_is test o ≡ false
apart is test None h no_one = refl
apart is test (Some u) h no_one = told_apart (is u.kind) (test u.kind) h (no_one u.kind)

pub no_sign_starts : (ds : List Scope) (p : Punctuator) (o : Option Lexeme) → Starts ds o → is_some_of (step_sign_kind p) ≡ false → next_is (is_sign p) o ≡ false
no_sign_starts ds p o s none = apart (λ k. is_some_of (start_kind ds k)) (is_sign p) o s (λ k e. ap (λ j. is_some_of (start_kind ds j)) ((sign_tells p).is k e) ∙ none)

word_no_type : (w : Keyword) → is_some_of (fitting (piece_fits 1 InTypeName) (piece_word w)) ≡ true → is_some_of (start_word_kind w) ≡ false
word_no_type SizeofWord e = absurd (true≢false (sym e))
word_no_type AlignofWord e = absurd (true≢false (sym e))
word_no_type _ e = refl

name_no_type : (n : NameId) (b : Bool) → is_some_of (fitting (piece_fits 1 InTypeName) (if_so b (NamePiece n))) ≡ true → is_some_of (if_so (not b) n) ≡ false
name_no_type n true e = refl
name_no_type n false e = absurd (true≢false (sym e))

named_apart : {A : Type 0} (b : Bool) (a : A) (n : NameId) → is_some_of (if_so b n) ≡ false → is_some_of (if_so b a) ≡ false
named_apart true a n e = absurd (true≢false e)
named_apart false a n e = refl

no_type_start : (ds : List Scope) (k : TokenKind) → begins_type_name ds k ≡ true → is_some_of (start_kind ds k) ≡ false
no_type_start ds (IsName n) e = named_apart (not (is_type ds n)) _ n (name_no_type n (is_type ds n) e)
no_type_start ds (IsKeyword w) e = word_no_type w e
no_type_start ds IsInteger e = absurd (true≢false (sym e))
no_type_start ds IsCharacter e = absurd (true≢false (sym e))
no_type_start ds IsLiteral e = absurd (true≢false (sym e))
no_type_start ds (IsPunctuator p) e = absurd (true≢false (sym e))

-- an expression begins with no type name
pub no_type_starts : (ds : List Scope) (o : Option Lexeme) → Starts ds o → next_is (begins_type_name ds) o ≡ false
no_type_starts ds o s = apart (λ k. is_some_of (start_kind ds k)) (begins_type_name ds) o s (no_type_start ds)

-- specifiers

pub storage_begins : (w : StorageClass) → is_some_of (piece_word (storage_word w)) ≡ true
storage_begins w = elim w as (λ o. is_some_of (piece_word (storage_word o)) ≡ true) [ Typedef ↦ refl | _ ↦ refl ]

pub basic_begins : (w : BasicType) → is_some_of (fitting (piece_fits 1 InTypeName) (piece_word (basic_word w))) ≡ true
basic_begins w = elim w as (λ o. is_some_of (fitting (piece_fits 1 InTypeName) (piece_word (basic_word o))) ≡ true) [ Void ↦ refl | _ ↦ refl ]

pub qualifier_begins : (w : Qualifier) → is_some_of (fitting (piece_fits 1 InTypeName) (piece_word (qualifier_word w))) ≡ true
qualifier_begins w = elim w as (λ o. is_some_of (fitting (piece_fits 1 InTypeName) (piece_word (qualifier_word o))) ≡ true) [ Const ↦ refl | _ ↦ refl ]

pub function_begins : (w : FunctionSpecifier) → is_some_of (piece_word (function_word w)) ≡ true
function_begins w = elim w as (λ o. is_some_of (piece_word (function_word o)) ≡ true) [ Inline ↦ refl | _ ↦ refl ]

pub struct_begins : (w : StructKind) → is_some_of (fitting (piece_fits 1 InTypeName) (piece_word (struct_word w))) ≡ true
struct_begins w = elim w as (λ o. is_some_of (fitting (piece_fits 1 InTypeName) (piece_word (struct_word o))) ≡ true) [ Struct ↦ refl | _ ↦ refl ]

pub tag_begins : (w : TagKind) → is_some_of (fitting (piece_fits 1 InTypeName) (piece_word (tag_word w))) ≡ true
tag_begins w = elim w as (λ o. is_some_of (fitting (piece_fits 1 InTypeName) (piece_word (tag_word o))) ≡ true) [ StructTag ↦ refl | _ ↦ refl ]

specifier_begins : (ds : List Scope) (s : SpecifierTree) (rest : List Lexeme) → is_specifier_qualifier s ≡ true → scoped_specifier false ds s ≡ true → next_is (begins_type_name ds) (head (spell_specifier s ++ rest)) ≡ true
specifier_begins ds (Storage at w) rest q s = absurd (true≢false (sym q))
specifier_begins ds (Basic at w) rest q s = basic_begins w
specifier_begins ds (Qualified at w) rest q s = qualifier_begins w
specifier_begins ds (Functional at w) rest q s = absurd (true≢false (sym q))
specifier_begins ds (TypedefName at n) rest q s = rw s refl
specifier_begins ds (Tag at kind tag) rest q s = tag_begins kind
specifier_begins ds (StructBody at kind tag ms) rest q s = struct_begins kind
specifier_begins ds (EnumBody at tag es comma) rest q s = refl

pub type_begins : (ds : List Scope) (ss : SpecifierTrees) (rest : List Lexeme) → has_specifier ss ≡ true → are_specifier_qualifiers ss ≡ true → scoped_specifiers false ds ss ≡ true → next_is (begins_type_name ds) (head (spell_specifiers ss ++ rest)) ≡ true
type_begins ds NoSpecifiers rest some q s = absurd (true≢false (sym some))
type_begins ds (MoreSpecifiers x xs) rest some q s = rw append_assoc (specifier_begins ds x (spell_specifiers xs ++ rest) (both _ _ q).0 (both _ _ s).0)

-- declarators

pub record NoneOf (test : TokenKind → Bool) : Type 0 where
  pub star : test (IsPunctuator StarSign) ≡ false
  pub parenthesis : test (IsPunctuator LeftParen) ≡ false
  pub bracket : test (IsPunctuator LeftBracket) ≡ false

pub declarator_begins : (test : TokenKind → Bool) (none : NoneOf test) (d : DeclaratorTree) (rest : List Lexeme) → ((n : NameId) → first_name d ≡ Some n → test (IsName n) ≡ false) → (is_absent d ≡ true → next_is test (head rest) ≡ false) →
    next_is test (head (spell_declarator d ++ rest)) ≡ false
declarator_begins test none (Declared at n) rest name absent = name n refl
declarator_begins test none (Absent at) rest name absent = absent refl
declarator_begins test none (Grouped at d) rest name absent = none.parenthesis
declarator_begins test none (Pointer at qs d) rest name absent = none.star
declarator_begins test none (Array at d b) rest name absent = rw append_assoc (declarator_begins test none d (in_brackets (spell_bound b) ++ rest) name (λ e. none.bracket))
declarator_begins test none (Function at d ps variadic) rest name absent = rw append_assoc (declarator_begins test none d (in_parens (with_commas (spell_parameters ps) ++ spell_ellipsis variadic) ++ rest) name (λ e. none.parenthesis))
declarator_begins test none (Unprototyped at d names) rest name absent = rw append_assoc (declarator_begins test none d (in_parens (spell_names names) ++ rest) name (λ e. none.parenthesis))

pub nameless : (d : DeclaratorTree) → declares d ≡ false → first_name d ≡ None
nameless (Declared at n) e = absurd (true≢false e)
nameless (Absent at) e = refl
nameless (Grouped at d) e = refl
nameless (Pointer at qs d) e = refl
nameless (Array at d b) e = nameless d e
nameless (Function at d ps variadic) e = nameless d e
nameless (Unprototyped at d names) e = nameless d e
