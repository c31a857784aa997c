-- Definition: the tokens of a syntax tree (C11 Annex A), one case for each constructor.
use Rattle.std.specs.Prelude.{ℕ, Bool, true, false, List, [], ◌∷◌, ◌++◌, map, Option, Some, None}
use Rattle.cil_base.specs.declared.numbers.NameId.{NameId}
use Rattle.cil_base.specs.declared.operators.BinOp.{BinOp}
use Rattle.cil_base.specs.declared.operators.BinOp.TheVariants.{Mul, Div, Rem, Add, Sub, Shl, Shr, Lt, Gt, Le, Ge, Eq, Ne, And, Xor, Or}
use Rattle.cil_base.specs.declared.tokens.TokenKind.{TokenKind}
use Rattle.cil_base.specs.declared.tokens.TokenKind.TheVariants.{Name as IsName, Keyword as IsKeyword, Integer as IsInteger, Character as IsCharacter, Literal as IsLiteral, Punctuator as IsPunctuator}
use Rattle.cil_base.specs.declared.tokens.Keyword.{Keyword}
use Rattle.cil_base.specs.declared.tokens.Keyword.TheVariants.{Auto as AutoWord, Char as CharWord, Const as ConstWord, Enum as EnumWord, Extern as ExternWord, Inline as InlineWord, Int as IntWord, Long as LongWord, Register as RegisterWord, Restrict as RestrictWord, Short as ShortWord, Signed as SignedWord, Sizeof as SizeofWord, Static as StaticWord, Struct as StructWord, Typedef as TypedefWord, Union as UnionWord, Unsigned as UnsignedWord, Void as VoidWord, Alignof as AlignofWord, Bool as BoolWord, Noreturn as NoreturnWord, StaticAssert as StaticAssertWord}
use Rattle.cil_base.specs.declared.tokens.Punctuator.{Punctuator}
use Rattle.cil_base.specs.declared.tokens.Punctuator.TheVariants.{LeftBracket, RightBracket, LeftParen, RightParen, LeftBrace, RightBrace, Dot, Arrow as ArrowSign, PlusPlus, MinusMinus, Ampersand, Star as StarSign, Plus, Minus, Tilde, Exclamation, Slash, Percent, LeftShift, RightShift, Less, Greater, LessEqual, GreaterEqual, EqualEqual, ExclamationEqual, Caret, Bar, AmpersandAmpersand, BarBar, Question, Colon, Semicolon, Ellipsis, Equal, StarEqual, SlashEqual, PercentEqual, PlusEqual, MinusEqual, LeftShiftEqual, RightShiftEqual, AmpersandEqual, CaretEqual, BarEqual, Comma as CommaSign}
use Rattle.c_tree.specs.declared.words.StorageClass.{StorageClass}
use Rattle.c_tree.specs.declared.words.StorageClass.TheVariants.{Typedef, Extern, Static, Auto, Register}
use Rattle.c_tree.specs.declared.words.BasicType.{BasicType}
use Rattle.c_tree.specs.declared.words.BasicType.TheVariants.{Void, Char, Short, Int, Long, Signed, Unsigned, Bool as Boolean}
use Rattle.c_tree.specs.declared.words.Qualifier.{Qualifier}
use Rattle.c_tree.specs.declared.words.Qualifier.TheVariants.{Const, Restrict}
use Rattle.c_tree.specs.declared.words.FunctionSpecifier.{FunctionSpecifier}
use Rattle.c_tree.specs.declared.words.FunctionSpecifier.TheVariants.{Inline, Noreturn}
use Rattle.c_tree.specs.declared.words.StructKind.{StructKind}
use Rattle.c_tree.specs.declared.words.StructKind.TheVariants.{Struct, Union}
use Rattle.c_tree.specs.declared.words.TagKind.{TagKind}
use Rattle.c_tree.specs.declared.words.TagKind.TheVariants.{Struct as StructTag, Union as UnionTag, Enum as EnumTag}
use Rattle.c_tree.specs.declared.words.StepOp.{StepOp}
use Rattle.c_tree.specs.declared.words.StepOp.TheVariants.{Increment, Decrement}
use Rattle.c_tree.specs.declared.words.UnaryOp.{UnaryOp}
use Rattle.c_tree.specs.declared.words.UnaryOp.TheVariants.{Address, Indirection, Plus as PlusOp, Minus as MinusOp, Complement, Not}
use Rattle.c_tree.specs.declared.words.LogicalOp.{LogicalOp}
use Rattle.c_tree.specs.declared.words.LogicalOp.TheVariants.{And as BothOf, Or as OneOf}
use Rattle.c_tree.specs.Syntax.{ExprTree, Name, Integer, Character, Literals, Parentheses, Index, Call, Member, Arrow, Postfix, CompoundLiteral, Prefix, Unary, SizeofExpr, SizeofType, AlignofType, Cast, Binary, Logical, Conditional, Assign, Comma, ExprTrees, NoExprs, MoreExprs, TypeNameTree, TypeName, SpecifierTree, Storage, Basic, Qualified, Functional, TypedefName, Tag, StructBody, EnumBody, SpecifierTrees, NoSpecifiers, MoreSpecifiers, MemberTree, MemberLine, MemberAssert, MemberTrees, NoMembers, MoreMembers, MemberDeclaratorTree, Plain, BitField, MemberDeclaratorTrees, NoMemberDeclarators, MoreMemberDeclarators, EnumeratorTree, Enumerates, EnumeratorTrees, NoEnumerators, MoreEnumerators, MaybeExpr, NoExpr, SomeExpr, DeclaratorTree, Declared, Absent, Grouped, Pointer, Array, Function, Unprototyped, BoundTree, Unspecified, Star, Size, StaticSize, SizeStatic, ParameterTree, Parameter, ParameterTrees, NoParameters, MoreParameters, InitTree, Single, Braces, ItemTree, Item, ItemTrees, NoItems, MoreItems, DesignatorTree, AtIndex, AtMember, DesignatorTrees, NoDesignators, MoreDesignators}

-- a token as the grammar compares it: its kind and, of a constant or literal alone, its text
pub record Lexeme : Type 0 where
  pub kind : TokenKind
  pub value : List ℕ

abbrev pub word : Keyword → Lexeme
word k = record { kind = IsKeyword k; value = [] }

abbrev pub sign : Punctuator → Lexeme
sign p = record { kind = IsPunctuator p; value = [] }

abbrev pub named : NameId → Lexeme
named n = record { kind = IsName n; value = [] }

abbrev pub integer : List ℕ → Lexeme
integer text = record { kind = IsInteger; value = text }

abbrev pub character : List ℕ → Lexeme
character text = record { kind = IsCharacter; value = text }

abbrev pub literal : List ℕ → Lexeme
literal text = record { kind = IsLiteral; value = text }

-- the keyword of each specifier that is one word (6.7.1 to 6.7.4)
abbrev pub storage_word : StorageClass → Keyword
storage_word Typedef = TypedefWord
storage_word Extern = ExternWord
storage_word Static = StaticWord
storage_word Auto = AutoWord
storage_word Register = RegisterWord

abbrev pub basic_word : BasicType → Keyword
basic_word Void = VoidWord
basic_word Char = CharWord
basic_word Short = ShortWord
basic_word Int = IntWord
basic_word Long = LongWord
basic_word Signed = SignedWord
basic_word Unsigned = UnsignedWord
basic_word Boolean = BoolWord

abbrev pub qualifier_word : Qualifier → Keyword
qualifier_word Const = ConstWord
qualifier_word Restrict = RestrictWord

abbrev pub function_word : FunctionSpecifier → Keyword
function_word Inline = InlineWord
function_word Noreturn = NoreturnWord

abbrev pub struct_word : StructKind → Keyword
struct_word Struct = StructWord
struct_word Union = UnionWord

abbrev pub tag_word : TagKind → Keyword
tag_word StructTag = StructWord
tag_word UnionTag = UnionWord
tag_word EnumTag = EnumWord

-- the punctuator of each operator (6.5)
abbrev pub step_sign : StepOp → Punctuator
step_sign Increment = PlusPlus
step_sign Decrement = MinusMinus

abbrev pub unary_sign : UnaryOp → Punctuator
unary_sign Address = Ampersand
unary_sign Indirection = StarSign
unary_sign PlusOp = Plus
unary_sign MinusOp = Minus
unary_sign Complement = Tilde
unary_sign Not = Exclamation

abbrev pub binary_sign : BinOp → Punctuator
binary_sign Mul = StarSign
binary_sign Div = Slash
binary_sign Rem = Percent
binary_sign Add = Plus
binary_sign Sub = Minus
binary_sign Shl = LeftShift
binary_sign Shr = RightShift
binary_sign Lt = Less
binary_sign Gt = Greater
binary_sign Le = LessEqual
binary_sign Ge = GreaterEqual
binary_sign Eq = EqualEqual
binary_sign Ne = ExclamationEqual
binary_sign And = Ampersand
binary_sign Xor = Caret
binary_sign Or = Bar

abbrev pub logical_sign : LogicalOp → Punctuator
logical_sign BothOf = AmpersandAmpersand
logical_sign OneOf = BarBar

-- assignment operators (6.5.16); comparisons have none
abbrev pub assign_sign : Option BinOp → Option Punctuator
assign_sign None = Some Equal
assign_sign (Some Mul) = Some StarEqual
assign_sign (Some Div) = Some SlashEqual
assign_sign (Some Rem) = Some PercentEqual
assign_sign (Some Add) = Some PlusEqual
assign_sign (Some Sub) = Some MinusEqual
assign_sign (Some Shl) = Some LeftShiftEqual
assign_sign (Some Shr) = Some RightShiftEqual
assign_sign (Some And) = Some AmpersandEqual
assign_sign (Some Xor) = Some CaretEqual
assign_sign (Some Or) = Some BarEqual
assign_sign (Some Lt) = None
assign_sign (Some Gt) = None
assign_sign (Some Le) = None
assign_sign (Some Ge) = None
assign_sign (Some Eq) = None
assign_sign (Some Ne) = None

-- pieces with a comma before each
abbrev pub behind_commas : List (List Lexeme) → List Lexeme
behind_commas [] = []
behind_commas (p ∷ ps) = sign CommaSign ∷ (p ++ behind_commas ps)

-- pieces with commas between them
abbrev pub with_commas : List (List Lexeme) → List Lexeme
with_commas [] = []
with_commas (p ∷ ps) = p ++ behind_commas ps

-- a comma behind the last piece, where there is one
abbrev pub last_comma : Bool → List Lexeme
last_comma true = sign CommaSign ∷ []
last_comma false = []

-- `, ...` behind the parameters of a variadic function (6.7.6.3)
abbrev pub spell_ellipsis : Bool → List Lexeme
spell_ellipsis true = sign CommaSign ∷ sign Ellipsis ∷ []
spell_ellipsis false = []

abbrev pub spell_qualifiers : List Qualifier → List Lexeme
spell_qualifiers qs = map (λ q. word (qualifier_word q)) qs

abbrev pub spell_literals : List (List ℕ) → List Lexeme
spell_literals texts = map literal texts

abbrev pub spell_names : List NameId → List Lexeme
spell_names names = with_commas (map (λ n. named n ∷ []) names)

abbrev pub spell_tag : Option NameId → List Lexeme
spell_tag None = []
spell_tag (Some tag) = named tag ∷ []

abbrev pub in_parens : List Lexeme → List Lexeme
in_parens inner = sign LeftParen ∷ (inner ++ sign RightParen ∷ [])

abbrev pub in_brackets : List Lexeme → List Lexeme
in_brackets inner = sign LeftBracket ∷ (inner ++ sign RightBracket ∷ [])

abbrev pub in_braces : List Lexeme → List Lexeme
in_braces inner = sign LeftBrace ∷ (inner ++ sign RightBrace ∷ [])

abbrev pub spell_assign : Option Punctuator → List Lexeme
spell_assign None = []
spell_assign (Some p) = sign p ∷ []

-- `_Static_assert ( condition , message ) ;`
abbrev pub spell_assert : List Lexeme → List (List ℕ) → List Lexeme
spell_assert condition message = word StaticAssertWord ∷ (in_parens (condition ++ (sign CommaSign ∷ spell_literals message)) ++ sign Semicolon ∷ [])

abbrev mutual
  pub spell_expr : ExprTree → List Lexeme
  spell_expr (Name at n) = named n ∷ []
  spell_expr (Integer at text) = integer text ∷ []
  spell_expr (Character at text) = character text ∷ []
  spell_expr (Literals at texts) = spell_literals texts
  spell_expr (Parentheses at e) = in_parens (spell_expr e)
  spell_expr (Index at e i) = spell_expr e ++ in_brackets (spell_expr i)
  spell_expr (Call at e es) = spell_expr e ++ in_parens (with_commas (spell_exprs es))
  spell_expr (Member at e n) = spell_expr e ++ (sign Dot ∷ named n ∷ [])
  spell_expr (Arrow at e n) = spell_expr e ++ (sign ArrowSign ∷ named n ∷ [])
  spell_expr (Postfix at e op) = spell_expr e ++ (sign (step_sign op) ∷ [])
  spell_expr (CompoundLiteral at t items comma) = in_parens (spell_type_name t) ++ in_braces (with_commas (spell_items items) ++ last_comma comma)
  spell_expr (Prefix at op e) = sign (step_sign op) ∷ spell_expr e
  spell_expr (Unary at op e) = sign (unary_sign op) ∷ spell_expr e
  spell_expr (SizeofExpr at e) = word SizeofWord ∷ spell_expr e
  spell_expr (SizeofType at t) = word SizeofWord ∷ in_parens (spell_type_name t)
  spell_expr (AlignofType at t) = word AlignofWord ∷ in_parens (spell_type_name t)
  spell_expr (Cast at t e) = in_parens (spell_type_name t) ++ spell_expr e
  spell_expr (Binary at op l r) = spell_expr l ++ (sign (binary_sign op) ∷ spell_expr r)
  spell_expr (Logical at op l r) = spell_expr l ++ (sign (logical_sign op) ∷ spell_expr r)
  spell_expr (Conditional at c a b) = spell_expr c ++ (sign Question ∷ (spell_expr a ++ (sign Colon ∷ spell_expr b)))
  spell_expr (Assign at op l r) = spell_expr l ++ (spell_assign (assign_sign op) ++ spell_expr r)
  spell_expr (Comma at l r) = spell_expr l ++ (sign CommaSign ∷ spell_expr r)

  -- the spelling of each
  pub spell_exprs : ExprTrees → List (List Lexeme)
  spell_exprs NoExprs = []
  spell_exprs (MoreExprs e es) = spell_expr e ∷ spell_exprs es

  pub spell_type_name : TypeNameTree → List Lexeme
  spell_type_name (TypeName ss d) = spell_specifiers ss ++ spell_declarator d

  pub spell_specifier : SpecifierTree → List Lexeme
  spell_specifier (Storage at w) = word (storage_word w) ∷ []
  spell_specifier (Basic at w) = word (basic_word w) ∷ []
  spell_specifier (Qualified at w) = word (qualifier_word w) ∷ []
  spell_specifier (Functional at w) = word (function_word w) ∷ []
  spell_specifier (TypedefName at n) = named n ∷ []
  spell_specifier (Tag at kind tag) = word (tag_word kind) ∷ named tag ∷ []
  spell_specifier (StructBody at kind tag members) = word (struct_word kind) ∷ (spell_tag tag ++ in_braces (spell_members members))
  spell_specifier (EnumBody at tag es comma) = word EnumWord ∷ (spell_tag tag ++ in_braces (with_commas (spell_enumerators es) ++ last_comma comma))

  pub spell_specifiers : SpecifierTrees → List Lexeme
  spell_specifiers NoSpecifiers = []
  spell_specifiers (MoreSpecifiers s ss) = spell_specifier s ++ spell_specifiers ss

  pub spell_member : MemberTree → List Lexeme
  spell_member (MemberLine ss ds) = spell_specifiers ss ++ (with_commas (spell_member_declarators ds) ++ sign Semicolon ∷ [])
  spell_member (MemberAssert at e message_at message) = spell_assert (spell_expr e) message

  pub spell_members : MemberTrees → List Lexeme
  spell_members NoMembers = []
  spell_members (MoreMembers m ms) = spell_member m ++ spell_members ms

  pub spell_member_declarator : MemberDeclaratorTree → List Lexeme
  spell_member_declarator (Plain d) = spell_declarator d
  spell_member_declarator (BitField d width) = spell_declarator d ++ (sign Colon ∷ spell_expr width)

  pub spell_member_declarators : MemberDeclaratorTrees → List (List Lexeme)
  spell_member_declarators NoMemberDeclarators = []
  spell_member_declarators (MoreMemberDeclarators d ds) = spell_member_declarator d ∷ spell_member_declarators ds

  pub spell_enumerator : EnumeratorTree → List Lexeme
  spell_enumerator (Enumerates at n value) = named n ∷ spell_value value

  pub spell_enumerators : EnumeratorTrees → List (List Lexeme)
  spell_enumerators NoEnumerators = []
  spell_enumerators (MoreEnumerators e es) = spell_enumerator e ∷ spell_enumerators es

  pub spell_value : MaybeExpr → List Lexeme
  spell_value NoExpr = []
  spell_value (SomeExpr e) = sign Equal ∷ spell_expr e

  pub spell_declarator : DeclaratorTree → List Lexeme
  spell_declarator (Declared at n) = named n ∷ []
  spell_declarator (Absent at) = []
  spell_declarator (Grouped at d) = in_parens (spell_declarator d)
  spell_declarator (Pointer at qs d) = sign StarSign ∷ (spell_qualifiers qs ++ spell_declarator d)
  spell_declarator (Array at d b) = spell_declarator d ++ in_brackets (spell_bound b)
  spell_declarator (Function at d ps variadic) = spell_declarator d ++ in_parens (with_commas (spell_parameters ps) ++ spell_ellipsis variadic)
  spell_declarator (Unprototyped at d names) = spell_declarator d ++ in_parens (spell_names names)

  pub spell_bound : BoundTree → List Lexeme
  spell_bound (Unspecified at qs) = spell_qualifiers qs
  spell_bound (Star at qs) = spell_qualifiers qs ++ sign StarSign ∷ []
  spell_bound (Size at qs e) = spell_qualifiers qs ++ spell_expr e
  spell_bound (StaticSize at qs e) = word StaticWord ∷ (spell_qualifiers qs ++ spell_expr e)
  spell_bound (SizeStatic at qs e) = spell_qualifiers qs ++ (word StaticWord ∷ spell_expr e)

  pub spell_parameter : ParameterTree → List Lexeme
  spell_parameter (Parameter ss d) = spell_specifiers ss ++ spell_declarator d

  pub spell_parameters : ParameterTrees → List (List Lexeme)
  spell_parameters NoParameters = []
  spell_parameters (MoreParameters p ps) = spell_parameter p ∷ spell_parameters ps

  pub spell_init : InitTree → List Lexeme
  spell_init (Single e) = spell_expr e
  spell_init (Braces at items comma) = in_braces (with_commas (spell_items items) ++ last_comma comma)

  pub spell_item : ItemTree → List Lexeme
  spell_item (Item ds i) = spell_designation ds ++ spell_init i

  pub spell_items : ItemTrees → List (List Lexeme)
  spell_items NoItems = []
  spell_items (MoreItems i is) = spell_item i ∷ spell_items is

  pub spell_designator : DesignatorTree → List Lexeme
  spell_designator (AtIndex at e) = in_brackets (spell_expr e)
  spell_designator (AtMember at n) = sign Dot ∷ named n ∷ []

  -- designators and `=`, or nothing where there are none
  pub spell_designation : DesignatorTrees → List Lexeme
  spell_designation NoDesignators = []
  spell_designation (MoreDesignators d ds) = spell_designator d ++ spell_designators ds

  -- the designators behind the first, and `=`
  pub spell_designators : DesignatorTrees → List Lexeme
  spell_designators NoDesignators = sign Equal ∷ []
  spell_designators (MoreDesignators d ds) = spell_designator d ++ spell_designators ds
