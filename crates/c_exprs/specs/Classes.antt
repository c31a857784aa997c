-- Definition: classes of tokens, told by their kind, and of identifiers by the scopes. Definitions say by them what goes on behind a tree (GoesOn.antt), and the readings decide by them.
use Rattle.std.specs.Prelude.{ℕ, Bool, true, false, not, ◌&&◌, ◌||◌, nat_le, nat_lt, List, [], ◌∷◌, Option, Some, None, if◌then◌else◌}
use Rattle.cil_base.specs.declared.numbers.NameId.{NameId}
use Rattle.cil_base.specs.declared.operators.BinOp.TheVariants.{Mul, Div, Rem, Add, Sub, Shl, Shr, Lt, Gt, Le, Ge, Eq, Ne, And, Xor, Or}
use Rattle.cil_base.specs.declared.tokens.TokenKind.{TokenKind}
use Rattle.cil_base.specs.declared.tokens.TokenKind.TheVariants.{Name as IsName, Keyword as IsKeyword, Integer as IsInteger, Character as IsCharacter, Literal as IsLiteral, Punctuator as IsPunctuator}
use Rattle.cil_base.specs.declared.tokens.Keyword.{Keyword}
use Rattle.cil_base.specs.declared.tokens.Keyword.TheVariants.{Auto as AutoWord, Char as CharWord, Const as ConstWord, Enum as EnumWord, Extern as ExternWord, Inline as InlineWord, Int as IntWord, Long as LongWord, Register as RegisterWord, Restrict as RestrictWord, Short as ShortWord, Signed as SignedWord, Sizeof as SizeofWord, Static as StaticWord, Struct as StructWord, Typedef as TypedefWord, Union as UnionWord, Unsigned as UnsignedWord, Void as VoidWord, Alignof as AlignofWord, Bool as BoolWord, Noreturn as NoreturnWord}
use Rattle.cil_base.specs.declared.tokens.Punctuator.{Punctuator}
use Rattle.cil_base.specs.declared.tokens.Punctuator.TheVariants.{LeftBracket, LeftParen, Dot, Arrow as ArrowSign, PlusPlus, MinusMinus, Ampersand, Star as StarSign, Plus, Minus, Tilde, Exclamation, Slash, Percent, LeftShift, RightShift, Less, Greater, LessEqual, GreaterEqual, EqualEqual, ExclamationEqual, Caret, Bar, AmpersandAmpersand, BarBar, Question, Equal, StarEqual, SlashEqual, PercentEqual, PlusEqual, MinusEqual, LeftShiftEqual, RightShiftEqual, AmpersandEqual, CaretEqual, BarEqual, Comma as CommaSign}
use Rattle.typedef_scopes.specs.Scopes.{Scope, is_type}
use Rattle.c_tree.specs.declared.words.StorageClass.TheVariants.{Typedef, Extern, Static, Auto, Register}
use Rattle.c_tree.specs.declared.words.BasicType.TheVariants.{Void, Char, Short, Int, Long, Signed, Unsigned, Bool as Boolean}
use Rattle.c_tree.specs.declared.words.Qualifier.{Qualifier}
use Rattle.c_tree.specs.declared.words.Qualifier.TheVariants.{Const, Restrict}
use Rattle.c_tree.specs.declared.words.FunctionSpecifier.TheVariants.{Inline, Noreturn}
use Rattle.c_tree.specs.declared.words.StructKind.TheVariants.{Struct, Union}
use Rattle.c_tree.specs.declared.words.StepOp.TheVariants.{Increment, Decrement}
use Rattle.c_tree.specs.declared.words.UnaryOp.TheVariants.{Address, Indirection, Plus as PlusOp, Minus as MinusOp, Complement, Not}
use Rattle.c_tree.specs.declared.words.LogicalOp.TheVariants.{And as BothOf, Or as OneOf}
use Rattle.c_tree.specs.declared.level.Level.{Level}
use Rattle.c_tree.specs.declared.level.Level.TheVariants.{Postfix as PostfixLevel, Unary as UnaryLevel, LogicalOr, Conditional as ConditionalLevel, Assignment, Comma as CommaLevel}
use Rattle.c_tree.specs.Syntax.{ExprTree, Binary, Logical, Assign, Comma, DeclaratorTree}
use Rattle.c_tree.specs.Spelling.{Lexeme}
use Rattle.c_tree.specs.Levels.{rank, tighter, binary_level, logical_level, is_within}
use Rattle.c_tree.specs.Height.{expr_height, declarator_height}
use Rattle.c_exprs.specs.declared.words.Start.{Start}
use Rattle.c_exprs.specs.declared.words.Start.TheVariants.{Name as NameStart, Integer as IntegerStart, Character as CharacterStart, Literal as LiteralStart, Parenthesis as ParenthesisStart, Step as StepStart, Unary as UnaryStart, Sizeof as SizeofStart, Alignof as AlignofStart}
use Rattle.c_exprs.specs.declared.words.Joint.{Joint}
use Rattle.c_exprs.specs.declared.words.Joint.TheVariants.{Arithmetic as Arithmetically, Logical as Logically, Assign as Assigning, Comma as InSequence}
use Rattle.c_exprs.specs.declared.words.Operator.{Operator}
use Rattle.c_exprs.specs.declared.words.Operator.TheVariants.{Index as ToIndex, Call as ToCall, Member as ToMember, Arrow as ToArrow, Step as ToStep, Conditional as ToChoose, Join as ToJoin}
use Rattle.c_exprs.specs.declared.words.Piece.{Piece}
use Rattle.c_exprs.specs.declared.words.Piece.TheVariants.{Storage as StoragePiece, Basic as BasicPiece, Qualifier as QualifierPiece, Function as FunctionPiece, Name as NamePiece, Struct as StructPiece, Enum as EnumPiece}
use Rattle.c_exprs.specs.declared.words.SpecifierForm.{SpecifierForm}
use Rattle.c_exprs.specs.declared.words.SpecifierForm.TheVariants.{Declaration as InDeclaration, TypeName as InTypeName}
use Rattle.c_exprs.specs.declared.words.DeclaratorForm.{DeclaratorForm}
use Rattle.c_exprs.specs.declared.words.DeclaratorForm.TheVariants.{Definition as InDefinition, Member as InMember, Abstract as InAbstract, Parameter as InParameter}
use Rattle.c_exprs.specs.declared.words.Derivation.{Derivation}
use Rattle.c_exprs.specs.declared.words.Derivation.TheVariants.{Array as ArrayOf, Function as FunctionOf}
use Rattle.c_exprs.specs.declared.words.Designation.{Designation}
use Rattle.c_exprs.specs.declared.words.Designation.TheVariants.{Index as ByIndex, Member as ByMember}
use Rattle.c_cursor.specs.Classes.{plain, if_so, fitting, a_name, has_text}

-- an identifier that is no typedef name in scope
abbrev pub an_identifier : List Scope → Lexeme → Option NameId
an_identifier ds u = fitting (λ n. not (is_type ds n)) (a_name u)

-- the first token of an expression, and the text of a constant or literal

abbrev pub step_sign_kind : Punctuator → Option Start
step_sign_kind LeftParen = Some ParenthesisStart
step_sign_kind PlusPlus = Some (StepStart Increment)
step_sign_kind MinusMinus = Some (StepStart Decrement)
step_sign_kind Ampersand = Some (UnaryStart Address)
step_sign_kind StarSign = Some (UnaryStart Indirection)
step_sign_kind Plus = Some (UnaryStart PlusOp)
step_sign_kind Minus = Some (UnaryStart MinusOp)
step_sign_kind Tilde = Some (UnaryStart Complement)
step_sign_kind Exclamation = Some (UnaryStart Not)
step_sign_kind _ = None

abbrev pub start_word_kind : Keyword → Option Start
start_word_kind SizeofWord = Some SizeofStart
start_word_kind AlignofWord = Some AlignofStart
start_word_kind _ = None

abbrev pub start_kind : List Scope → TokenKind → Option Start
start_kind ds (IsName n) = if_so (not (is_type ds n)) (NameStart n)
start_kind ds (IsKeyword k) = start_word_kind k
start_kind ds IsInteger = Some IntegerStart
start_kind ds IsCharacter = Some CharacterStart
start_kind ds IsLiteral = Some LiteralStart
start_kind ds (IsPunctuator p) = step_sign_kind p

abbrev pub is_empty : List ℕ → Bool
is_empty [] = true
is_empty (v ∷ vs) = false

-- the level and the height allow an expression that begins so
abbrev pub start_fits : ℕ → Level → Start → Bool
start_fits h level (NameStart n) = nat_le 1 h
start_fits h level IntegerStart = nat_le 1 h
start_fits h level CharacterStart = nat_le 1 h
start_fits h level LiteralStart = nat_le 1 h
start_fits h level ParenthesisStart = nat_le 2 h
start_fits h level (StepStart op) = nat_le 2 h && nat_le 2 (rank level)
start_fits h level (UnaryStart op) = nat_le 2 h && nat_le 2 (rank level)
start_fits h level SizeofStart = nat_le 2 h && nat_le 2 (rank level)
start_fits h level AlignofStart = nat_le 2 h && nat_le 2 (rank level)

abbrev pub with_text : List ℕ → Option Start → Option (Start × List ℕ)
with_text text None = None
with_text text (Some s) = Some (s, text)

abbrev pub start_of : ℕ → Level → List Scope → Lexeme → Option (Start × List ℕ)
start_of h level ds u = with_text u.value (if has_text u.kind || is_empty u.value then fitting (start_fits h level) (start_kind ds u.kind) else None)

-- operators behind an operand

abbrev pub joint_level : Joint → Level
joint_level (Arithmetically op) = binary_level op
joint_level (Logically op) = logical_level op
joint_level (Assigning op) = Assignment
joint_level InSequence = CommaLevel

-- the level of the left operand
abbrev pub joint_left : Joint → Level
joint_left (Arithmetically op) = binary_level op
joint_left (Logically op) = logical_level op
joint_left (Assigning op) = UnaryLevel
joint_left InSequence = CommaLevel

-- of the right operand
abbrev pub joint_right : Joint → Level
joint_right (Arithmetically op) = tighter (binary_level op)
joint_right (Logically op) = tighter (logical_level op)
joint_right (Assigning op) = Assignment
joint_right InSequence = Assignment

abbrev pub joint_node : ℕ → Joint → ExprTree → ExprTree → ExprTree
joint_node at (Arithmetically op) l r = Binary at op l r
joint_node at (Logically op) l r = Logical at op l r
joint_node at (Assigning op) l r = Assign at op l r
joint_node at InSequence l r = Comma at l r

abbrev pub operator_level : Operator → Level
operator_level ToIndex = PostfixLevel
operator_level ToCall = PostfixLevel
operator_level ToMember = PostfixLevel
operator_level ToArrow = PostfixLevel
operator_level (ToStep op) = PostfixLevel
operator_level ToChoose = ConditionalLevel
operator_level (ToJoin j) = joint_level j

abbrev pub operator_left : Operator → Level
operator_left ToIndex = PostfixLevel
operator_left ToCall = PostfixLevel
operator_left ToMember = PostfixLevel
operator_left ToArrow = PostfixLevel
operator_left (ToStep op) = PostfixLevel
operator_left ToChoose = LogicalOr
operator_left (ToJoin j) = joint_left j

abbrev pub operator_sign : Punctuator → Option Operator
operator_sign LeftBracket = Some ToIndex
operator_sign LeftParen = Some ToCall
operator_sign Dot = Some ToMember
operator_sign ArrowSign = Some ToArrow
operator_sign PlusPlus = Some (ToStep Increment)
operator_sign MinusMinus = Some (ToStep Decrement)
operator_sign StarSign = Some (ToJoin (Arithmetically Mul))
operator_sign Slash = Some (ToJoin (Arithmetically Div))
operator_sign Percent = Some (ToJoin (Arithmetically Rem))
operator_sign Plus = Some (ToJoin (Arithmetically Add))
operator_sign Minus = Some (ToJoin (Arithmetically Sub))
operator_sign LeftShift = Some (ToJoin (Arithmetically Shl))
operator_sign RightShift = Some (ToJoin (Arithmetically Shr))
operator_sign Less = Some (ToJoin (Arithmetically Lt))
operator_sign Greater = Some (ToJoin (Arithmetically Gt))
operator_sign LessEqual = Some (ToJoin (Arithmetically Le))
operator_sign GreaterEqual = Some (ToJoin (Arithmetically Ge))
operator_sign EqualEqual = Some (ToJoin (Arithmetically Eq))
operator_sign ExclamationEqual = Some (ToJoin (Arithmetically Ne))
operator_sign Ampersand = Some (ToJoin (Arithmetically And))
operator_sign Caret = Some (ToJoin (Arithmetically Xor))
operator_sign Bar = Some (ToJoin (Arithmetically Or))
operator_sign AmpersandAmpersand = Some (ToJoin (Logically BothOf))
operator_sign BarBar = Some (ToJoin (Logically OneOf))
operator_sign Question = Some ToChoose
operator_sign Equal = Some (ToJoin (Assigning None))
operator_sign StarEqual = Some (ToJoin (Assigning (Some Mul)))
operator_sign SlashEqual = Some (ToJoin (Assigning (Some Div)))
operator_sign PercentEqual = Some (ToJoin (Assigning (Some Rem)))
operator_sign PlusEqual = Some (ToJoin (Assigning (Some Add)))
operator_sign MinusEqual = Some (ToJoin (Assigning (Some Sub)))
operator_sign LeftShiftEqual = Some (ToJoin (Assigning (Some Shl)))
operator_sign RightShiftEqual = Some (ToJoin (Assigning (Some Shr)))
operator_sign AmpersandEqual = Some (ToJoin (Assigning (Some And)))
operator_sign CaretEqual = Some (ToJoin (Assigning (Some Xor)))
operator_sign BarEqual = Some (ToJoin (Assigning (Some Or)))
operator_sign CommaSign = Some (ToJoin InSequence)
operator_sign _ = None

abbrev pub operator_kind : TokenKind → Option Operator
operator_kind (IsPunctuator p) = operator_sign p
operator_kind _ = None

-- the operator can stand behind that operand in an expression of that level and height
abbrev pub operator_fits : ℕ → Level → ExprTree → Operator → Bool
operator_fits h level e op = nat_le (rank (operator_level op)) (rank level) && (is_within (operator_left op) e && nat_lt (expr_height e) h)

abbrev pub operator_for : ℕ → Level → ExprTree → Lexeme → Option Operator
operator_for h level e u = fitting (operator_fits h level e) (plain operator_kind u)

-- specifiers

abbrev pub piece_word : Keyword → Option Piece
piece_word TypedefWord = Some (StoragePiece Typedef)
piece_word ExternWord = Some (StoragePiece Extern)
piece_word StaticWord = Some (StoragePiece Static)
piece_word AutoWord = Some (StoragePiece Auto)
piece_word RegisterWord = Some (StoragePiece Register)
piece_word VoidWord = Some (BasicPiece Void)
piece_word CharWord = Some (BasicPiece Char)
piece_word ShortWord = Some (BasicPiece Short)
piece_word IntWord = Some (BasicPiece Int)
piece_word LongWord = Some (BasicPiece Long)
piece_word SignedWord = Some (BasicPiece Signed)
piece_word UnsignedWord = Some (BasicPiece Unsigned)
piece_word BoolWord = Some (BasicPiece Boolean)
piece_word ConstWord = Some (QualifierPiece Const)
piece_word RestrictWord = Some (QualifierPiece Restrict)
piece_word InlineWord = Some (FunctionPiece Inline)
piece_word NoreturnWord = Some (FunctionPiece Noreturn)
piece_word StructWord = Some (StructPiece Struct)
piece_word UnionWord = Some (StructPiece Union)
piece_word EnumWord = Some EnumPiece
piece_word _ = None

-- `typed`: a type specifier was read among the same specifiers
abbrev pub piece_kind : Bool → List Scope → TokenKind → Option Piece
piece_kind typed ds (IsName n) = if_so (not typed && is_type ds n) (NamePiece n)
piece_kind typed ds (IsKeyword k) = piece_word k
piece_kind typed ds IsInteger = None
piece_kind typed ds IsCharacter = None
piece_kind typed ds IsLiteral = None
piece_kind typed ds (IsPunctuator p) = None

abbrev pub in_type_name : SpecifierForm → Bool
in_type_name InDeclaration = false
in_type_name InTypeName = true

-- the form and the height allow a specifier that begins so
abbrev pub piece_fits : ℕ → SpecifierForm → Piece → Bool
piece_fits h form (StoragePiece w) = not (in_type_name form)
piece_fits h form (BasicPiece w) = true
piece_fits h form (QualifierPiece w) = true
piece_fits h form (FunctionPiece w) = not (in_type_name form)
piece_fits h form (NamePiece n) = nat_le 1 h
piece_fits h form (StructPiece kind) = nat_le 1 h
piece_fits h form EnumPiece = nat_le 1 h

abbrev pub piece_for : ℕ → SpecifierForm → Bool → List Scope → Lexeme → Option Piece
piece_for h form typed ds u = fitting (piece_fits h form) (plain (piece_kind typed ds) u)

abbrev pub qualifier_word_kind : Keyword → Option Qualifier
qualifier_word_kind ConstWord = Some Const
qualifier_word_kind RestrictWord = Some Restrict
qualifier_word_kind _ = None

abbrev pub qualifier_kind : TokenKind → Option Qualifier
qualifier_kind (IsKeyword k) = qualifier_word_kind k
qualifier_kind _ = None

abbrev pub is_some_of : {A : Type 0} → Option A → Bool
is_some_of None = false
is_some_of (Some a) = true

abbrev pub a_qualifier : Lexeme → Option Qualifier
a_qualifier u = plain qualifier_kind u

abbrev pub is_qualifier : TokenKind → Bool
is_qualifier k = is_some_of (qualifier_kind k)

-- the word begins a specifier of a type name, or is a typedef name in scope
abbrev pub begins_type_name : List Scope → TokenKind → Bool
begins_type_name ds k = is_some_of (fitting (piece_fits 1 InTypeName) (piece_kind false ds k))

-- the word begins a parameter, or is a typedef name in scope
abbrev pub begins_parameter : List Scope → TokenKind → Bool
begins_parameter ds k = is_some_of (piece_kind false ds k)

-- declarators

abbrev pub derivation_sign : Punctuator → Option Derivation
derivation_sign LeftBracket = Some ArrayOf
derivation_sign LeftParen = Some FunctionOf
derivation_sign _ = None

abbrev pub derivation_kind : TokenKind → Option Derivation
derivation_kind (IsPunctuator p) = derivation_sign p
derivation_kind _ = None

-- a derivation of that declarator, within the height
abbrev pub derivation_for : ℕ → DeclaratorTree → Lexeme → Option Derivation
derivation_for h d u = fitting (λ k. nat_lt (declarator_height d) h) (plain derivation_kind u)

-- the declarator may have no name
abbrev pub may_be_absent : DeclaratorForm → Bool
may_be_absent InDefinition = false
may_be_absent InMember = false
may_be_absent InAbstract = true
may_be_absent InParameter = true

abbrev pub may_be_named : DeclaratorForm → Bool
may_be_named InDefinition = true
may_be_named InMember = true
may_be_named InAbstract = false
may_be_named InParameter = true

abbrev pub may_have_identifiers : DeclaratorForm → Bool
may_have_identifiers InDefinition = true
may_have_identifiers InMember = false
may_have_identifiers InAbstract = false
may_have_identifiers InParameter = false

-- designators

abbrev pub designation_sign : Punctuator → Option Designation
designation_sign LeftBracket = Some ByIndex
designation_sign Dot = Some ByMember
designation_sign _ = None

abbrev pub designation_kind : TokenKind → Option Designation
designation_kind (IsPunctuator p) = designation_sign p
designation_kind _ = None

abbrev pub a_designation : Lexeme → Option Designation
a_designation u = plain designation_kind u

abbrev pub is_designation : TokenKind → Bool
is_designation k = is_some_of (designation_kind k)
