-- Definition: what the productions of C11 Annex A ask of their parts: the level of each operand (6.5), which specifiers and declarators may stand where (6.7), that lists are not empty, and that an else belongs to the nearest if that can take it (6.8.4.1p3).
-- And where identifiers stand in place of parameters: a list of them that is not empty only in the declarator of a function's definition (6.7.6.3p3), a declaration list only behind such a declarator (6.9.1p5, p6).
-- Which identifiers are typedef names is not said here.
use Rattle.std.specs.Prelude.{ℕ, Bool, true, false, not, ◌&&◌, ◌||◌, nat_le, List, [], ◌∷◌, Option, Some, None}
use Rattle.cil_base.specs.declared.operators.BinOp.{BinOp}
use Rattle.cil_base.specs.declared.operators.BinOp.TheVariants.{Mul, Div, Rem, Add, Sub, Shl, Shr, Lt, Gt, Le, Ge, Eq, Ne, And, Xor, Or}
use Rattle.c_tree.specs.declared.words.LogicalOp.{LogicalOp}
use Rattle.c_tree.specs.declared.words.LogicalOp.TheVariants.{And as BothOf, Or as OneOf}
use Rattle.c_tree.specs.declared.level.Level.{Level}
use Rattle.c_tree.specs.declared.level.Level.TheVariants.{Primary, Postfix as PostfixLevel, Unary as UnaryLevel, Cast as CastLevel, Multiplicative, Additive, Shift, Relational, Equality, BitAnd, ExclusiveOr, InclusiveOr, LogicalAnd, LogicalOr, Conditional as ConditionalLevel, Assignment, Comma as CommaLevel}
use Rattle.c_tree.specs.Syntax.{ExprTree, Name, Integer, Character, Literals, Parentheses, Index, Call, Member, Arrow, Postfix, CompoundLiteral, Prefix, Unary, SizeofExpr, SizeofType, AlignofType, Cast, Binary, Logical, Conditional, Assign, Comma, ExprTrees, NoExprs, MoreExprs, TypeNameTree, TypeName, SpecifierTree, Storage, Basic, Qualified, Functional, TypedefName, Tag, StructBody, EnumBody, SpecifierTrees, NoSpecifiers, MoreSpecifiers, MemberTree, MemberLine, MemberAssert, MemberTrees, NoMembers, MoreMembers, MemberDeclaratorTree, Plain, BitField, MemberDeclaratorTrees, NoMemberDeclarators, MoreMemberDeclarators, EnumeratorTree, Enumerates, EnumeratorTrees, NoEnumerators, MoreEnumerators, MaybeExpr, NoExpr, SomeExpr, DeclaratorTree, Declared, Absent, Grouped, Pointer, Array, Function, Unprototyped, BoundTree, Unspecified, Star, Size, StaticSize, SizeStatic, ParameterTree, Parameter, ParameterTrees, NoParameters, MoreParameters, InitTree, Single, Braces, ItemTree, Item, ItemTrees, NoItems, MoreItems, DesignatorTree, AtIndex, AtMember, DesignatorTrees, NoDesignators, MoreDesignators}
use Rattle.c_tree.specs.Units.{DeclarationTree, Declares, Asserts, ForStart, StartExpr, StartDeclaration, StmtTree, Labelled, Case, Default, Compound, Expression, If, IfElse, Switch, While, Do, For, Goto, Continue, Break, Return, BlockItem, Declaring, Doing, BlockItems, NoItems as NoStatements, MoreItems as MoreStatements, ExternalTree, Definition, External, UnitTree}

-- the levels in order, the tightest first
abbrev pub rank : Level → ℕ
rank Primary = 0
rank PostfixLevel = 1
rank UnaryLevel = 2
rank CastLevel = 3
rank Multiplicative = 4
rank Additive = 5
rank Shift = 6
rank Relational = 7
rank Equality = 8
rank BitAnd = 9
rank ExclusiveOr = 10
rank InclusiveOr = 11
rank LogicalAnd = 12
rank LogicalOr = 13
rank ConditionalLevel = 14
rank Assignment = 15
rank CommaLevel = 16

-- the level next to it that binds tighter
abbrev pub tighter : Level → Level
tighter Primary = Primary
tighter PostfixLevel = Primary
tighter UnaryLevel = PostfixLevel
tighter CastLevel = UnaryLevel
tighter Multiplicative = CastLevel
tighter Additive = Multiplicative
tighter Shift = Additive
tighter Relational = Shift
tighter Equality = Relational
tighter BitAnd = Equality
tighter ExclusiveOr = BitAnd
tighter InclusiveOr = ExclusiveOr
tighter LogicalAnd = InclusiveOr
tighter LogicalOr = LogicalAnd
tighter ConditionalLevel = LogicalOr
tighter Assignment = ConditionalLevel
tighter CommaLevel = Assignment

-- the level of a binary operator (6.5.5 to 6.5.12)
abbrev pub binary_level : BinOp → Level
binary_level Mul = Multiplicative
binary_level Div = Multiplicative
binary_level Rem = Multiplicative
binary_level Add = Additive
binary_level Sub = Additive
binary_level Shl = Shift
binary_level Shr = Shift
binary_level Lt = Relational
binary_level Gt = Relational
binary_level Le = Relational
binary_level Ge = Relational
binary_level Eq = Equality
binary_level Ne = Equality
binary_level And = BitAnd
binary_level Xor = ExclusiveOr
binary_level Or = InclusiveOr

-- of a logical operator (6.5.13, 6.5.14)
abbrev pub logical_level : LogicalOp → Level
logical_level BothOf = LogicalAnd
logical_level OneOf = LogicalOr

-- the level of the production that makes the node (6.5.1 to 6.5.17)
abbrev pub level_of : ExprTree → Level
level_of (Name at n) = Primary
level_of (Integer at text) = Primary
level_of (Character at text) = Primary
level_of (Literals at texts) = Primary
level_of (Parentheses at e) = Primary
level_of (Index at e i) = PostfixLevel
level_of (Call at e es) = PostfixLevel
level_of (Member at e n) = PostfixLevel
level_of (Arrow at e n) = PostfixLevel
level_of (Postfix at e op) = PostfixLevel
level_of (CompoundLiteral at t items comma) = PostfixLevel
level_of (Prefix at op e) = UnaryLevel
level_of (Unary at op e) = UnaryLevel
level_of (SizeofExpr at e) = UnaryLevel
level_of (SizeofType at t) = UnaryLevel
level_of (AlignofType at t) = UnaryLevel
level_of (Cast at t e) = CastLevel
level_of (Binary at op l r) = binary_level op
level_of (Logical at op l r) = logical_level op
level_of (Conditional at c a b) = ConditionalLevel
level_of (Assign at op l r) = Assignment
level_of (Comma at l r) = CommaLevel

-- the expression can stand where one of that level is asked
abbrev pub is_within : Level → ExprTree → Bool
is_within level e = nat_le (rank (level_of e)) (rank level)

-- an operator of assignment expressions (6.5.16p1)
abbrev pub is_assign_op : Option BinOp → Bool
is_assign_op None = true
is_assign_op (Some Mul) = true
is_assign_op (Some Div) = true
is_assign_op (Some Rem) = true
is_assign_op (Some Add) = true
is_assign_op (Some Sub) = true
is_assign_op (Some Shl) = true
is_assign_op (Some Shr) = true
is_assign_op (Some And) = true
is_assign_op (Some Xor) = true
is_assign_op (Some Or) = true
is_assign_op (Some Lt) = false
is_assign_op (Some Gt) = false
is_assign_op (Some Le) = false
is_assign_op (Some Ge) = false
is_assign_op (Some Eq) = false
is_assign_op (Some Ne) = false

abbrev pub has_some : {X : Type 0} → List X → Bool
has_some [] = false
has_some (x ∷ xs) = true

-- a specifier that can stand in a list of specifiers and qualifiers (6.7.2.1, 6.7.7): no storage class, no function specifier
abbrev pub is_specifier_qualifier : SpecifierTree → Bool
is_specifier_qualifier (Storage at w) = false
is_specifier_qualifier (Basic at w) = true
is_specifier_qualifier (Qualified at w) = true
is_specifier_qualifier (Functional at w) = false
is_specifier_qualifier (TypedefName at n) = true
is_specifier_qualifier (Tag at kind tag) = true
is_specifier_qualifier (StructBody at kind tag ms) = true
is_specifier_qualifier (EnumBody at tag es comma) = true

abbrev pub are_specifier_qualifiers : SpecifierTrees → Bool
are_specifier_qualifiers NoSpecifiers = true
are_specifier_qualifiers (MoreSpecifiers s ss) = is_specifier_qualifier s && are_specifier_qualifiers ss

abbrev pub has_specifier : SpecifierTrees → Bool
has_specifier NoSpecifiers = false
has_specifier (MoreSpecifiers s ss) = true

abbrev pub has_member : MemberTrees → Bool
has_member NoMembers = false
has_member (MoreMembers m ms) = true

abbrev pub has_enumerator : EnumeratorTrees → Bool
has_enumerator NoEnumerators = false
has_enumerator (MoreEnumerators e es) = true

abbrev pub has_parameter : ParameterTrees → Bool
has_parameter NoParameters = false
has_parameter (MoreParameters p ps) = true

abbrev pub has_item : ItemTrees → Bool
has_item NoItems = false
has_item (MoreItems i is) = true

-- an absent declarator: no token at all
abbrev pub is_absent : DeclaratorTree → Bool
is_absent (Absent at) = true
is_absent _ = false

-- a direct declarator (6.7.6): a pointer stands in one in parentheses only
abbrev pub is_direct : DeclaratorTree → Bool
is_direct (Pointer at qs d) = false
is_direct _ = true

-- the declarator declares an identifier (6.7.6)
abbrev pub declares : DeclaratorTree → Bool
declares (Declared at n) = true
declares (Absent at) = false
declares (Grouped at d) = declares d
declares (Pointer at qs d) = declares d
declares (Array at d b) = declares d
declares (Function at d ps variadic) = declares d
declares (Unprototyped at d names) = declares d

-- in an abstract declarator `[ * ]` has no qualifiers (6.7.7)
abbrev pub is_bound_of : Bool → BoundTree → Bool
is_bound_of is_named (Unspecified at qs) = true
is_bound_of is_named (Star at qs) = is_named || not (has_some qs)
is_bound_of is_named (Size at qs e) = true
is_bound_of is_named (StaticSize at qs e) = true
is_bound_of is_named (SizeStatic at qs e) = has_some qs

-- a derivation with an identifier list that is not empty (6.7.6.3p3)
abbrev pub has_names : DeclaratorTree → Bool
has_names (Declared at n) = false
has_names (Absent at) = false
has_names (Grouped at d) = has_names d
has_names (Pointer at qs d) = has_names d
has_names (Array at d b) = has_names d
has_names (Function at d ps variadic) = has_names d
has_names (Unprototyped at d names) = has_some names || has_names d

-- the declared identifier without a derivation, in parentheses or not
abbrev pub is_underived : DeclaratorTree → Bool
is_underived (Declared at n) = true
is_underived (Grouped at d) = is_underived d
is_underived _ = false

-- the first derivation of the declared identifier is a function with an identifier list that is not empty
abbrev pub has_own_names : DeclaratorTree → Bool
has_own_names (Declared at n) = false
has_own_names (Absent at) = false
has_own_names (Grouped at d) = has_own_names d
has_own_names (Pointer at qs d) = has_own_names d
has_own_names (Array at d b) = has_own_names d
has_own_names (Function at d ps variadic) = has_own_names d
has_own_names (Unprototyped at d names) = (is_underived d && has_some names) || has_own_names d

-- another derivation has an identifier list that is not empty
abbrev pub has_other_names : DeclaratorTree → Bool
has_other_names (Declared at n) = false
has_other_names (Absent at) = false
has_other_names (Grouped at d) = has_other_names d
has_other_names (Pointer at qs d) = has_other_names d
has_other_names (Array at d b) = has_other_names d
has_other_names (Function at d ps variadic) = has_other_names d
has_other_names (Unprototyped at d names) = (not (is_underived d) && has_some names) || has_other_names d

-- in the declarator of a function's definition: an identifier list is the function's own, and declarations stand only behind one (6.7.6.3p3, 6.9.1p5, p6)
abbrev pub is_defined_by : DeclaratorTree → List DeclarationTree → Bool
is_defined_by d ds = not (has_other_names d) && (has_own_names d || not (has_some ds))

-- specifiers and qualifiers, at least one, and an abstract declarator, which has no identifier list, make a type name (6.7.7)
abbrev pub is_type_name : SpecifierTrees → DeclaratorTree → Bool
is_type_name ss d = (has_specifier ss && are_specifier_qualifiers ss) && not (declares d || has_names d)

abbrev mutual
  pub levelled : ExprTree → Bool
  levelled (Name at n) = true
  levelled (Integer at text) = true
  levelled (Character at text) = true
  levelled (Literals at texts) = has_some texts
  levelled (Parentheses at e) = levelled e
  levelled (Index at e i) = is_within PostfixLevel e && (levelled e && levelled i)
  levelled (Call at e es) = is_within PostfixLevel e && (levelled e && levelled_arguments es)
  levelled (Member at e n) = is_within PostfixLevel e && levelled e
  levelled (Arrow at e n) = is_within PostfixLevel e && levelled e
  levelled (Postfix at e op) = is_within PostfixLevel e && levelled e
  levelled (CompoundLiteral at t items comma) = levelled_type_name t && (has_item items && levelled_items items)
  levelled (Prefix at op e) = is_within UnaryLevel e && levelled e
  levelled (Unary at op e) = is_within CastLevel e && levelled e
  levelled (SizeofExpr at e) = is_within UnaryLevel e && levelled e
  levelled (SizeofType at t) = levelled_type_name t
  levelled (AlignofType at t) = levelled_type_name t
  levelled (Cast at t e) = levelled_type_name t && (is_within CastLevel e && levelled e)
  levelled (Binary at op l r) = (is_within (binary_level op) l && levelled l) && (is_within (tighter (binary_level op)) r && levelled r)
  levelled (Logical at op l r) = (is_within (logical_level op) l && levelled l) && (is_within (tighter (logical_level op)) r && levelled r)
  levelled (Conditional at c a b) = (is_within LogicalOr c && levelled c) && (levelled a && (is_within ConditionalLevel b && levelled b))
  levelled (Assign at op l r) = (is_assign_op op && (is_within UnaryLevel l && levelled l)) && (is_within Assignment r && levelled r)
  levelled (Comma at l r) = levelled l && (is_within Assignment r && levelled r)

  -- arguments are assignment expressions (6.5.2)
  pub levelled_arguments : ExprTrees → Bool
  levelled_arguments NoExprs = true
  levelled_arguments (MoreExprs e es) = (is_within Assignment e && levelled e) && levelled_arguments es

  pub levelled_type_name : TypeNameTree → Bool
  levelled_type_name (TypeName ss d) = is_type_name ss d && (levelled_specifiers ss && levelled_declarator d)

  pub levelled_specifier : SpecifierTree → Bool
  levelled_specifier (Storage at w) = true
  levelled_specifier (Basic at w) = true
  levelled_specifier (Qualified at w) = true
  levelled_specifier (Functional at w) = true
  levelled_specifier (TypedefName at n) = true
  levelled_specifier (Tag at kind tag) = true
  levelled_specifier (StructBody at kind tag members) = has_member members && levelled_members members
  levelled_specifier (EnumBody at tag es comma) = has_enumerator es && levelled_enumerators es

  pub levelled_specifiers : SpecifierTrees → Bool
  levelled_specifiers NoSpecifiers = true
  levelled_specifiers (MoreSpecifiers s ss) = levelled_specifier s && levelled_specifiers ss

  pub levelled_member : MemberTree → Bool
  levelled_member (MemberLine ss ds) = (has_specifier ss && (are_specifier_qualifiers ss && levelled_specifiers ss)) && levelled_member_declarators ds
  levelled_member (MemberAssert at e message_at message) = (is_within ConditionalLevel e && levelled e) && has_some message

  pub levelled_members : MemberTrees → Bool
  levelled_members NoMembers = true
  levelled_members (MoreMembers m ms) = levelled_member m && levelled_members ms

  pub levelled_member_declarator : MemberDeclaratorTree → Bool
  levelled_member_declarator (Plain d) = (declares d && not (has_names d)) && levelled_declarator d
  levelled_member_declarator (BitField d width) = ((is_absent d || (declares d && not (has_names d))) && levelled_declarator d) && (is_within ConditionalLevel width && levelled width)

  pub levelled_member_declarators : MemberDeclaratorTrees → Bool
  levelled_member_declarators NoMemberDeclarators = true
  levelled_member_declarators (MoreMemberDeclarators d ds) = levelled_member_declarator d && levelled_member_declarators ds

  pub levelled_enumerator : EnumeratorTree → Bool
  levelled_enumerator (Enumerates at n value) = levelled_value value

  pub levelled_enumerators : EnumeratorTrees → Bool
  levelled_enumerators NoEnumerators = true
  levelled_enumerators (MoreEnumerators e es) = levelled_enumerator e && levelled_enumerators es

  -- a constant expression (6.6)
  pub levelled_value : MaybeExpr → Bool
  levelled_value NoExpr = true
  levelled_value (SomeExpr e) = is_within ConditionalLevel e && levelled e

  pub levelled_declarator : DeclaratorTree → Bool
  levelled_declarator (Declared at n) = true
  levelled_declarator (Absent at) = true
  levelled_declarator (Grouped at d) = not (is_absent d) && levelled_declarator d
  levelled_declarator (Pointer at qs d) = levelled_declarator d
  levelled_declarator (Array at d b) = (is_direct d && levelled_declarator d) && (is_bound_of (declares d) b && levelled_bound b)
  levelled_declarator (Function at d ps variadic) = (is_direct d && levelled_declarator d) && (has_parameter ps && levelled_parameters ps)
  levelled_declarator (Unprototyped at d names) = is_direct d && levelled_declarator d

  pub levelled_bound : BoundTree → Bool
  levelled_bound (Unspecified at qs) = true
  levelled_bound (Star at qs) = true
  levelled_bound (Size at qs e) = is_within Assignment e && levelled e
  levelled_bound (StaticSize at qs e) = is_within Assignment e && levelled e
  levelled_bound (SizeStatic at qs e) = is_within Assignment e && levelled e

  pub levelled_parameter : ParameterTree → Bool
  levelled_parameter (Parameter ss d) = (has_specifier ss && levelled_specifiers ss) && (not (has_names d) && levelled_declarator d)

  pub levelled_parameters : ParameterTrees → Bool
  levelled_parameters NoParameters = true
  levelled_parameters (MoreParameters p ps) = levelled_parameter p && levelled_parameters ps

  pub levelled_init : InitTree → Bool
  levelled_init (Single e) = is_within Assignment e && levelled e
  levelled_init (Braces at items comma) = has_item items && levelled_items items

  pub levelled_item : ItemTree → Bool
  levelled_item (Item ds i) = levelled_designators ds && levelled_init i

  pub levelled_items : ItemTrees → Bool
  levelled_items NoItems = true
  levelled_items (MoreItems i is) = levelled_item i && levelled_items is

  pub levelled_designator : DesignatorTree → Bool
  levelled_designator (AtIndex at e) = is_within ConditionalLevel e && levelled e
  levelled_designator (AtMember at n) = true

  pub levelled_designators : DesignatorTrees → Bool
  levelled_designators NoDesignators = true
  levelled_designators (MoreDesignators d ds) = levelled_designator d && levelled_designators ds

abbrev pub levelled_maybe : Option ExprTree → Bool
levelled_maybe None = true
levelled_maybe (Some e) = levelled e

abbrev pub levelled_maybe_init : Option InitTree → Bool
levelled_maybe_init None = true
levelled_maybe_init (Some i) = levelled_init i

abbrev pub levelled_init_declarator : DeclaratorTree × Option InitTree → Bool
levelled_init_declarator d = ((declares d.0 && not (has_names d.0)) && levelled_declarator d.0) && levelled_maybe_init d.1

abbrev pub levelled_init_declarators : List (DeclaratorTree × Option InitTree) → Bool
levelled_init_declarators [] = true
levelled_init_declarators (d ∷ ds) = levelled_init_declarator d && levelled_init_declarators ds

abbrev pub levelled_declaration : DeclarationTree → Bool
levelled_declaration (Declares at ss ds) = (has_specifier ss && levelled_specifiers ss) && levelled_init_declarators ds
levelled_declaration (Asserts at e message_at message) = (is_within ConditionalLevel e && levelled e) && has_some message

abbrev pub levelled_declarations : List DeclarationTree → Bool
levelled_declarations [] = true
levelled_declarations (d ∷ ds) = levelled_declaration d && levelled_declarations ds

abbrev pub levelled_start : ForStart → Bool
levelled_start (StartExpr e) = levelled_maybe e
levelled_start (StartDeclaration d) = levelled_declaration d

-- the statement ends in an if without else, so that an else behind it would belong to that if
abbrev pub takes_else : StmtTree → Bool
takes_else (Labelled at n s) = takes_else s
takes_else (Case at e s) = takes_else s
takes_else (Default at s) = takes_else s
takes_else (Compound at items) = false
takes_else (Expression at e) = false
takes_else (If at e s) = true
takes_else (IfElse at e s u) = takes_else u
takes_else (Switch at e s) = takes_else s
takes_else (While at e s) = takes_else s
takes_else (Do at s e) = false
takes_else (For at start c step s) = takes_else s
takes_else (Goto at n) = false
takes_else (Continue at) = false
takes_else (Break at) = false
takes_else (Return at e) = false

abbrev mutual
  pub levelled_stmt : StmtTree → Bool
  levelled_stmt (Labelled at n s) = levelled_stmt s
  levelled_stmt (Case at e s) = (is_within ConditionalLevel e && levelled e) && levelled_stmt s
  levelled_stmt (Default at s) = levelled_stmt s
  levelled_stmt (Compound at items) = levelled_block items
  levelled_stmt (Expression at e) = levelled_maybe e
  levelled_stmt (If at e s) = levelled e && levelled_stmt s
  levelled_stmt (IfElse at e s u) = levelled e && ((not (takes_else s) && levelled_stmt s) && levelled_stmt u)
  levelled_stmt (Switch at e s) = levelled e && levelled_stmt s
  levelled_stmt (While at e s) = levelled e && levelled_stmt s
  levelled_stmt (Do at s e) = levelled_stmt s && levelled e
  levelled_stmt (For at start c step s) = levelled_start start && ((levelled_maybe c && levelled_maybe step) && levelled_stmt s)
  levelled_stmt (Goto at n) = true
  levelled_stmt (Continue at) = true
  levelled_stmt (Break at) = true
  levelled_stmt (Return at e) = levelled_maybe e

  pub levelled_block_item : BlockItem → Bool
  levelled_block_item (Declaring d) = levelled_declaration d
  levelled_block_item (Doing s) = levelled_stmt s

  pub levelled_block : BlockItems → Bool
  levelled_block NoStatements = true
  levelled_block (MoreStatements i is) = levelled_block_item i && levelled_block is

abbrev pub levelled_external : ExternalTree → Bool
levelled_external (Definition at ss d ds body_at body) =
    ((has_specifier ss && levelled_specifiers ss) && ((declares d && levelled_declarator d) && is_defined_by d ds)) && (levelled_declarations ds && levelled_block body)
levelled_external (External d) = levelled_declaration d

abbrev pub levelled_externals : UnitTree → Bool
levelled_externals [] = true
levelled_externals (d ∷ ds) = levelled_external d && levelled_externals ds

-- a unit has at least one external declaration (6.9)
abbrev pub levelled_unit : UnitTree → Bool
levelled_unit ds = has_some ds && levelled_externals ds
