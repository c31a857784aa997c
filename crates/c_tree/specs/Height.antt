-- Definition: the height of a syntax tree: its nesting depth (own; C11 5.2.4.1 asks for 63 nested parentheses and 127 nested blocks).
-- Nodes are expressions (adjacent literals are one), statements, declarations, the derivations of declarators, specifiers with a body and initialisers in braces. The braces of a compound literal belong to its node; those of a function's body are a statement.
-- An identifier, constant or literal has 1, and so have a typedef name, a tag and an absent identifier; a keyword has none. Another node has one more than its highest part.
use Rattle.std.specs.Prelude.{ℕ, ◌+◌, max, List, [], ◌∷◌, Option, Some, None}
use Rattle.cil_base.specs.declared.numbers.NameId.{NameId}
use Rattle.c_tree.specs.Syntax.{ExprTree, Name, Integer, Character, Literals, Parentheses, Index, Call, Member, Arrow, Postfix, CompoundLiteral, Prefix, Unary, SizeofExpr, SizeofType, AlignofType, Cast, Binary, Logical, Conditional, Assign, Comma, ExprTrees, NoExprs, MoreExprs, TypeNameTree, TypeName, SpecifierTree, Storage, Basic, Qualified, Functional, TypedefName, Tag, StructBody, EnumBody, SpecifierTrees, NoSpecifiers, MoreSpecifiers, MemberTree, MemberLine, MemberAssert, MemberTrees, NoMembers, MoreMembers, MemberDeclaratorTree, Plain, BitField, MemberDeclaratorTrees, NoMemberDeclarators, MoreMemberDeclarators, EnumeratorTree, Enumerates, EnumeratorTrees, NoEnumerators, MoreEnumerators, MaybeExpr, NoExpr, SomeExpr, DeclaratorTree, Declared, Absent, Grouped, Pointer, Array, Function, Unprototyped, BoundTree, Unspecified, Star, Size, StaticSize, SizeStatic, ParameterTree, Parameter, ParameterTrees, NoParameters, MoreParameters, InitTree, Single, Braces, ItemTree, Item, ItemTrees, NoItems, MoreItems, DesignatorTree, AtIndex, AtMember, DesignatorTrees, NoDesignators, MoreDesignators}
use Rattle.c_tree.specs.Units.{DeclarationTree, Declares, Asserts, ForStart, StartExpr, StartDeclaration, StmtTree, Labelled, Case, Default, Compound, Expression, If, IfElse, Switch, While, Do, For, Goto, Continue, Break, Return, BlockItem, Declaring, Doing, BlockItems, NoItems as NoStatements, MoreItems as MoreStatements, ExternalTree, Definition, External}

-- a tag that may be absent
abbrev pub tag_height : Option NameId → ℕ
tag_height None = 0
tag_height (Some tag) = 1

abbrev mutual
  pub expr_height : ExprTree → ℕ
  expr_height (Name at n) = 1
  expr_height (Integer at text) = 1
  expr_height (Character at text) = 1
  expr_height (Literals at texts) = 1
  expr_height (Parentheses at e) = 1 + expr_height e
  expr_height (Index at e i) = 1 + max (expr_height e) (expr_height i)
  expr_height (Call at e es) = 1 + max (expr_height e) (exprs_height es)
  expr_height (Member at e n) = 1 + expr_height e
  expr_height (Arrow at e n) = 1 + expr_height e
  expr_height (Postfix at e op) = 1 + expr_height e
  expr_height (CompoundLiteral at t items comma) = 1 + max (type_name_height t) (items_height items)
  expr_height (Prefix at op e) = 1 + expr_height e
  expr_height (Unary at op e) = 1 + expr_height e
  expr_height (SizeofExpr at e) = 1 + expr_height e
  expr_height (SizeofType at t) = 1 + type_name_height t
  expr_height (AlignofType at t) = 1 + type_name_height t
  expr_height (Cast at t e) = 1 + max (type_name_height t) (expr_height e)
  expr_height (Binary at op l r) = 1 + max (expr_height l) (expr_height r)
  expr_height (Logical at op l r) = 1 + max (expr_height l) (expr_height r)
  expr_height (Conditional at c a b) = 1 + max (max (expr_height c) (expr_height a)) (expr_height b)
  expr_height (Assign at op l r) = 1 + max (expr_height l) (expr_height r)
  expr_height (Comma at l r) = 1 + max (expr_height l) (expr_height r)

  pub exprs_height : ExprTrees → ℕ
  exprs_height NoExprs = 0
  exprs_height (MoreExprs e es) = max (expr_height e) (exprs_height es)

  -- a type name is no node of its own
  pub type_name_height : TypeNameTree → ℕ
  type_name_height (TypeName ss d) = max (specifiers_height ss) (declarator_height d)

  pub specifier_height : SpecifierTree → ℕ
  specifier_height (Storage at w) = 0
  specifier_height (Basic at w) = 0
  specifier_height (Qualified at w) = 0
  specifier_height (Functional at w) = 0
  specifier_height (TypedefName at n) = 1
  specifier_height (Tag at kind tag) = 1
  specifier_height (StructBody at kind tag members) = 1 + max (tag_height tag) (members_height members)
  specifier_height (EnumBody at tag es comma) = 1 + max (tag_height tag) (enumerators_height es)

  pub specifiers_height : SpecifierTrees → ℕ
  specifiers_height NoSpecifiers = 0
  specifiers_height (MoreSpecifiers s ss) = max (specifier_height s) (specifiers_height ss)

  pub member_height : MemberTree → ℕ
  member_height (MemberLine ss ds) = max (specifiers_height ss) (member_declarators_height ds)
  member_height (MemberAssert at e message_at message) = max (expr_height e) 1

  pub members_height : MemberTrees → ℕ
  members_height NoMembers = 0
  members_height (MoreMembers m ms) = max (member_height m) (members_height ms)

  pub member_declarator_height : MemberDeclaratorTree → ℕ
  member_declarator_height (Plain d) = declarator_height d
  member_declarator_height (BitField d width) = max (declarator_height d) (expr_height width)

  pub member_declarators_height : MemberDeclaratorTrees → ℕ
  member_declarators_height NoMemberDeclarators = 0
  member_declarators_height (MoreMemberDeclarators d ds) = max (member_declarator_height d) (member_declarators_height ds)

  pub enumerator_height : EnumeratorTree → ℕ
  enumerator_height (Enumerates at n value) = value_height value

  pub enumerators_height : EnumeratorTrees → ℕ
  enumerators_height NoEnumerators = 0
  enumerators_height (MoreEnumerators e es) = max (enumerator_height e) (enumerators_height es)

  -- the enumerator's own identifier has 1
  pub value_height : MaybeExpr → ℕ
  value_height NoExpr = 1
  value_height (SomeExpr e) = expr_height e

  pub declarator_height : DeclaratorTree → ℕ
  declarator_height (Declared at n) = 1
  declarator_height (Absent at) = 1
  declarator_height (Grouped at d) = 1 + declarator_height d
  declarator_height (Pointer at qs d) = 1 + declarator_height d
  declarator_height (Array at d b) = 1 + max (declarator_height d) (bound_height b)
  declarator_height (Function at d ps variadic) = 1 + max (declarator_height d) (parameters_height ps)
  declarator_height (Unprototyped at d names) = 1 + declarator_height d

  pub bound_height : BoundTree → ℕ
  bound_height (Unspecified at qs) = 0
  bound_height (Star at qs) = 0
  bound_height (Size at qs e) = expr_height e
  bound_height (StaticSize at qs e) = expr_height e
  bound_height (SizeStatic at qs e) = expr_height e

  pub parameter_height : ParameterTree → ℕ
  parameter_height (Parameter ss d) = max (specifiers_height ss) (declarator_height d)

  pub parameters_height : ParameterTrees → ℕ
  parameters_height NoParameters = 0
  parameters_height (MoreParameters p ps) = max (parameter_height p) (parameters_height ps)

  pub init_height : InitTree → ℕ
  init_height (Single e) = expr_height e
  init_height (Braces at items comma) = 1 + items_height items

  pub item_height : ItemTree → ℕ
  item_height (Item ds i) = max (designators_height ds) (init_height i)

  pub items_height : ItemTrees → ℕ
  items_height NoItems = 0
  items_height (MoreItems i is) = max (item_height i) (items_height is)

  pub designator_height : DesignatorTree → ℕ
  designator_height (AtIndex at e) = expr_height e
  designator_height (AtMember at n) = 1

  pub designators_height : DesignatorTrees → ℕ
  designators_height NoDesignators = 0
  designators_height (MoreDesignators d ds) = max (designator_height d) (designators_height ds)

-- the height of a part that may be absent
abbrev pub maybe_height : Option ExprTree → ℕ
maybe_height None = 0
maybe_height (Some e) = expr_height e

abbrev pub maybe_init_height : Option InitTree → ℕ
maybe_init_height None = 0
maybe_init_height (Some i) = init_height i

abbrev pub init_declarator_height : DeclaratorTree × Option InitTree → ℕ
init_declarator_height d = max (declarator_height d.0) (maybe_init_height d.1)

abbrev pub init_declarators_height : List (DeclaratorTree × Option InitTree) → ℕ
init_declarators_height [] = 0
init_declarators_height (d ∷ ds) = max (init_declarator_height d) (init_declarators_height ds)

abbrev pub declaration_height : DeclarationTree → ℕ
declaration_height (Declares at ss ds) = 1 + max (specifiers_height ss) (init_declarators_height ds)
declaration_height (Asserts at e message_at message) = 1 + max (expr_height e) 1

abbrev pub declarations_height : List DeclarationTree → ℕ
declarations_height [] = 0
declarations_height (d ∷ ds) = max (declaration_height d) (declarations_height ds)

abbrev pub start_height : ForStart → ℕ
start_height (StartExpr e) = maybe_height e
start_height (StartDeclaration d) = declaration_height d

abbrev mutual
  pub stmt_height : StmtTree → ℕ
  stmt_height (Labelled at n s) = 1 + stmt_height s
  stmt_height (Case at e s) = 1 + max (expr_height e) (stmt_height s)
  stmt_height (Default at s) = 1 + stmt_height s
  stmt_height (Compound at items) = 1 + block_height items
  stmt_height (Expression at e) = 1 + maybe_height e
  stmt_height (If at e s) = 1 + max (expr_height e) (stmt_height s)
  stmt_height (IfElse at e s u) = 1 + max (max (expr_height e) (stmt_height s)) (stmt_height u)
  stmt_height (Switch at e s) = 1 + max (expr_height e) (stmt_height s)
  stmt_height (While at e s) = 1 + max (expr_height e) (stmt_height s)
  stmt_height (Do at s e) = 1 + max (stmt_height s) (expr_height e)
  stmt_height (For at start c step s) = 1 + max (max (start_height start) (max (maybe_height c) (maybe_height step))) (stmt_height s)
  stmt_height (Goto at n) = 2
  stmt_height (Continue at) = 1
  stmt_height (Break at) = 1
  stmt_height (Return at e) = 1 + maybe_height e

  pub item_of_block_height : BlockItem → ℕ
  item_of_block_height (Declaring d) = declaration_height d
  item_of_block_height (Doing s) = stmt_height s

  pub block_height : BlockItems → ℕ
  block_height NoStatements = 0
  block_height (MoreStatements i is) = max (item_of_block_height i) (block_height is)

-- of an external declaration; a function's body is a compound statement
abbrev pub external_height : ExternalTree → ℕ
external_height (Definition at ss d ds body_at body) = 1 + max (max (max (specifiers_height ss) (declarator_height d)) (declarations_height ds)) (1 + block_height body)
external_height (External d) = declaration_height d
