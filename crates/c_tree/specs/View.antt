-- Definition: the plain tree that a tree of the code stands for.
use Rattle.std.specs.Prelude.{List, [], ◌∷◌, Option, Some, None, Box}
use Rattle.std.specs.declared.alloc.Global.{Global}
use Rattle.c_tree.specs.declared.expression.Expr.{Expr}
use Rattle.c_tree.specs.declared.expression.Expr.TheVariants.{Name as Expr-Name, Integer as Expr-Integer, Character as Expr-Character, Literals as Expr-Literals, Parentheses' as Expr-Parentheses, Index' as Expr-Index, Call' as Expr-Call, Member' as Expr-Member, Arrow' as Expr-Arrow, Postfix' as Expr-Postfix, CompoundLiteral' as Expr-CompoundLiteral, Prefix' as Expr-Prefix, Unary' as Expr-Unary, SizeofExpr' as Expr-SizeofExpr, SizeofType' as Expr-SizeofType, AlignofType' as Expr-AlignofType, Cast' as Expr-Cast, Binary' as Expr-Binary, Logical' as Expr-Logical, Conditional' as Expr-Conditional, Assign' as Expr-Assign, Comma' as Expr-Comma}
use Rattle.c_tree.specs.declared.expression.Specifier.{Specifier}
use Rattle.c_tree.specs.declared.expression.Specifier.TheVariants.{Storage as Specifier-Storage, Basic as Specifier-Basic, Qualifier as Specifier-Qualifier, Function as Specifier-Function, TypedefName as Specifier-TypedefName, Tag as Specifier-Tag, Members' as Specifier-Members, Enumerators' as Specifier-Enumerators}
use Rattle.c_tree.specs.declared.expression.MemberDeclaration.{MemberDeclaration}
use Rattle.c_tree.specs.declared.expression.MemberDeclaration.TheVariants.{Members' as MemberDeclaration-Members, StaticAssert' as MemberDeclaration-StaticAssert}
use Rattle.c_tree.specs.declared.expression.MemberDeclarator.{MemberDeclarator}
use Rattle.c_tree.specs.declared.expression.MemberDeclarator.TheVariants.{Plain as MemberDeclarator-Plain, BitField' as MemberDeclarator-BitField}
use Rattle.c_tree.specs.declared.expression.Declarator.{Declarator}
use Rattle.c_tree.specs.declared.expression.Declarator.TheVariants.{Name as Declarator-Name, Absent as Declarator-Absent, Parentheses' as Declarator-Parentheses, Pointer' as Declarator-Pointer, Array' as Declarator-Array, Function' as Declarator-Function, Identifiers' as Declarator-Identifiers}
use Rattle.c_tree.specs.declared.expression.ArrayBound.{ArrayBound}
use Rattle.c_tree.specs.declared.expression.ArrayBound.TheVariants.{Unspecified as ArrayBound-Unspecified, Star as ArrayBound-Star, Size' as ArrayBound-Size, StaticSize' as ArrayBound-StaticSize, SizeStatic' as ArrayBound-SizeStatic}
use Rattle.c_tree.specs.declared.expression.Init.{Init}
use Rattle.c_tree.specs.declared.expression.Init.TheVariants.{Expr' as Init-Expr, Braces' as Init-Braces}
use Rattle.c_tree.specs.declared.expression.Designator.{Designator}
use Rattle.c_tree.specs.declared.expression.Designator.TheVariants.{Index' as Designator-Index, Member as Designator-Member}
use Rattle.c_tree.specs.declared.expression.Enumerator.{Enumerator}
use Rattle.c_tree.specs.declared.expression.Parameter.{Parameter as ParameterRecord}
use Rattle.c_tree.specs.declared.expression.InitItem.{InitItem}
use Rattle.c_tree.specs.declared.expression.ArrayBound.TheBlock.{Row_of-Expr, end_of-Expr, more_of-Expr, Row_of-Specifier, end_of-Specifier, more_of-Specifier, Row_of-MemberDeclaration, end_of-MemberDeclaration, more_of-MemberDeclaration, Row_of-MemberDeclarator, end_of-MemberDeclarator, more_of-MemberDeclarator, Row_of-Enumerator, end_of-Enumerator, more_of-Enumerator, Row_of-Parameter, end_of-Parameter, more_of-Parameter, Row_of-InitItem, end_of-InitItem, more_of-InitItem, Row_of-Designator, end_of-Designator, more_of-Designator, Held-Enumerator-value, None', Some'}
use Rattle.c_tree.specs.Syntax.{ExprTree, Name, Integer, Character, Literals, Parentheses, Index, Call, Member, Arrow, Postfix, CompoundLiteral, Prefix, Unary, SizeofExpr, SizeofType, AlignofType, Cast, Binary, Logical, Conditional, Assign, Comma, TypeName, SpecifierTree, Storage, Basic, Qualified, Functional, TypedefName, Tag, StructBody, EnumBody, MemberTree, MemberLine, MemberAssert, MemberDeclaratorTree, Plain, BitField, DeclaratorTree, Declared, Absent, Grouped, Pointer, Array, Function, Unprototyped, BoundTree, Unspecified, Star, Size, StaticSize, SizeStatic, InitTree, Single, Braces, DesignatorTree, AtIndex, AtMember, ExprTrees, NoExprs, MoreExprs, SpecifierTrees, NoSpecifiers, MoreSpecifiers, MemberTrees, NoMembers, MoreMembers, MemberDeclaratorTrees, NoMemberDeclarators, MoreMemberDeclarators, EnumeratorTrees, NoEnumerators, MoreEnumerators, ParameterTrees, NoParameters, MoreParameters, ItemTrees, NoItems, MoreItems, DesignatorTrees, NoDesignators, MoreDesignators, EnumeratorTree, Enumerates, MaybeExpr, NoExpr, SomeExpr, ParameterTree, Parameter, ItemTree, Item}

abbrev mutual
  pub expr_of : Expr → ExprTree
  expr_of (Expr-Name a b) = Name a b
  expr_of (Expr-Integer a b) = Integer a b
  expr_of (Expr-Character a b) = Character a b
  expr_of (Expr-Literals a b) = Literals a b.items
  expr_of (Expr-Parentheses a pb b) = Parentheses a (expr_of b)
  expr_of (Expr-Index a pb b pc c) = Index a (expr_of b) (expr_of c)
  expr_of (Expr-Call a pb b nc c) = Call a (expr_of b) (exprs_row c)
  expr_of (Expr-Member a pb b c) = Member a (expr_of b) c
  expr_of (Expr-Arrow a pb b c) = Arrow a (expr_of b) c
  expr_of (Expr-Postfix a pb b c) = Postfix a (expr_of b) c
  expr_of (Expr-CompoundLiteral a pb nb b db nc c d) = CompoundLiteral a (TypeName (specifiers_row b) (declarator_of db)) (items_row c) d
  expr_of (Expr-Prefix a b pc c) = Prefix a b (expr_of c)
  expr_of (Expr-Unary a b pc c) = Unary a b (expr_of c)
  expr_of (Expr-SizeofExpr a pb b) = SizeofExpr a (expr_of b)
  expr_of (Expr-SizeofType a pb nb b db) = SizeofType a (TypeName (specifiers_row b) (declarator_of db))
  expr_of (Expr-AlignofType a pb nb b db) = AlignofType a (TypeName (specifiers_row b) (declarator_of db))
  expr_of (Expr-Cast a pb nb b db pc c) = Cast a (TypeName (specifiers_row b) (declarator_of db)) (expr_of c)
  expr_of (Expr-Binary a b pc c pd d) = Binary a b (expr_of c) (expr_of d)
  expr_of (Expr-Logical a b pc c pd d) = Logical a b (expr_of c) (expr_of d)
  expr_of (Expr-Conditional a pb b pc c pd d) = Conditional a (expr_of b) (expr_of c) (expr_of d)
  expr_of (Expr-Assign a b pc c pd d) = Assign a b (expr_of c) (expr_of d)
  expr_of (Expr-Comma a pb b pc c) = Comma a (expr_of b) (expr_of c)

  pub specifier_of : Specifier → SpecifierTree
  specifier_of (Specifier-Storage a b) = Storage a b
  specifier_of (Specifier-Basic a b) = Basic a b
  specifier_of (Specifier-Qualifier a b) = Qualified a b
  specifier_of (Specifier-Function a b) = Functional a b
  specifier_of (Specifier-TypedefName a b) = TypedefName a b
  specifier_of (Specifier-Tag a b c) = Tag a b c
  specifier_of (Specifier-Members a b c nd d) = StructBody a b c (members_row d)
  specifier_of (Specifier-Enumerators a b nc c d) = EnumBody a b (enumerators_row c) d

  pub member_of : MemberDeclaration → MemberTree
  member_of (MemberDeclaration-Members na a nb b) = MemberLine (specifiers_row a) (member_declarators_row b)
  member_of (MemberDeclaration-StaticAssert a pb b c d) = MemberAssert a (expr_of b) c d.items

  pub member_declarator_of : MemberDeclarator → MemberDeclaratorTree
  member_declarator_of (MemberDeclarator-Plain a) = Plain (declarator_of a)
  member_declarator_of (MemberDeclarator-BitField a pb b) = BitField (declarator_of a) (expr_of b)

  pub declarator_of : Declarator → DeclaratorTree
  declarator_of (Declarator-Name a b) = Declared a b
  declarator_of (Declarator-Absent a) = Absent a
  declarator_of (Declarator-Parentheses a pb b) = Grouped a (declarator_of b)
  declarator_of (Declarator-Pointer a b pc c) = Pointer a b.items (declarator_of c)
  declarator_of (Declarator-Array a pb b c) = Array a (declarator_of b) (bound_of c)
  declarator_of (Declarator-Function a pb b nc c d) = Function a (declarator_of b) (parameters_row c) d
  declarator_of (Declarator-Identifiers a pb b c) = Unprototyped a (declarator_of b) c.items

  pub bound_of : ArrayBound → BoundTree
  bound_of (ArrayBound-Unspecified a b) = Unspecified a b.items
  bound_of (ArrayBound-Star a b) = Star a b.items
  bound_of (ArrayBound-Size a b pc c) = Size a b.items (expr_of c)
  bound_of (ArrayBound-StaticSize a b pc c) = StaticSize a b.items (expr_of c)
  bound_of (ArrayBound-SizeStatic a b pc c) = SizeStatic a b.items (expr_of c)

  pub init_of : Init → InitTree
  init_of (Init-Expr pa a) = Single (expr_of a)
  init_of (Init-Braces a nb b c) = Braces a (items_row b) c

  pub designator_of : Designator → DesignatorTree
  designator_of (Designator-Index a pb b) = AtIndex a (expr_of b)
  designator_of (Designator-Member a b) = AtMember a b

  pub value_of : Held-Enumerator-value → MaybeExpr
  value_of None' = NoExpr
  value_of (Some' p e) = SomeExpr (expr_of e)

  pub exprs_row : {m : _} → Row_of-Expr m → ExprTrees
  exprs_row end_of-Expr = NoExprs
  exprs_row (more_of-Expr e rest) = MoreExprs (expr_of e) (exprs_row rest)

  pub specifiers_row : {m : _} → Row_of-Specifier m → SpecifierTrees
  specifiers_row end_of-Specifier = NoSpecifiers
  specifiers_row (more_of-Specifier s rest) = MoreSpecifiers (specifier_of s) (specifiers_row rest)

  pub members_row : {m : _} → Row_of-MemberDeclaration m → MemberTrees
  members_row end_of-MemberDeclaration = NoMembers
  members_row (more_of-MemberDeclaration m rest) = MoreMembers (member_of m) (members_row rest)

  pub member_declarators_row : {m : _} → Row_of-MemberDeclarator m → MemberDeclaratorTrees
  member_declarators_row end_of-MemberDeclarator = NoMemberDeclarators
  member_declarators_row (more_of-MemberDeclarator d rest) = MoreMemberDeclarators (member_declarator_of d) (member_declarators_row rest)

  pub enumerators_row : {m : _} → Row_of-Enumerator m → EnumeratorTrees
  enumerators_row end_of-Enumerator = NoEnumerators
  enumerators_row (more_of-Enumerator at name value rest) = MoreEnumerators (Enumerates at name (value_of value)) (enumerators_row rest)

  pub parameters_row : {m : _} → Row_of-Parameter m → ParameterTrees
  parameters_row end_of-Parameter = NoParameters
  parameters_row (more_of-Parameter n specifiers d rest) = MoreParameters (Parameter (specifiers_row specifiers) (declarator_of d)) (parameters_row rest)

  pub items_row : {m : _} → Row_of-InitItem m → ItemTrees
  items_row end_of-InitItem = NoItems
  items_row (more_of-InitItem n designators i rest) = MoreItems (Item (designators_row designators) (init_of i)) (items_row rest)

  pub designators_row : {m : _} → Row_of-Designator m → DesignatorTrees
  designators_row end_of-Designator = NoDesignators
  designators_row (more_of-Designator d rest) = MoreDesignators (designator_of d) (designators_row rest)

-- A list of the code's trees, as a tree.

abbrev pub exprs_of : List Expr → ExprTrees
exprs_of [] = NoExprs
exprs_of (e ∷ es) = MoreExprs (expr_of e) (exprs_of es)

abbrev pub specifiers_of : List Specifier → SpecifierTrees
specifiers_of [] = NoSpecifiers
specifiers_of (s ∷ ss) = MoreSpecifiers (specifier_of s) (specifiers_of ss)

abbrev pub members_of : List MemberDeclaration → MemberTrees
members_of [] = NoMembers
members_of (m ∷ ms) = MoreMembers (member_of m) (members_of ms)

abbrev pub member_declarators_of : List MemberDeclarator → MemberDeclaratorTrees
member_declarators_of [] = NoMemberDeclarators
member_declarators_of (d ∷ ds) = MoreMemberDeclarators (member_declarator_of d) (member_declarators_of ds)

abbrev pub maybe_of : Option (Box Expr Global) → MaybeExpr
maybe_of None = NoExpr
maybe_of (Some e) = SomeExpr (expr_of e.value)

abbrev pub enumerator_of : Enumerator → EnumeratorTree
enumerator_of e = Enumerates e.at e.name (maybe_of e.value)

abbrev pub enumerators_of : List Enumerator → EnumeratorTrees
enumerators_of [] = NoEnumerators
enumerators_of (e ∷ es) = MoreEnumerators (enumerator_of e) (enumerators_of es)

abbrev pub parameter_of : ParameterRecord → ParameterTree
parameter_of p = Parameter (specifiers_of p.specifiers.items) (declarator_of p.declarator)

abbrev pub parameters_of : List ParameterRecord → ParameterTrees
parameters_of [] = NoParameters
parameters_of (p ∷ ps) = MoreParameters (parameter_of p) (parameters_of ps)

abbrev pub designators_of : List Designator → DesignatorTrees
designators_of [] = NoDesignators
designators_of (d ∷ ds) = MoreDesignators (designator_of d) (designators_of ds)

abbrev pub item_of : InitItem → ItemTree
item_of i = Item (designators_of i.designators.items) (init_of i.init)

abbrev pub items_of : List InitItem → ItemTrees
items_of [] = NoItems
items_of (i ∷ is) = MoreItems (item_of i) (items_of is)
