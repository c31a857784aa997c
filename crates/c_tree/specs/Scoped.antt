-- Definition: typedef names by scope (C11 6.2.1, 6.7.8). Where an identifier can stand as a specifier or as an expression, its innermost declaration in scope decides which it is.
-- `after_..` is the scopes behind a tree, from those in front of it; it asks of no name whether it is a typedef name. `scoped_..` says whether each identifier of a tree may stand where it does.
-- A tree's parts are gone through in the order of the text. Names of members, tags, labels and designators are free (6.2.3), and so are declared names, but directly behind specifiers without a type specifier.
use Rattle.std.specs.Prelude.{Bool, true, false, not, ◌&&◌, ◌||◌, List, [], ◌∷◌, ◌++◌, Option, Some, None, if◌then◌else◌}
use Rattle.cil_base.specs.declared.numbers.NameId.{NameId}
use Rattle.typedef_scopes.specs.Scopes.{Scope, is_type, declared}
use Rattle.c_tree.specs.declared.words.StorageClass.{StorageClass}
use Rattle.c_tree.specs.declared.words.StorageClass.TheVariants.{Typedef, Extern, Static, Auto, Register}
use Rattle.c_tree.specs.Syntax.{ExprTree, Name, Integer, Character, Literals, Parentheses, Index, Call, Member, Arrow, Postfix, CompoundLiteral, Prefix, Unary, SizeofExpr, SizeofType, AlignofType, Cast, Binary, Logical, Conditional, Assign, Comma, ExprTrees, NoExprs, MoreExprs, TypeNameTree, TypeName, SpecifierTree, Storage, Basic, Qualified, Functional, TypedefName, Tag, StructBody, EnumBody, SpecifierTrees, NoSpecifiers, MoreSpecifiers, MemberTree, MemberLine, MemberAssert, MemberTrees, NoMembers, MoreMembers, MemberDeclaratorTree, Plain, BitField, MemberDeclaratorTrees, NoMemberDeclarators, MoreMemberDeclarators, EnumeratorTree, Enumerates, EnumeratorTrees, NoEnumerators, MoreEnumerators, MaybeExpr, NoExpr, SomeExpr, DeclaratorTree, Declared, Absent, Grouped, Pointer, Array, Function, Unprototyped, BoundTree, Unspecified, Star, Size, StaticSize, SizeStatic, ParameterTree, Parameter, ParameterTrees, NoParameters, MoreParameters, InitTree, Single, Braces, ItemTree, Item, ItemTrees, NoItems, MoreItems, DesignatorTree, AtIndex, AtMember, DesignatorTrees, NoDesignators, MoreDesignators}
use Rattle.c_tree.specs.Units.{DeclarationTree, Declares, Asserts, ForStart, StartExpr, StartDeclaration, StmtTree, Labelled, Case, Default, Compound, Expression, If, IfElse, Switch, While, Do, For, Goto, Continue, Break, Return, BlockItem, Declaring, Doing, BlockItems, NoItems as NoStatements, MoreItems as MoreStatements, ExternalTree, Definition, External, UnitTree}
use Rattle.c_tree.specs.Levels.{is_underived}

-- a block or a parameter list begins a scope (6.2.1p4)
abbrev pub entered : List Scope → List Scope
entered scopes = scopes ++ [] ∷ []

-- no typedef name in scope, or no name at all
abbrev pub is_no_type : List Scope → Option NameId → Bool
is_no_type scopes None = true
is_no_type scopes (Some n) = not (is_type scopes n)

-- a type specifier (6.7.2)
abbrev pub names_type : SpecifierTree → Bool
names_type (Storage at w) = false
names_type (Basic at w) = true
names_type (Qualified at w) = false
names_type (Functional at w) = false
names_type (TypedefName at n) = true
names_type (Tag at kind tag) = true
names_type (StructBody at kind tag ms) = true
names_type (EnumBody at tag es comma) = true

abbrev pub has_type_specifier : SpecifierTrees → Bool
has_type_specifier NoSpecifiers = false
has_type_specifier (MoreSpecifiers s ss) = names_type s || has_type_specifier ss

abbrev pub is_typedef_word : StorageClass → Bool
is_typedef_word Typedef = true
is_typedef_word Extern = false
is_typedef_word Static = false
is_typedef_word Auto = false
is_typedef_word Register = false

abbrev pub is_typedef : SpecifierTree → Bool
is_typedef (Storage at w) = is_typedef_word w
is_typedef _ = false

-- what is declared with these specifiers is a typedef name (6.7.8p3)
abbrev pub has_typedef : SpecifierTrees → Bool
has_typedef NoSpecifiers = false
has_typedef (MoreSpecifiers s ss) = is_typedef s || has_typedef ss

-- the declared identifier
abbrev pub name_of : DeclaratorTree → Option NameId
name_of (Declared at n) = Some n
name_of (Absent at) = None
name_of (Grouped at d) = name_of d
name_of (Pointer at qs d) = name_of d
name_of (Array at d b) = name_of d
name_of (Function at d ps variadic) = name_of d
name_of (Unprototyped at d names) = name_of d

-- the declared identifier where it is the first token of the declarator
abbrev pub first_name : DeclaratorTree → Option NameId
first_name (Declared at n) = Some n
first_name (Absent at) = None
first_name (Grouped at d) = None
first_name (Pointer at qs d) = None
first_name (Array at d b) = first_name d
first_name (Function at d ps variadic) = first_name d
first_name (Unprototyped at d names) = first_name d

-- of the first declarator of a line of members
abbrev pub first_member_name : MemberDeclaratorTrees → Option NameId
first_member_name NoMemberDeclarators = None
first_member_name (MoreMemberDeclarators (Plain d) rest) = first_name d
first_member_name (MoreMemberDeclarators (BitField d width) rest) = first_name d

-- a typedef name in scope directly behind specifiers without a type specifier is one more specifier, and no declared name (6.7.2p2, 6.7.8)
abbrev pub stands_behind : List Scope → SpecifierTrees → Option NameId → Bool
stands_behind scopes ss first = has_type_specifier ss || is_no_type scopes first

-- in a parameter an identifier directly behind `(` that is a typedef name in scope is no declared name, so that the parenthesis begins a parameter list (6.7.6.3p11; that the token alone decides is own)
abbrev pub takes_typedef_names : List Scope → DeclaratorTree → Bool
takes_typedef_names scopes (Declared at n) = true
takes_typedef_names scopes (Absent at) = true
takes_typedef_names scopes (Grouped at d) = is_no_type scopes (first_name d) && takes_typedef_names scopes d
takes_typedef_names scopes (Pointer at qs d) = takes_typedef_names scopes d
takes_typedef_names scopes (Array at d b) = takes_typedef_names scopes d
takes_typedef_names scopes (Function at d ps variadic) = takes_typedef_names scopes d
takes_typedef_names scopes (Unprototyped at d names) = takes_typedef_names scopes d

-- an identifier list has no typedef name in scope (6.9.1p6)
abbrev pub are_no_types : List Scope → List NameId → Bool
are_no_types scopes [] = true
are_no_types scopes (n ∷ ns) = not (is_type scopes n) && are_no_types scopes ns

-- one declaration more in the innermost scope, where there is a name
abbrev pub declared_if : Option NameId → Bool → List Scope → List Scope
declared_if None typedef scopes = scopes
declared_if (Some n) typedef scopes = declared n typedef scopes

-- the identifiers of a list, as no typedef names
abbrev pub declared_all : List Scope → List NameId → List Scope
declared_all scopes [] = scopes
declared_all scopes (n ∷ ns) = declared_all (declared n false scopes) ns

-- the scopes behind a tree: enumerators are declared in them, each behind its own value (6.2.1p7), and parameters until the end of their list (6.2.1p4)
abbrev mutual
  pub after_expr : List Scope → ExprTree → List Scope
  after_expr scopes (Name at n) = scopes
  after_expr scopes (Integer at text) = scopes
  after_expr scopes (Character at text) = scopes
  after_expr scopes (Literals at texts) = scopes
  after_expr scopes (Parentheses at e) = after_expr scopes e
  after_expr scopes (Index at e i) = after_expr (after_expr scopes e) i
  after_expr scopes (Call at e es) = after_exprs (after_expr scopes e) es
  after_expr scopes (Member at e n) = after_expr scopes e
  after_expr scopes (Arrow at e n) = after_expr scopes e
  after_expr scopes (Postfix at e op) = after_expr scopes e
  after_expr scopes (CompoundLiteral at t items comma) = after_items (after_type_name scopes t) items
  after_expr scopes (Prefix at op e) = after_expr scopes e
  after_expr scopes (Unary at op e) = after_expr scopes e
  after_expr scopes (SizeofExpr at e) = after_expr scopes e
  after_expr scopes (SizeofType at t) = after_type_name scopes t
  after_expr scopes (AlignofType at t) = after_type_name scopes t
  after_expr scopes (Cast at t e) = after_expr (after_type_name scopes t) e
  after_expr scopes (Binary at op l r) = after_expr (after_expr scopes l) r
  after_expr scopes (Logical at op l r) = after_expr (after_expr scopes l) r
  after_expr scopes (Conditional at c a b) = after_expr (after_expr (after_expr scopes c) a) b
  after_expr scopes (Assign at op l r) = after_expr (after_expr scopes l) r
  after_expr scopes (Comma at l r) = after_expr (after_expr scopes l) r

  pub after_exprs : List Scope → ExprTrees → List Scope
  after_exprs scopes NoExprs = scopes
  after_exprs scopes (MoreExprs e es) = after_exprs (after_expr scopes e) es

  pub after_type_name : List Scope → TypeNameTree → List Scope
  after_type_name scopes (TypeName ss d) = after_declarator (after_specifiers scopes ss) d

  pub after_specifier : List Scope → SpecifierTree → List Scope
  after_specifier scopes (Storage at w) = scopes
  after_specifier scopes (Basic at w) = scopes
  after_specifier scopes (Qualified at w) = scopes
  after_specifier scopes (Functional at w) = scopes
  after_specifier scopes (TypedefName at n) = scopes
  after_specifier scopes (Tag at kind tag) = scopes
  after_specifier scopes (StructBody at kind tag members) = after_members scopes members
  after_specifier scopes (EnumBody at tag es comma) = after_enumerators scopes es

  pub after_specifiers : List Scope → SpecifierTrees → List Scope
  after_specifiers scopes NoSpecifiers = scopes
  after_specifiers scopes (MoreSpecifiers s ss) = after_specifiers (after_specifier scopes s) ss

  -- members have a name space of their own, and no scope (6.2.3)
  pub after_member : List Scope → MemberTree → List Scope
  after_member scopes (MemberLine ss ds) = after_member_declarators (after_specifiers scopes ss) ds
  after_member scopes (MemberAssert at e message_at message) = after_expr scopes e

  pub after_members : List Scope → MemberTrees → List Scope
  after_members scopes NoMembers = scopes
  after_members scopes (MoreMembers m ms) = after_members (after_member scopes m) ms

  pub after_member_declarator : List Scope → MemberDeclaratorTree → List Scope
  after_member_declarator scopes (Plain d) = after_declarator scopes d
  after_member_declarator scopes (BitField d width) = after_expr (after_declarator scopes d) width

  pub after_member_declarators : List Scope → MemberDeclaratorTrees → List Scope
  after_member_declarators scopes NoMemberDeclarators = scopes
  after_member_declarators scopes (MoreMemberDeclarators d ds) = after_member_declarators (after_member_declarator scopes d) ds

  pub after_enumerator : List Scope → EnumeratorTree → List Scope
  after_enumerator scopes (Enumerates at n value) = declared n false (after_value scopes value)

  pub after_enumerators : List Scope → EnumeratorTrees → List Scope
  after_enumerators scopes NoEnumerators = scopes
  after_enumerators scopes (MoreEnumerators e es) = after_enumerators (after_enumerator scopes e) es

  pub after_value : List Scope → MaybeExpr → List Scope
  after_value scopes NoExpr = scopes
  after_value scopes (SomeExpr e) = after_expr scopes e

  -- the declared name is declared by what the declarator belongs to; a parameter list is left at its end
  pub after_declarator : List Scope → DeclaratorTree → List Scope
  after_declarator scopes (Declared at n) = scopes
  after_declarator scopes (Absent at) = scopes
  after_declarator scopes (Grouped at d) = after_declarator scopes d
  after_declarator scopes (Pointer at qs d) = after_declarator scopes d
  after_declarator scopes (Array at d b) = after_bound (after_declarator scopes d) b
  after_declarator scopes (Function at d ps variadic) = after_declarator scopes d
  after_declarator scopes (Unprototyped at d names) = after_declarator scopes d

  pub after_bound : List Scope → BoundTree → List Scope
  after_bound scopes (Unspecified at qs) = scopes
  after_bound scopes (Star at qs) = scopes
  after_bound scopes (Size at qs e) = after_expr scopes e
  after_bound scopes (StaticSize at qs e) = after_expr scopes e
  after_bound scopes (SizeStatic at qs e) = after_expr scopes e

  -- within the list
  pub after_parameter : List Scope → ParameterTree → List Scope
  after_parameter scopes (Parameter ss d) = declared_if (name_of d) (has_typedef ss) (after_declarator (after_specifiers scopes ss) d)

  pub after_parameters : List Scope → ParameterTrees → List Scope
  after_parameters scopes NoParameters = scopes
  after_parameters scopes (MoreParameters p ps) = after_parameters (after_parameter scopes p) ps

  pub after_init : List Scope → InitTree → List Scope
  after_init scopes (Single e) = after_expr scopes e
  after_init scopes (Braces at items comma) = after_items scopes items

  pub after_item : List Scope → ItemTree → List Scope
  after_item scopes (Item ds i) = after_init (after_designators scopes ds) i

  pub after_items : List Scope → ItemTrees → List Scope
  after_items scopes NoItems = scopes
  after_items scopes (MoreItems i is) = after_items (after_item scopes i) is

  pub after_designator : List Scope → DesignatorTree → List Scope
  after_designator scopes (AtIndex at e) = after_expr scopes e
  after_designator scopes (AtMember at n) = scopes

  pub after_designators : List Scope → DesignatorTrees → List Scope
  after_designators scopes NoDesignators = scopes
  after_designators scopes (MoreDesignators d ds) = after_designators (after_designator scopes d) ds

-- an identifier stands as an expression only where it is no typedef name in scope (6.5.1p2), as a specifier only where it is one and no type specifier stands before it among the same specifiers (6.7.2p2)
abbrev mutual
  pub scoped_expr : List Scope → ExprTree → Bool
  scoped_expr scopes (Name at n) = not (is_type scopes n)
  scoped_expr scopes (Integer at text) = true
  scoped_expr scopes (Character at text) = true
  scoped_expr scopes (Literals at texts) = true
  scoped_expr scopes (Parentheses at e) = scoped_expr scopes e
  scoped_expr scopes (Index at e i) = scoped_expr scopes e && scoped_expr (after_expr scopes e) i
  scoped_expr scopes (Call at e es) = scoped_expr scopes e && scoped_exprs (after_expr scopes e) es
  scoped_expr scopes (Member at e n) = scoped_expr scopes e
  scoped_expr scopes (Arrow at e n) = scoped_expr scopes e
  scoped_expr scopes (Postfix at e op) = scoped_expr scopes e
  scoped_expr scopes (CompoundLiteral at t items comma) = scoped_type_name scopes t && scoped_items (after_type_name scopes t) items
  scoped_expr scopes (Prefix at op e) = scoped_expr scopes e
  scoped_expr scopes (Unary at op e) = scoped_expr scopes e
  scoped_expr scopes (SizeofExpr at e) = scoped_expr scopes e
  scoped_expr scopes (SizeofType at t) = scoped_type_name scopes t
  scoped_expr scopes (AlignofType at t) = scoped_type_name scopes t
  scoped_expr scopes (Cast at t e) = scoped_type_name scopes t && scoped_expr (after_type_name scopes t) e
  scoped_expr scopes (Binary at op l r) = scoped_expr scopes l && scoped_expr (after_expr scopes l) r
  scoped_expr scopes (Logical at op l r) = scoped_expr scopes l && scoped_expr (after_expr scopes l) r
  scoped_expr scopes (Conditional at c a b) = scoped_expr scopes c && (scoped_expr (after_expr scopes c) a && scoped_expr (after_expr (after_expr scopes c) a) b)
  scoped_expr scopes (Assign at op l r) = scoped_expr scopes l && scoped_expr (after_expr scopes l) r
  scoped_expr scopes (Comma at l r) = scoped_expr scopes l && scoped_expr (after_expr scopes l) r

  pub scoped_exprs : List Scope → ExprTrees → Bool
  scoped_exprs scopes NoExprs = true
  scoped_exprs scopes (MoreExprs e es) = scoped_expr scopes e && scoped_exprs (after_expr scopes e) es

  pub scoped_type_name : List Scope → TypeNameTree → Bool
  scoped_type_name scopes (TypeName ss d) = scoped_specifiers false scopes ss && scoped_declarator (after_specifiers scopes ss) d

  -- `typed`: a type specifier stands before it among the same specifiers
  pub scoped_specifier : Bool → List Scope → SpecifierTree → Bool
  scoped_specifier typed scopes (Storage at w) = true
  scoped_specifier typed scopes (Basic at w) = true
  scoped_specifier typed scopes (Qualified at w) = true
  scoped_specifier typed scopes (Functional at w) = true
  scoped_specifier typed scopes (TypedefName at n) = not typed && is_type scopes n
  scoped_specifier typed scopes (Tag at kind tag) = true
  scoped_specifier typed scopes (StructBody at kind tag members) = scoped_members scopes members
  scoped_specifier typed scopes (EnumBody at tag es comma) = scoped_enumerators scopes es

  pub scoped_specifiers : Bool → List Scope → SpecifierTrees → Bool
  scoped_specifiers typed scopes NoSpecifiers = true
  scoped_specifiers typed scopes (MoreSpecifiers s ss) = scoped_specifier typed scopes s && scoped_specifiers (typed || names_type s) (after_specifier scopes s) ss

  pub scoped_member : List Scope → MemberTree → Bool
  scoped_member scopes (MemberLine ss ds) =
      scoped_specifiers false scopes ss && (stands_behind (after_specifiers scopes ss) ss (first_member_name ds) && scoped_member_declarators (after_specifiers scopes ss) ds)
  scoped_member scopes (MemberAssert at e message_at message) = scoped_expr scopes e

  pub scoped_members : List Scope → MemberTrees → Bool
  scoped_members scopes NoMembers = true
  scoped_members scopes (MoreMembers m ms) = scoped_member scopes m && scoped_members (after_member scopes m) ms

  pub scoped_member_declarator : List Scope → MemberDeclaratorTree → Bool
  scoped_member_declarator scopes (Plain d) = scoped_declarator scopes d
  scoped_member_declarator scopes (BitField d width) = scoped_declarator scopes d && scoped_expr (after_declarator scopes d) width

  pub scoped_member_declarators : List Scope → MemberDeclaratorTrees → Bool
  scoped_member_declarators scopes NoMemberDeclarators = true
  scoped_member_declarators scopes (MoreMemberDeclarators d ds) = scoped_member_declarator scopes d && scoped_member_declarators (after_member_declarator scopes d) ds

  pub scoped_enumerator : List Scope → EnumeratorTree → Bool
  scoped_enumerator scopes (Enumerates at n value) = scoped_value scopes value

  pub scoped_enumerators : List Scope → EnumeratorTrees → Bool
  scoped_enumerators scopes NoEnumerators = true
  scoped_enumerators scopes (MoreEnumerators e es) = scoped_enumerator scopes e && scoped_enumerators (after_enumerator scopes e) es

  pub scoped_value : List Scope → MaybeExpr → Bool
  scoped_value scopes NoExpr = true
  scoped_value scopes (SomeExpr e) = scoped_expr scopes e

  -- a parameter list has a scope of its own (6.2.1p4)
  pub scoped_declarator : List Scope → DeclaratorTree → Bool
  scoped_declarator scopes (Declared at n) = true
  scoped_declarator scopes (Absent at) = true
  scoped_declarator scopes (Grouped at d) = scoped_declarator scopes d
  scoped_declarator scopes (Pointer at qs d) = scoped_declarator scopes d
  scoped_declarator scopes (Array at d b) = scoped_declarator scopes d && scoped_bound (after_declarator scopes d) b
  scoped_declarator scopes (Function at d ps variadic) = scoped_declarator scopes d && scoped_parameters (entered (after_declarator scopes d)) ps
  scoped_declarator scopes (Unprototyped at d names) = scoped_declarator scopes d && are_no_types (after_declarator scopes d) names

  pub scoped_bound : List Scope → BoundTree → Bool
  scoped_bound scopes (Unspecified at qs) = true
  scoped_bound scopes (Star at qs) = true
  scoped_bound scopes (Size at qs e) = scoped_expr scopes e
  scoped_bound scopes (StaticSize at qs e) = scoped_expr scopes e
  scoped_bound scopes (SizeStatic at qs e) = scoped_expr scopes e

  pub scoped_parameter : List Scope → ParameterTree → Bool
  scoped_parameter scopes (Parameter ss d) =
      (scoped_specifiers false scopes ss && stands_behind (after_specifiers scopes ss) ss (first_name d))
      && (takes_typedef_names (after_specifiers scopes ss) d && scoped_declarator (after_specifiers scopes ss) d)

  -- each in the scope of those before it
  pub scoped_parameters : List Scope → ParameterTrees → Bool
  scoped_parameters scopes NoParameters = true
  scoped_parameters scopes (MoreParameters p ps) = scoped_parameter scopes p && scoped_parameters (after_parameter scopes p) ps

  pub scoped_init : List Scope → InitTree → Bool
  scoped_init scopes (Single e) = scoped_expr scopes e
  scoped_init scopes (Braces at items comma) = scoped_items scopes items

  pub scoped_item : List Scope → ItemTree → Bool
  scoped_item scopes (Item ds i) = scoped_designators scopes ds && scoped_init (after_designators scopes ds) i

  pub scoped_items : List Scope → ItemTrees → Bool
  scoped_items scopes NoItems = true
  scoped_items scopes (MoreItems i is) = scoped_item scopes i && scoped_items (after_item scopes i) is

  pub scoped_designator : List Scope → DesignatorTree → Bool
  scoped_designator scopes (AtIndex at e) = scoped_expr scopes e
  scoped_designator scopes (AtMember at n) = true

  pub scoped_designators : List Scope → DesignatorTrees → Bool
  scoped_designators scopes NoDesignators = true
  scoped_designators scopes (MoreDesignators d ds) = scoped_designator scopes d && scoped_designators (after_designator scopes d) ds

-- an expression or an initialiser that may be left out
abbrev pub after_maybe : List Scope → Option ExprTree → List Scope
after_maybe scopes None = scopes
after_maybe scopes (Some e) = after_expr scopes e

abbrev pub scoped_maybe : List Scope → Option ExprTree → Bool
scoped_maybe scopes None = true
scoped_maybe scopes (Some e) = scoped_expr scopes e

abbrev pub after_maybe_init : List Scope → Option InitTree → List Scope
after_maybe_init scopes None = scopes
after_maybe_init scopes (Some i) = after_init scopes i

abbrev pub scoped_maybe_init : List Scope → Option InitTree → Bool
scoped_maybe_init scopes None = true
scoped_maybe_init scopes (Some i) = scoped_init scopes i

-- the scope of a declared identifier begins just behind its declarator (6.2.1p7); `typedef`: it is declared as a typedef name
abbrev pub after_named : Bool → List Scope → DeclaratorTree → List Scope
after_named typedef scopes d = declared_if (name_of d) typedef (after_declarator scopes d)

abbrev pub after_init_declarator : Bool → List Scope → DeclaratorTree × Option InitTree → List Scope
after_init_declarator typedef scopes d = after_maybe_init (after_named typedef scopes d.0) d.1

abbrev pub scoped_init_declarator : Bool → List Scope → DeclaratorTree × Option InitTree → Bool
scoped_init_declarator typedef scopes d = scoped_declarator scopes d.0 && scoped_maybe_init (after_named typedef scopes d.0) d.1

abbrev pub after_init_declarators : Bool → List Scope → List (DeclaratorTree × Option InitTree) → List Scope
after_init_declarators typedef scopes [] = scopes
after_init_declarators typedef scopes (d ∷ ds) = after_init_declarators typedef (after_init_declarator typedef scopes d) ds

abbrev pub scoped_init_declarators : Bool → List Scope → List (DeclaratorTree × Option InitTree) → Bool
scoped_init_declarators typedef scopes [] = true
scoped_init_declarators typedef scopes (d ∷ ds) = scoped_init_declarator typedef scopes d && scoped_init_declarators typedef (after_init_declarator typedef scopes d) ds

-- of the first declarator of a declaration
abbrev pub first_init_name : List (DeclaratorTree × Option InitTree) → Option NameId
first_init_name [] = None
first_init_name (d ∷ ds) = first_name d.0

abbrev pub after_declaration : List Scope → DeclarationTree → List Scope
after_declaration scopes (Declares at ss ds) = after_init_declarators (has_typedef ss) (after_specifiers scopes ss) ds
after_declaration scopes (Asserts at e message_at message) = after_expr scopes e

abbrev pub scoped_declaration : List Scope → DeclarationTree → Bool
scoped_declaration scopes (Declares at ss ds) =
    scoped_specifiers false scopes ss && (stands_behind (after_specifiers scopes ss) ss (first_init_name ds) && scoped_init_declarators (has_typedef ss) (after_specifiers scopes ss) ds)
scoped_declaration scopes (Asserts at e message_at message) = scoped_expr scopes e

abbrev pub after_declarations : List Scope → List DeclarationTree → List Scope
after_declarations scopes [] = scopes
after_declarations scopes (d ∷ ds) = after_declarations (after_declaration scopes d) ds

abbrev pub scoped_declarations : List Scope → List DeclarationTree → Bool
scoped_declarations scopes [] = true
scoped_declarations scopes (d ∷ ds) = scoped_declaration scopes d && scoped_declarations (after_declaration scopes d) ds

abbrev pub after_start : List Scope → ForStart → List Scope
after_start scopes (StartExpr e) = after_maybe scopes e
after_start scopes (StartDeclaration d) = after_declaration scopes d

abbrev pub scoped_start : List Scope → ForStart → Bool
scoped_start scopes (StartExpr e) = scoped_maybe scopes e
scoped_start scopes (StartDeclaration d) = scoped_declaration scopes d

-- compound, selection and iteration statements are blocks (6.8.2, 6.8.4p3, 6.8.5p5), whose scopes are left at their end
abbrev pub after_stmt : List Scope → StmtTree → List Scope
after_stmt scopes (Labelled at n s) = after_stmt scopes s
after_stmt scopes (Case at e s) = after_stmt (after_expr scopes e) s
after_stmt scopes (Default at s) = after_stmt scopes s
after_stmt scopes (Compound at items) = scopes
after_stmt scopes (Expression at e) = after_maybe scopes e
after_stmt scopes (If at e s) = scopes
after_stmt scopes (IfElse at e s u) = scopes
after_stmt scopes (Switch at e s) = scopes
after_stmt scopes (While at e s) = scopes
after_stmt scopes (Do at s e) = scopes
after_stmt scopes (For at start c step s) = scopes
after_stmt scopes (Goto at n) = scopes
after_stmt scopes (Continue at) = scopes
after_stmt scopes (Break at) = scopes
after_stmt scopes (Return at e) = after_maybe scopes e

abbrev pub after_block_item : List Scope → BlockItem → List Scope
after_block_item scopes (Declaring d) = after_declaration scopes d
after_block_item scopes (Doing s) = after_stmt scopes s

-- each substatement of a selection or iteration statement is a block too (6.8.4p3, 6.8.5p5), so the body of a do is left before its condition
abbrev mutual
  pub scoped_stmt : List Scope → StmtTree → Bool
  scoped_stmt scopes (Labelled at n s) = scoped_stmt scopes s
  scoped_stmt scopes (Case at e s) = scoped_expr scopes e && scoped_stmt (after_expr scopes e) s
  scoped_stmt scopes (Default at s) = scoped_stmt scopes s
  scoped_stmt scopes (Compound at items) = scoped_block (entered scopes) items
  scoped_stmt scopes (Expression at e) = scoped_maybe scopes e
  scoped_stmt scopes (If at e s) = scoped_expr (entered scopes) e && scoped_stmt (entered (after_expr (entered scopes) e)) s
  scoped_stmt scopes (IfElse at e s u) =
      scoped_expr (entered scopes) e && (scoped_stmt (entered (after_expr (entered scopes) e)) s && scoped_stmt (entered (after_expr (entered scopes) e)) u)
  scoped_stmt scopes (Switch at e s) = scoped_expr (entered scopes) e && scoped_stmt (entered (after_expr (entered scopes) e)) s
  scoped_stmt scopes (While at e s) = scoped_expr (entered scopes) e && scoped_stmt (entered (after_expr (entered scopes) e)) s
  scoped_stmt scopes (Do at s e) = scoped_stmt (entered (entered scopes)) s && scoped_expr (entered scopes) e
  scoped_stmt scopes (For at start c step s) =
      (scoped_start (entered scopes) start && scoped_maybe (after_start (entered scopes) start) c)
      && (scoped_maybe (after_maybe (after_start (entered scopes) start) c) step
      && scoped_stmt (entered (after_maybe (after_maybe (after_start (entered scopes) start) c) step)) s)
  scoped_stmt scopes (Goto at n) = true
  scoped_stmt scopes (Continue at) = true
  scoped_stmt scopes (Break at) = true
  scoped_stmt scopes (Return at e) = scoped_maybe scopes e

  pub scoped_block_item : List Scope → BlockItem → Bool
  scoped_block_item scopes (Declaring d) = scoped_declaration scopes d
  scoped_block_item scopes (Doing s) = scoped_stmt scopes s

  pub scoped_block : List Scope → BlockItems → Bool
  scoped_block scopes NoStatements = true
  scoped_block scopes (MoreStatements i is) = scoped_block_item scopes i && scoped_block (after_block_item scopes i) is

-- within a scope, what a function's own list declares: the parameter or identifier list that is the first derivation of the declared identifier (6.2.1p4, 6.9.1)
abbrev pub after_own_list : List Scope → DeclaratorTree → List Scope
after_own_list scopes (Declared at n) = scopes
after_own_list scopes (Absent at) = scopes
after_own_list scopes (Grouped at d) = after_own_list scopes d
after_own_list scopes (Pointer at qs d) = after_own_list scopes d
after_own_list scopes (Array at d b) = after_own_list scopes d
after_own_list scopes (Function at d ps variadic) = if is_underived d then after_parameters scopes ps else after_own_list scopes d
after_own_list scopes (Unprototyped at d names) = if is_underived d then declared_all scopes names else after_own_list scopes d

-- behind a definition of a function its name alone is declared, outside the body
abbrev pub after_external : List Scope → ExternalTree → List Scope
after_external scopes (Definition at ss d ds body_at body) = after_named (has_typedef ss) (after_specifiers scopes ss) d
after_external scopes (External d) = after_declaration scopes d

-- the declarations of the identifiers of the list and the body of a function, in the scope of its own list
abbrev pub scoped_body : List Scope → List DeclarationTree → BlockItems → Bool
scoped_body scopes ds body = scoped_declarations scopes ds && scoped_block (after_declarations scopes ds) body

-- parameters, identifiers of the list, their declarations and the body's own are in one scope (6.2.1p4)
abbrev pub scoped_external : List Scope → ExternalTree → Bool
scoped_external scopes (Definition at ss d ds body_at body) =
    (scoped_specifiers false scopes ss && stands_behind (after_specifiers scopes ss) ss (first_name d))
    && (scoped_declarator (after_specifiers scopes ss) d
    && scoped_body (after_own_list (entered (after_named (has_typedef ss) (after_specifiers scopes ss) d)) d) ds body)
scoped_external scopes (External d) = scoped_declaration scopes d

abbrev pub scoped_externals : List Scope → UnitTree → Bool
scoped_externals scopes [] = true
scoped_externals scopes (d ∷ ds) = scoped_external scopes d && scoped_externals (after_external scopes d) ds

-- at its beginning a unit has one scope, the file's, with no typedef name
abbrev pub scoped_unit : UnitTree → Bool
scoped_unit ds = scoped_externals ([] ∷ []) ds
