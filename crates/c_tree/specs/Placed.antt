-- Definition: each node of a syntax tree has the number of its first token, and an absent identifier that of the token behind its place (own). `n` is the number of the first token of what is asked about.
use Rattle.std.specs.Prelude.{ℕ, ◌+◌, Bool, true, ◌&&◌, nat_eq, List, [], ◌∷◌, length, Option, Some, None}
use Rattle.c_tree.specs.Syntax.{ExprTree, Name, Integer, Character, Literals, Parentheses, Index, Call, Member, Arrow, Postfix, CompoundLiteral, Prefix, Unary, SizeofExpr, SizeofType, AlignofType, Cast, Binary, Logical, Conditional, Assign, Comma, ExprTrees, NoExprs, MoreExprs, TypeNameTree, TypeName, SpecifierTree, Storage, Basic, Qualified, Functional, TypedefName, Tag, StructBody, EnumBody, SpecifierTrees, NoSpecifiers, MoreSpecifiers, MemberTree, MemberLine, MemberAssert, MemberTrees, NoMembers, MoreMembers, MemberDeclaratorTree, Plain, BitField, MemberDeclaratorTrees, NoMemberDeclarators, MoreMemberDeclarators, EnumeratorTree, Enumerates, EnumeratorTrees, NoEnumerators, MoreEnumerators, MaybeExpr, NoExpr, SomeExpr, DeclaratorTree, Declared, Absent, Grouped, Pointer, Array, Function, Unprototyped, BoundTree, Unspecified, Star, Size, StaticSize, SizeStatic, ParameterTree, Parameter, ParameterTrees, NoParameters, MoreParameters, InitTree, Single, Braces, ItemTree, Item, ItemTrees, NoItems, MoreItems, DesignatorTree, AtIndex, AtMember, DesignatorTrees, NoDesignators, MoreDesignators}
use Rattle.c_tree.specs.Units.{DeclarationTree, Declares, Asserts, ForStart, StartExpr, StartDeclaration, StmtTree, Labelled, Case, Default, Compound, Expression, If, IfElse, Switch, While, Do, For, Goto, Continue, Break, Return, BlockItem, Declaring, Doing, BlockItems, NoItems as NoStatements, MoreItems as MoreStatements, ExternalTree, Definition, External, UnitTree}
use Rattle.c_tree.specs.Spelling.{spell_expr, spell_specifier, spell_specifiers, spell_tag, spell_member, spell_member_declarator, spell_enumerator, spell_declarator, spell_parameter, spell_item, spell_designator, spell_designation}
use Rattle.c_tree.specs.UnitSpelling.{spell_maybe, spell_init_declarator, spell_declaration, spell_declarations, spell_start, spell_stmt, spell_block_item, spell_external}

-- a number, and the tokens of a type name behind it
abbrev pub behind_type_name : ℕ → TypeNameTree → ℕ
behind_type_name n (TypeName ss d) = n + length (spell_specifiers ss) + length (spell_declarator d)

abbrev mutual
  pub placed_expr : ℕ → ExprTree → Bool
  placed_expr n (Name at x) = nat_eq at n
  placed_expr n (Integer at text) = nat_eq at n
  placed_expr n (Character at text) = nat_eq at n
  placed_expr n (Literals at texts) = nat_eq at n
  placed_expr n (Parentheses at e) = nat_eq at n && placed_expr (n + 1) e
  placed_expr n (Index at e i) = nat_eq at n && (placed_expr n e && placed_expr (n + length (spell_expr e) + 1) i)
  placed_expr n (Call at e es) = nat_eq at n && (placed_expr n e && placed_exprs (n + length (spell_expr e) + 1) es)
  placed_expr n (Member at e x) = nat_eq at n && placed_expr n e
  placed_expr n (Arrow at e x) = nat_eq at n && placed_expr n e
  placed_expr n (Postfix at e op) = nat_eq at n && placed_expr n e
  placed_expr n (CompoundLiteral at t items comma) = nat_eq at n && (placed_type_name (n + 1) t && placed_items (behind_type_name (n + 3) t) items)
  placed_expr n (Prefix at op e) = nat_eq at n && placed_expr (n + 1) e
  placed_expr n (Unary at op e) = nat_eq at n && placed_expr (n + 1) e
  placed_expr n (SizeofExpr at e) = nat_eq at n && placed_expr (n + 1) e
  placed_expr n (SizeofType at t) = nat_eq at n && placed_type_name (n + 2) t
  placed_expr n (AlignofType at t) = nat_eq at n && placed_type_name (n + 2) t
  placed_expr n (Cast at t e) = nat_eq at n && (placed_type_name (n + 1) t && placed_expr (behind_type_name (n + 2) t) e)
  placed_expr n (Binary at op l r) = nat_eq at n && (placed_expr n l && placed_expr (n + length (spell_expr l) + 1) r)
  placed_expr n (Logical at op l r) = nat_eq at n && (placed_expr n l && placed_expr (n + length (spell_expr l) + 1) r)
  placed_expr n (Conditional at c a b) =
      nat_eq at n && (placed_expr n c && (placed_expr (n + length (spell_expr c) + 1) a && placed_expr (n + length (spell_expr c) + length (spell_expr a) + 2) b))
  placed_expr n (Assign at op l r) = nat_eq at n && (placed_expr n l && placed_expr (n + length (spell_expr l) + 1) r)
  placed_expr n (Comma at l r) = nat_eq at n && (placed_expr n l && placed_expr (n + length (spell_expr l) + 1) r)

  -- with a comma between them
  pub placed_exprs : ℕ → ExprTrees → Bool
  placed_exprs n NoExprs = true
  placed_exprs n (MoreExprs e es) = placed_expr n e && placed_exprs (n + length (spell_expr e) + 1) es

  pub placed_type_name : ℕ → TypeNameTree → Bool
  placed_type_name n (TypeName ss d) = placed_specifiers n ss && placed_declarator (n + length (spell_specifiers ss)) d

  pub placed_specifier : ℕ → SpecifierTree → Bool
  placed_specifier n (Storage at w) = nat_eq at n
  placed_specifier n (Basic at w) = nat_eq at n
  placed_specifier n (Qualified at w) = nat_eq at n
  placed_specifier n (Functional at w) = nat_eq at n
  placed_specifier n (TypedefName at x) = nat_eq at n
  placed_specifier n (Tag at kind tag) = nat_eq at n
  placed_specifier n (StructBody at kind tag members) = nat_eq at n && placed_members (n + 2 + length (spell_tag tag)) members
  placed_specifier n (EnumBody at tag es comma) = nat_eq at n && placed_enumerators (n + 2 + length (spell_tag tag)) es

  pub placed_specifiers : ℕ → SpecifierTrees → Bool
  placed_specifiers n NoSpecifiers = true
  placed_specifiers n (MoreSpecifiers s ss) = placed_specifier n s && placed_specifiers (n + length (spell_specifier s)) ss

  pub placed_member : ℕ → MemberTree → Bool
  placed_member n (MemberLine ss ds) = placed_specifiers n ss && placed_member_declarators (n + length (spell_specifiers ss)) ds
  placed_member n (MemberAssert at e message_at message) = nat_eq at n && (placed_expr (n + 2) e && nat_eq message_at (n + 3 + length (spell_expr e)))

  pub placed_members : ℕ → MemberTrees → Bool
  placed_members n NoMembers = true
  placed_members n (MoreMembers m ms) = placed_member n m && placed_members (n + length (spell_member m)) ms

  pub placed_member_declarator : ℕ → MemberDeclaratorTree → Bool
  placed_member_declarator n (Plain d) = placed_declarator n d
  placed_member_declarator n (BitField d width) = placed_declarator n d && placed_expr (n + length (spell_declarator d) + 1) width

  pub placed_member_declarators : ℕ → MemberDeclaratorTrees → Bool
  placed_member_declarators n NoMemberDeclarators = true
  placed_member_declarators n (MoreMemberDeclarators d ds) = placed_member_declarator n d && placed_member_declarators (n + length (spell_member_declarator d) + 1) ds

  pub placed_enumerator : ℕ → EnumeratorTree → Bool
  placed_enumerator n (Enumerates at x value) = nat_eq at n && placed_value (n + 2) value

  pub placed_enumerators : ℕ → EnumeratorTrees → Bool
  placed_enumerators n NoEnumerators = true
  placed_enumerators n (MoreEnumerators e es) = placed_enumerator n e && placed_enumerators (n + length (spell_enumerator e) + 1) es

  pub placed_value : ℕ → MaybeExpr → Bool
  placed_value n NoExpr = true
  placed_value n (SomeExpr e) = placed_expr n e

  pub placed_declarator : ℕ → DeclaratorTree → Bool
  placed_declarator n (Declared at x) = nat_eq at n
  placed_declarator n (Absent at) = nat_eq at n
  placed_declarator n (Grouped at d) = nat_eq at n && placed_declarator (n + 1) d
  placed_declarator n (Pointer at qs d) = nat_eq at n && placed_declarator (n + 1 + length qs) d
  placed_declarator n (Array at d b) = nat_eq at n && (placed_declarator n d && placed_bound (n + length (spell_declarator d)) b)
  placed_declarator n (Function at d ps variadic) = nat_eq at n && (placed_declarator n d && placed_parameters (n + length (spell_declarator d) + 1) ps)
  placed_declarator n (Unprototyped at d names) = nat_eq at n && placed_declarator n d

  pub placed_bound : ℕ → BoundTree → Bool
  placed_bound n (Unspecified at qs) = nat_eq at n
  placed_bound n (Star at qs) = nat_eq at n
  placed_bound n (Size at qs e) = nat_eq at n && placed_expr (n + 1 + length qs) e
  placed_bound n (StaticSize at qs e) = nat_eq at n && placed_expr (n + 2 + length qs) e
  placed_bound n (SizeStatic at qs e) = nat_eq at n && placed_expr (n + 2 + length qs) e

  pub placed_parameter : ℕ → ParameterTree → Bool
  placed_parameter n (Parameter ss d) = placed_specifiers n ss && placed_declarator (n + length (spell_specifiers ss)) d

  pub placed_parameters : ℕ → ParameterTrees → Bool
  placed_parameters n NoParameters = true
  placed_parameters n (MoreParameters p ps) = placed_parameter n p && placed_parameters (n + length (spell_parameter p) + 1) ps

  pub placed_init : ℕ → InitTree → Bool
  placed_init n (Single e) = placed_expr n e
  placed_init n (Braces at items comma) = nat_eq at n && placed_items (n + 1) items

  pub placed_item : ℕ → ItemTree → Bool
  placed_item n (Item ds i) = placed_designators n ds && placed_init (n + length (spell_designation ds)) i

  pub placed_items : ℕ → ItemTrees → Bool
  placed_items n NoItems = true
  placed_items n (MoreItems i is) = placed_item n i && placed_items (n + length (spell_item i) + 1) is

  pub placed_designator : ℕ → DesignatorTree → Bool
  placed_designator n (AtIndex at e) = nat_eq at n && placed_expr (n + 1) e
  placed_designator n (AtMember at x) = nat_eq at n

  pub placed_designators : ℕ → DesignatorTrees → Bool
  placed_designators n NoDesignators = true
  placed_designators n (MoreDesignators d ds) = placed_designator n d && placed_designators (n + length (spell_designator d)) ds

abbrev pub placed_maybe : ℕ → Option ExprTree → Bool
placed_maybe n None = true
placed_maybe n (Some e) = placed_expr n e

abbrev pub placed_maybe_init : ℕ → Option InitTree → Bool
placed_maybe_init n None = true
placed_maybe_init n (Some i) = placed_init n i

abbrev pub placed_init_declarators : ℕ → List (DeclaratorTree × Option InitTree) → Bool
placed_init_declarators n [] = true
placed_init_declarators n (d ∷ ds) =
    (placed_declarator n d.0 && placed_maybe_init (n + length (spell_declarator d.0) + 1) d.1) && placed_init_declarators (n + length (spell_init_declarator d) + 1) ds

abbrev pub placed_declaration : ℕ → DeclarationTree → Bool
placed_declaration n (Declares at ss ds) = nat_eq at n && (placed_specifiers n ss && placed_init_declarators (n + length (spell_specifiers ss)) ds)
placed_declaration n (Asserts at e message_at message) = nat_eq at n && (placed_expr (n + 2) e && nat_eq message_at (n + 3 + length (spell_expr e)))

abbrev pub placed_declarations : ℕ → List DeclarationTree → Bool
placed_declarations n [] = true
placed_declarations n (d ∷ ds) = placed_declaration n d && placed_declarations (n + length (spell_declaration d)) ds

abbrev pub placed_start : ℕ → ForStart → Bool
placed_start n (StartExpr e) = placed_maybe n e
placed_start n (StartDeclaration d) = placed_declaration n d

abbrev mutual
  pub placed_stmt : ℕ → StmtTree → Bool
  placed_stmt n (Labelled at x s) = nat_eq at n && placed_stmt (n + 2) s
  placed_stmt n (Case at e s) = nat_eq at n && (placed_expr (n + 1) e && placed_stmt (n + 2 + length (spell_expr e)) s)
  placed_stmt n (Default at s) = nat_eq at n && placed_stmt (n + 2) s
  placed_stmt n (Compound at items) = nat_eq at n && placed_block (n + 1) items
  placed_stmt n (Expression at e) = nat_eq at n && placed_maybe n e
  placed_stmt n (If at e s) = nat_eq at n && (placed_expr (n + 2) e && placed_stmt (n + 3 + length (spell_expr e)) s)
  placed_stmt n (IfElse at e s u) =
      nat_eq at n && (placed_expr (n + 2) e && (placed_stmt (n + 3 + length (spell_expr e)) s && placed_stmt (n + 4 + length (spell_expr e) + length (spell_stmt s)) u))
  placed_stmt n (Switch at e s) = nat_eq at n && (placed_expr (n + 2) e && placed_stmt (n + 3 + length (spell_expr e)) s)
  placed_stmt n (While at e s) = nat_eq at n && (placed_expr (n + 2) e && placed_stmt (n + 3 + length (spell_expr e)) s)
  placed_stmt n (Do at s e) = nat_eq at n && (placed_stmt (n + 1) s && placed_expr (n + 3 + length (spell_stmt s)) e)
  placed_stmt n (For at start c step s) =
      nat_eq at n && ((placed_start (n + 2) start && (placed_maybe (n + 2 + length (spell_start start)) c && placed_maybe (n + 3 + length (spell_start start) + length (spell_maybe c)) step))
      && placed_stmt (n + 4 + length (spell_start start) + length (spell_maybe c) + length (spell_maybe step)) s)
  placed_stmt n (Goto at x) = nat_eq at n
  placed_stmt n (Continue at) = nat_eq at n
  placed_stmt n (Break at) = nat_eq at n
  placed_stmt n (Return at e) = nat_eq at n && placed_maybe (n + 1) e

  pub placed_block_item : ℕ → BlockItem → Bool
  placed_block_item n (Declaring d) = placed_declaration n d
  placed_block_item n (Doing s) = placed_stmt n s

  pub placed_block : ℕ → BlockItems → Bool
  placed_block n NoStatements = true
  placed_block n (MoreStatements i is) = placed_block_item n i && placed_block (n + length (spell_block_item i)) is

abbrev pub placed_external : ℕ → ExternalTree → Bool
placed_external n (Definition at ss d ds body_at body) =
    nat_eq at n && (placed_specifiers n ss && (placed_declarator (n + length (spell_specifiers ss)) d && (placed_declarations (n + length (spell_specifiers ss) + length (spell_declarator d)) ds
    && (nat_eq body_at (n + length (spell_specifiers ss) + length (spell_declarator d) + length (spell_declarations ds)) && placed_block (body_at + 1) body))))
placed_external n (External d) = placed_declaration n d

abbrev pub placed_unit : ℕ → UnitTree → Bool
placed_unit n [] = true
placed_unit n (d ∷ ds) = placed_external n d && placed_unit (n + length (spell_external d)) ds
