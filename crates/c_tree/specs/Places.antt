-- Definition: the number of the first token of each node of a syntax tree; of an absent identifier, which has no token, that of the one behind its place; of what begins with specifiers, none where it has none; of what stands in brackets, that of the bracket.
use Rattle.std.specs.Prelude.{ℕ, Option, Some, None}
use Rattle.c_tree.specs.Syntax.{ExprTree, Name, Integer, Character, Literals, Parentheses, Index, Call, Member, Arrow, Postfix, CompoundLiteral, Prefix, Unary, SizeofExpr, SizeofType, AlignofType, Cast, Binary, Logical, Conditional, Assign, Comma, TypeNameTree, TypeName, SpecifierTree, Storage, Basic, Qualified, Functional, TypedefName, Tag, StructBody, EnumBody, SpecifierTrees, NoSpecifiers, MoreSpecifiers, MemberTree, MemberLine, MemberAssert, MemberDeclaratorTree, Plain, BitField, EnumeratorTree, Enumerates, DeclaratorTree, Declared, Absent, Grouped, Pointer, Array, Function, Unprototyped, BoundTree, Unspecified, Star, Size, StaticSize, SizeStatic, ParameterTree, Parameter, InitTree, Single, Braces, ItemTree, Item, DesignatorTree, AtIndex, AtMember, NoDesignators, MoreDesignators}
use Rattle.c_tree.specs.Units.{DeclarationTree, Declares, Asserts, StmtTree, Labelled, Case, Default, Compound, Expression, If, IfElse, Switch, While, Do, For, Goto, Continue, Break, Return, BlockItem, Declaring, Doing, ExternalTree, Definition, External}

abbrev pub first_expr : ExprTree → ℕ
first_expr (Name at x) = at
first_expr (Integer at text) = at
first_expr (Character at text) = at
first_expr (Literals at texts) = at
first_expr (Parentheses at e) = at
first_expr (Index at e i) = at
first_expr (Call at e es) = at
first_expr (Member at e x) = at
first_expr (Arrow at e x) = at
first_expr (Postfix at e op) = at
first_expr (CompoundLiteral at t items comma) = at
first_expr (Prefix at op e) = at
first_expr (Unary at op e) = at
first_expr (SizeofExpr at e) = at
first_expr (SizeofType at t) = at
first_expr (AlignofType at t) = at
first_expr (Cast at t e) = at
first_expr (Binary at op l r) = at
first_expr (Logical at op l r) = at
first_expr (Conditional at c a b) = at
first_expr (Assign at op l r) = at
first_expr (Comma at l r) = at

abbrev pub first_specifier : SpecifierTree → ℕ
first_specifier (Storage at w) = at
first_specifier (Basic at w) = at
first_specifier (Qualified at w) = at
first_specifier (Functional at w) = at
first_specifier (TypedefName at x) = at
first_specifier (Tag at kind tag) = at
first_specifier (StructBody at kind tag body) = at
first_specifier (EnumBody at tag es comma) = at

abbrev pub first_specifiers : SpecifierTrees → Option ℕ
first_specifiers NoSpecifiers = None
first_specifiers (MoreSpecifiers s ss) = Some (first_specifier s)

abbrev pub first_type_name : TypeNameTree → Option ℕ
first_type_name (TypeName ss d) = first_specifiers ss

abbrev pub first_declarator : DeclaratorTree → ℕ
first_declarator (Declared at x) = at
first_declarator (Absent at) = at
first_declarator (Grouped at d) = at
first_declarator (Pointer at qs d) = at
first_declarator (Array at d b) = at
first_declarator (Function at d ps variadic) = at
first_declarator (Unprototyped at d names) = at

abbrev pub first_bound : BoundTree → ℕ
first_bound (Unspecified at qs) = at
first_bound (Star at qs) = at
first_bound (Size at qs e) = at
first_bound (StaticSize at qs e) = at
first_bound (SizeStatic at qs e) = at

abbrev pub first_member : MemberTree → Option ℕ
first_member (MemberLine ss ds) = first_specifiers ss
first_member (MemberAssert at e message_at message) = Some at

abbrev pub first_member_declarator : MemberDeclaratorTree → ℕ
first_member_declarator (Plain d) = first_declarator d
first_member_declarator (BitField d width) = first_declarator d

abbrev pub first_enumerator : EnumeratorTree → ℕ
first_enumerator (Enumerates at x value) = at

abbrev pub first_parameter : ParameterTree → Option ℕ
first_parameter (Parameter ss d) = first_specifiers ss

abbrev pub first_init : InitTree → ℕ
first_init (Single e) = first_expr e
first_init (Braces at items comma) = at

abbrev pub first_designator : DesignatorTree → ℕ
first_designator (AtIndex at e) = at
first_designator (AtMember at x) = at

abbrev pub first_item : ItemTree → ℕ
first_item (Item NoDesignators i) = first_init i
first_item (Item (MoreDesignators d ds) i) = first_designator d

abbrev pub first_declaration : DeclarationTree → ℕ
first_declaration (Declares at ss ds) = at
first_declaration (Asserts at e message_at message) = at

abbrev pub first_stmt : StmtTree → ℕ
first_stmt (Labelled at x s) = at
first_stmt (Case at e s) = at
first_stmt (Default at s) = at
first_stmt (Compound at items) = at
first_stmt (Expression at e) = at
first_stmt (If at e s) = at
first_stmt (IfElse at e s u) = at
first_stmt (Switch at e s) = at
first_stmt (While at e s) = at
first_stmt (Do at s e) = at
first_stmt (For at start c step s) = at
first_stmt (Goto at x) = at
first_stmt (Continue at) = at
first_stmt (Break at) = at
first_stmt (Return at e) = at

abbrev pub first_block_item : BlockItem → ℕ
first_block_item (Declaring d) = first_declaration d
first_block_item (Doing s) = first_stmt s

abbrev pub first_external : ExternalTree → ℕ
first_external (Definition at ss d ds body_at body) = at
first_external (External d) = first_declaration d
