-- Device: where a node has the numbers of its tokens, its first token has the number that it is asked for.
use Rattle.std.proofs.Common.{◌≡◌, ℕ, ◌+◌, length, Bool, true, false, ◌&&◌, Some, nat_eq, refl, subst, eqb-true, arith}
use Rattle.c_tree.specs.Syntax.{ExprTree, Name, Integer, Character, Literals, Parentheses, Index, Call, Member, Arrow, Postfix, CompoundLiteral, Prefix, Unary, SizeofExpr, SizeofType, AlignofType, Cast, Binary, Logical, Conditional, Assign, Comma, TypeNameTree, TypeName, SpecifierTree, Storage, Basic, Qualified, Functional, TypedefName, Tag, StructBody, EnumBody, SpecifierTrees, NoSpecifiers, MoreSpecifiers, MemberTree, MemberLine, MemberAssert, MemberDeclaratorTree, Plain, BitField, EnumeratorTree, Enumerates, DeclaratorTree, Declared, Absent, Grouped, Pointer, Array, Function, Unprototyped, BoundTree, Unspecified, Star, Size, StaticSize, SizeStatic, ParameterTree, Parameter, InitTree, Single, Braces, ItemTree, Item, DesignatorTree, AtIndex, AtMember, NoDesignators, MoreDesignators}
use Rattle.c_tree.specs.Units.{DeclarationTree, Declares, Asserts, StmtTree, Labelled, Case, Default, Compound, Expression, If, IfElse, Switch, While, Do, For, Goto, Continue, Break, Return, BlockItem, Declaring, Doing, ExternalTree, Definition, External}
use Rattle.c_tree.specs.Placed.{behind_type_name, placed_block, placed_block_item, placed_bound, placed_declaration, placed_declarator, placed_designator, placed_designators, placed_enumerator, placed_enumerators, placed_expr, placed_exprs, placed_external, placed_init, placed_init_declarators, placed_item, placed_items, placed_maybe, placed_member, placed_member_declarator, placed_member_declarators, placed_members, placed_parameter, placed_parameters, placed_specifier, placed_specifiers, placed_start, placed_stmt, placed_type_name, placed_value}
use Rattle.c_tree.specs.Spelling.{spell_declarator, spell_designation, spell_designator, spell_expr, spell_specifier, spell_specifiers, spell_tag}
use Rattle.c_tree.specs.UnitSpelling.{spell_maybe, spell_start, spell_stmt}
use Rattle.c_tree.specs.Places.{first_block_item, first_bound, first_declaration, first_declarator, first_designator, first_enumerator, first_expr, first_external, first_init, first_item, first_member, first_member_declarator, first_parameter, first_specifier, first_specifiers, first_stmt, first_type_name}

both_first : (a n : ℕ) (b : Bool) → nat_eq a n && b ≡ true → a ≡ n
both_first a n b h = by (nat_eq a n) refl h
  where
    by : (q : Bool) → nat_eq a n ≡ q → q && b ≡ true → a ≡ n
    by true e r = eqb-true a n e
    by false e r = cc

pub expr_first : (n : ℕ) (t : ExprTree) → placed_expr n t ≡ true → first_expr t ≡ n
expr_first n (Name at x) h = eqb-true at n h
expr_first n (Integer at text) h = eqb-true at n h
expr_first n (Character at text) h = eqb-true at n h
expr_first n (Literals at texts) h = eqb-true at n h
expr_first n (Parentheses at e) h = both_first at n (placed_expr (n + 1) e) h
expr_first n (Index at e i) h = both_first at n ((placed_expr n e && placed_expr (n + length (spell_expr e) + 1) i)) h
expr_first n (Call at e es) h = both_first at n ((placed_expr n e && placed_exprs (n + length (spell_expr e) + 1) es)) h
expr_first n (Member at e x) h = both_first at n (placed_expr n e) h
expr_first n (Arrow at e x) h = both_first at n (placed_expr n e) h
expr_first n (Postfix at e op) h = both_first at n (placed_expr n e) h
expr_first n (CompoundLiteral at t items comma) h = both_first at n (placed_type_name (n + 1) t && placed_items (behind_type_name (n + 3) t) items) h
expr_first n (Prefix at op e) h = both_first at n (placed_expr (n + 1) e) h
expr_first n (Unary at op e) h = both_first at n (placed_expr (n + 1) e) h
expr_first n (SizeofExpr at e) h = both_first at n (placed_expr (n + 1) e) h
expr_first n (SizeofType at t) h = both_first at n (placed_type_name (n + 2) t) h
expr_first n (AlignofType at t) h = both_first at n (placed_type_name (n + 2) t) h
expr_first n (Cast at t e) h = both_first at n (placed_type_name (n + 1) t && placed_expr (behind_type_name (n + 2) t) e) h
expr_first n (Binary at op l r) h = both_first at n ((placed_expr n l && placed_expr (n + length (spell_expr l) + 1) r)) h
expr_first n (Logical at op l r) h = both_first at n ((placed_expr n l && placed_expr (n + length (spell_expr l) + 1) r)) h
expr_first n (Conditional at c a b) h = both_first at n ((placed_expr n c && (placed_expr (n + length (spell_expr c) + 1) a && placed_expr (n + length (spell_expr c) + length (spell_expr a) + 2) b))) h
expr_first n (Assign at op l r) h = both_first at n ((placed_expr n l && placed_expr (n + length (spell_expr l) + 1) r)) h
expr_first n (Comma at l r) h = both_first at n ((placed_expr n l && placed_expr (n + length (spell_expr l) + 1) r)) h

pub specifier_first : (n : ℕ) (t : SpecifierTree) → placed_specifier n t ≡ true → first_specifier t ≡ n
specifier_first n (Storage at w) h = eqb-true at n h
specifier_first n (Basic at w) h = eqb-true at n h
specifier_first n (Qualified at w) h = eqb-true at n h
specifier_first n (Functional at w) h = eqb-true at n h
specifier_first n (TypedefName at x) h = eqb-true at n h
specifier_first n (Tag at kind tag) h = eqb-true at n h
specifier_first n (StructBody at kind tag members) h = both_first at n (placed_members (n + 2 + length (spell_tag tag)) members) h
specifier_first n (EnumBody at tag es comma) h = both_first at n (placed_enumerators (n + 2 + length (spell_tag tag)) es) h

left : (p q : Bool) → p && q ≡ true → p ≡ true
left true q h = refl
left false q h = cc

-- where there are specifiers
pub specifiers_first : (n m : ℕ) (t : SpecifierTrees) → placed_specifiers n t ≡ true → first_specifiers t ≡ Some m → m ≡ n
specifiers_first n m NoSpecifiers h e = cc
specifiers_first n m (MoreSpecifiers s ss) h e = some_first n m s (left (placed_specifier n s) (placed_specifiers (n + length (spell_specifier s)) ss) h) e
  where
    some_first : (n m : ℕ) (s : SpecifierTree) → placed_specifier n s ≡ true → Some (first_specifier s) ≡ Some m → m ≡ n
    some_first n m s h e = cc (specifier_first n s h)

pub type_name_first : (n m : ℕ) (t : TypeNameTree) → placed_type_name n t ≡ true → first_type_name t ≡ Some m → m ≡ n
type_name_first n m (TypeName ss d) h e = specifiers_first n m ss (left (placed_specifiers n ss) (placed_declarator (n + length (spell_specifiers ss)) d) h) e

pub parameter_first : (n m : ℕ) (t : ParameterTree) → placed_parameter n t ≡ true → first_parameter t ≡ Some m → m ≡ n
parameter_first n m (Parameter ss d) h e = specifiers_first n m ss (left (placed_specifiers n ss) (placed_declarator (n + length (spell_specifiers ss)) d) h) e

pub member_first : (n m : ℕ) (t : MemberTree) → placed_member n t ≡ true → first_member t ≡ Some m → m ≡ n
member_first n m (MemberLine ss ds) h e = specifiers_first n m ss (left (placed_specifiers n ss) (placed_member_declarators (n + length (spell_specifiers ss)) ds) h) e
member_first n m (MemberAssert at e message_at message) h is = cc (both_first at n (placed_expr (n + 2) e && nat_eq message_at (n + 3 + length (spell_expr e))) h)

pub declarator_first : (n : ℕ) (t : DeclaratorTree) → placed_declarator n t ≡ true → first_declarator t ≡ n
declarator_first n (Declared at x) h = eqb-true at n h
declarator_first n (Absent at) h = eqb-true at n h
declarator_first n (Grouped at d) h = both_first at n (placed_declarator (n + 1) d) h
declarator_first n (Pointer at qs d) h = both_first at n (placed_declarator (n + 1 + length qs) d) h
declarator_first n (Array at d b) h = both_first at n ((placed_declarator n d && placed_bound (n + length (spell_declarator d)) b)) h
declarator_first n (Function at d ps variadic) h = both_first at n ((placed_declarator n d && placed_parameters (n + length (spell_declarator d) + 1) ps)) h
declarator_first n (Unprototyped at d names) h = both_first at n (placed_declarator n d) h

pub member_declarator_first : (n : ℕ) (t : MemberDeclaratorTree) → placed_member_declarator n t ≡ true → first_member_declarator t ≡ n
member_declarator_first n (Plain d) h = declarator_first n d h
member_declarator_first n (BitField d width) h = declarator_first n d (left (placed_declarator n d) (placed_expr (n + length (spell_declarator d) + 1) width) h)

pub bound_first : (n : ℕ) (t : BoundTree) → placed_bound n t ≡ true → first_bound t ≡ n
bound_first n (Unspecified at qs) h = eqb-true at n h
bound_first n (Star at qs) h = eqb-true at n h
bound_first n (Size at qs e) h = both_first at n (placed_expr (n + 1 + length qs) e) h
bound_first n (StaticSize at qs e) h = both_first at n (placed_expr (n + 2 + length qs) e) h
bound_first n (SizeStatic at qs e) h = both_first at n (placed_expr (n + 2 + length qs) e) h

pub enumerator_first : (n : ℕ) (t : EnumeratorTree) → placed_enumerator n t ≡ true → first_enumerator t ≡ n
enumerator_first n (Enumerates at x value) h = both_first at n (placed_value (n + 2) value) h

pub designator_first : (n : ℕ) (t : DesignatorTree) → placed_designator n t ≡ true → first_designator t ≡ n
designator_first n (AtIndex at e) h = both_first at n (placed_expr (n + 1) e) h
designator_first n (AtMember at x) h = eqb-true at n h

pub declaration_first : (n : ℕ) (t : DeclarationTree) → placed_declaration n t ≡ true → first_declaration t ≡ n
declaration_first n (Declares at ss ds) h = both_first at n ((placed_specifiers n ss && placed_init_declarators (n + length (spell_specifiers ss)) ds)) h
declaration_first n (Asserts at e message_at message) h = both_first at n ((placed_expr (n + 2) e && nat_eq message_at (n + 3 + length (spell_expr e)))) h

pub stmt_first : (n : ℕ) (t : StmtTree) → placed_stmt n t ≡ true → first_stmt t ≡ n
stmt_first n (Labelled at x s) h = both_first at n (placed_stmt (n + 2) s) h
stmt_first n (Case at e s) h = both_first at n ((placed_expr (n + 1) e && placed_stmt (n + 2 + length (spell_expr e)) s)) h
stmt_first n (Default at s) h = both_first at n (placed_stmt (n + 2) s) h
stmt_first n (Compound at items) h = both_first at n (placed_block (n + 1) items) h
stmt_first n (Expression at e) h = both_first at n (placed_maybe n e) h
stmt_first n (If at e s) h = both_first at n ((placed_expr (n + 2) e && placed_stmt (n + 3 + length (spell_expr e)) s)) h
stmt_first n (IfElse at e s u) h = both_first at n ((placed_expr (n + 2) e && (placed_stmt (n + 3 + length (spell_expr e)) s && placed_stmt (n + 4 + length (spell_expr e) + length (spell_stmt s)) u))) h
stmt_first n (Switch at e s) h = both_first at n ((placed_expr (n + 2) e && placed_stmt (n + 3 + length (spell_expr e)) s)) h
stmt_first n (While at e s) h = both_first at n ((placed_expr (n + 2) e && placed_stmt (n + 3 + length (spell_expr e)) s)) h
stmt_first n (Do at s e) h = both_first at n ((placed_stmt (n + 1) s && placed_expr (n + 3 + length (spell_stmt s)) e)) h
stmt_first n (For at start c step s) h = both_first at n (((placed_start (n + 2) start && (placed_maybe (n + 2 + length (spell_start start)) c && placed_maybe (n + 3 + length (spell_start start) + length (spell_maybe c)) step)) && placed_stmt (n + 4 + length (spell_start start) + length (spell_maybe c) + length (spell_maybe step)) s)) h
stmt_first n (Goto at x) h = eqb-true at n h
stmt_first n (Continue at) h = eqb-true at n h
stmt_first n (Break at) h = eqb-true at n h
stmt_first n (Return at e) h = both_first at n (placed_maybe (n + 1) e) h

pub init_first : (n : ℕ) (t : InitTree) → placed_init n t ≡ true → first_init t ≡ n
init_first n (Single e) h = expr_first n e h
init_first n (Braces at items comma) h = both_first at n (placed_items (n + 1) items) h

pub item_first : (n : ℕ) (t : ItemTree) → placed_item n t ≡ true → first_item t ≡ n
item_first n (Item NoDesignators i) h = init_first n i (subst (λ k. placed_init k i ≡ true) (omega arith) h)
item_first n (Item (MoreDesignators d ds) i) h =
    designator_first n d (left (placed_designator n d) (placed_designators (n + length (spell_designator d)) ds) (left (placed_designators n (MoreDesignators d ds)) (placed_init (n + length (spell_designation (MoreDesignators d ds))) i) h))

pub block_item_first : (n : ℕ) (t : BlockItem) → placed_block_item n t ≡ true → first_block_item t ≡ n
block_item_first n (Declaring d) h = declaration_first n d h
block_item_first n (Doing s) h = stmt_first n s h

pub external_first : (n : ℕ) (t : ExternalTree) → placed_external n t ≡ true → first_external t ≡ n
external_first n (Definition at ss d ds body_at body) h = both_first at n _ h
external_first n (External d) h = declaration_first n d h
