-- Device: in a tree that has the numbers of its tokens, whose first token has the number n, each number is below one that no token behind the tree reaches.
use Rattle.std.proofs.Common.{◌≡◌, ℕ, suc, ◌+◌, ◌<◌, ◌≤◌, Bool, true, false, ◌&&◌, ◌||◌, not, List, [], ◌∷◌, map, length, Option, Some, None, nat_eq, refl, sym, subst, eqb-true, arith, length-append}
use Rattle.std.proofs.lemmas.List.{length-map}
use Rattle.cil_base.specs.declared.operators.BinOp.{BinOp}
use Rattle.cil_base.specs.declared.operators.BinOp.TheVariants.{Mul, Div, Rem, Add, Sub, Shl, Shr, Lt, Gt, Le, Ge, Eq, Ne, And, Xor, Or}
use Rattle.c_tree.specs.Syntax.{ExprTree, Name, Integer, Character, Literals, Parentheses, Index, Call, Member, Arrow, Postfix, CompoundLiteral, Prefix, Unary, SizeofExpr, SizeofType, AlignofType, Cast, Binary, Logical, Conditional, Assign, Comma, ExprTrees, NoExprs, MoreExprs, TypeNameTree, TypeName, SpecifierTree, Storage, Basic, Qualified, Functional, TypedefName, Tag, StructBody, EnumBody, SpecifierTrees, NoSpecifiers, MoreSpecifiers, MemberTree, MemberLine, MemberAssert, MemberTrees, NoMembers, MoreMembers, MemberDeclaratorTree, Plain, BitField, MemberDeclaratorTrees, NoMemberDeclarators, MoreMemberDeclarators, EnumeratorTree, Enumerates, EnumeratorTrees, NoEnumerators, MoreEnumerators, MaybeExpr, NoExpr, SomeExpr, DeclaratorTree, Declared, Absent, Grouped, Pointer, Array, Function, Unprototyped, BoundTree, Unspecified, Star, Size, StaticSize, SizeStatic, ParameterTree, Parameter, ParameterTrees, NoParameters, MoreParameters, InitTree, Single, Braces, ItemTree, Item, ItemTrees, NoItems, MoreItems, DesignatorTree, AtIndex, AtMember, DesignatorTrees, NoDesignators, MoreDesignators}
use Rattle.c_tree.specs.Units.{DeclarationTree, Declares, Asserts, ForStart, StartExpr, StartDeclaration, StmtTree, Labelled, Case, Default, Compound, Expression, If, IfElse, Switch, While, Do, For, Goto, Continue, Break, Return, BlockItem, Declaring, Doing, BlockItems, NoItems as NoStatements, MoreItems as MoreStatements, ExternalTree, Definition, External, UnitTree}
use Rattle.c_tree.specs.declared.level.Level.TheVariants.{Postfix as PostfixLevel, Unary as UnaryLevel, Cast as CastLevel, LogicalOr, Conditional as ConditionalLevel, Assignment}
use Rattle.c_tree.specs.Levels.{are_specifier_qualifiers, binary_level, declares, has_enumerator, has_item, has_member, has_names, has_parameter, has_some, has_specifier, is_absent, is_assign_op, is_bound_of, is_defined_by, is_direct, is_type_name, is_within, logical_level, takes_else, tighter, levelled, levelled_arguments, levelled_block, levelled_block_item, levelled_bound, levelled_declaration, levelled_declarations, levelled_declarator, levelled_designator, levelled_designators, levelled_enumerator, levelled_enumerators, levelled_external, levelled_externals, levelled_init, levelled_init_declarator, levelled_init_declarators, levelled_item, levelled_items, levelled_maybe, levelled_maybe_init, levelled_member, levelled_member_declarator, levelled_member_declarators, levelled_members, levelled_parameter, levelled_parameters, levelled_specifier, levelled_specifiers, levelled_start, levelled_stmt, levelled_value, levelled_type_name}
use Rattle.c_tree.specs.Placed.{behind_type_name, placed_block, placed_block_item, placed_bound, placed_declaration, placed_declarations, placed_declarator, placed_designator, placed_designators, placed_enumerator, placed_enumerators, placed_expr, placed_exprs, placed_external, placed_init, placed_init_declarators, placed_item, placed_items, placed_maybe, placed_maybe_init, placed_member, placed_member_declarator, placed_member_declarators, placed_members, placed_parameter, placed_parameters, placed_specifier, placed_specifiers, placed_start, placed_stmt, placed_type_name, placed_unit, placed_value}
use Rattle.c_tree.specs.Spelling.{assign_sign, spell_assign, in_brackets, with_commas, spell_bound, spell_declarator, spell_designation, spell_designator, spell_designators, spell_enumerator, spell_enumerators, spell_expr, spell_exprs, spell_init, spell_item, spell_items, spell_member, spell_member_declarator, spell_member_declarators, spell_members, spell_parameter, spell_parameters, spell_specifier, spell_specifiers, spell_tag, spell_value, spell_type_name}
use Rattle.c_tree.specs.UnitSpelling.{spell_block, spell_block_item, spell_declaration, spell_declarations, spell_external, spell_init_declarator, spell_maybe, spell_maybe_init, spell_start, spell_stmt, spell_unit}
use Rattle.c_places.specs.Below.{BlockBelow, BlockItemBelow, BoundBelow, DeclarationBelow, DeclarationsBelow, DeclaratorBelow, DesignatorBelow, DesignatorsBelow, EnumeratorBelow, EnumeratorsBelow, ExprBelow, ExprsBelow, ExternalBelow, InitBelow, InitDeclaratorsBelow, ItemBelow, ItemsBelow, MaybeBelow, MaybeInitBelow, MemberBelow, MemberDeclaratorBelow, MemberDeclaratorsBelow, MembersBelow, ParameterBelow, ParametersBelow, TypeNameBelow, SpecifierBelow, SpecifiersBelow, StartBelow, StmtBelow, UnitBelow, ValueBelow}

pub both : (p q : Bool) → p && q ≡ true → (p ≡ true) × (q ≡ true)
both true q h = (refl, h)
both false q h = cc

at_below : (count at n : ℕ) → nat_eq at n ≡ true → n < count → at < count
at_below count at n h lt = subst (λ k. k < count) (sym (eqb-true at n h)) lt

-- an assignment has an operator (6.5.16)
assigned : (op : Option BinOp) → is_assign_op op ≡ true → length (spell_assign (assign_sign op)) ≡ 1
assigned None h = refl
assigned (Some Mul) h = refl
assigned (Some Div) h = refl
assigned (Some Rem) h = refl
assigned (Some Add) h = refl
assigned (Some Sub) h = refl
assigned (Some Shl) h = refl
assigned (Some Shr) h = refl
assigned (Some And) h = refl
assigned (Some Xor) h = refl
assigned (Some Or) h = refl
assigned (Some Lt) h = cc
assigned (Some Gt) h = cc
assigned (Some Le) h = cc
assigned (Some Ge) h = cc
assigned (Some Eq) h = cc
assigned (Some Ne) h = cc

behind_is : (n : ℕ) (t : TypeNameTree) → behind_type_name n t ≡ n + length (spell_type_name t)
behind_is n (TypeName ss d) = grind (arith, length-append)

mutual
  below_expr : (count n : ℕ) (t : ExprTree) → placed_expr n t ≡ true → levelled t ≡ true → n + length (spell_expr t) < count → ExprBelow count t
  below_expr count n (Name at x) hp hl lt = at_below count at n hp (grind (arith, length-append, length-map))
  below_expr count n (Integer at text) hp hl lt = at_below count at n hp (grind (arith, length-append, length-map))
  below_expr count n (Character at text) hp hl lt = at_below count at n hp (grind (arith, length-append, length-map))
  below_expr count n (Literals at texts) hp hl lt = at_below count at n hp (grind (arith, length-append, length-map))
  below_expr count n (Parentheses at e) hp hl lt = (at_below count at n (both (nat_eq at n) (placed_expr (n + 1) e) hp).0 (grind (arith, length-append, length-map)), below_expr count (n + 1) e (both (nat_eq at n) (placed_expr (n + 1) e) hp).1 hl (grind (arith, length-append, length-map)))
  below_expr count n (Index at e i) hp hl lt = (at_below count at n (both (nat_eq at n) ((placed_expr n e) && (placed_expr (n + length (spell_expr e) + 1) i)) hp).0 (grind (arith, length-append, length-map)), below_expr count n e (both (placed_expr n e) (placed_expr (n + length (spell_expr e) + 1) i) (both (nat_eq at n) ((placed_expr n e) && (placed_expr (n + length (spell_expr e) + 1) i)) hp).1).0 (both (levelled e) (levelled i) (both (is_within PostfixLevel e) ((levelled e) && (levelled i)) hl).1).0 (grind (arith, length-append, length-map)), below_expr count (n + length (spell_expr e) + 1) i (both (placed_expr n e) (placed_expr (n + length (spell_expr e) + 1) i) (both (nat_eq at n) ((placed_expr n e) && (placed_expr (n + length (spell_expr e) + 1) i)) hp).1).1 (both (levelled e) (levelled i) (both (is_within PostfixLevel e) ((levelled e) && (levelled i)) hl).1).1 (grind (arith, length-append, length-map)))
  below_expr count n (Call at e es) hp hl lt = (at_below count at n (both (nat_eq at n) ((placed_expr n e) && (placed_exprs (n + length (spell_expr e) + 1) es)) hp).0 (grind (arith, length-append, length-map)), below_expr count n e (both (placed_expr n e) (placed_exprs (n + length (spell_expr e) + 1) es) (both (nat_eq at n) ((placed_expr n e) && (placed_exprs (n + length (spell_expr e) + 1) es)) hp).1).0 (both (levelled e) (levelled_arguments es) (both (is_within PostfixLevel e) ((levelled e) && (levelled_arguments es)) hl).1).0 (grind (arith, length-append, length-map)), below_exprs count (n + length (spell_expr e) + 1) es (both (placed_expr n e) (placed_exprs (n + length (spell_expr e) + 1) es) (both (nat_eq at n) ((placed_expr n e) && (placed_exprs (n + length (spell_expr e) + 1) es)) hp).1).1 (both (levelled e) (levelled_arguments es) (both (is_within PostfixLevel e) ((levelled e) && (levelled_arguments es)) hl).1).1 (grind (arith, length-append, length-map)))
  below_expr count n (Member at e x) hp hl lt = (at_below count at n (both (nat_eq at n) (placed_expr n e) hp).0 (grind (arith, length-append, length-map)), below_expr count n e (both (nat_eq at n) (placed_expr n e) hp).1 (both (is_within PostfixLevel e) (levelled e) hl).1 (grind (arith, length-append, length-map)))
  below_expr count n (Arrow at e x) hp hl lt = (at_below count at n (both (nat_eq at n) (placed_expr n e) hp).0 (grind (arith, length-append, length-map)), below_expr count n e (both (nat_eq at n) (placed_expr n e) hp).1 (both (is_within PostfixLevel e) (levelled e) hl).1 (grind (arith, length-append, length-map)))
  below_expr count n (Postfix at e op) hp hl lt = (at_below count at n (both (nat_eq at n) (placed_expr n e) hp).0 (grind (arith, length-append, length-map)), below_expr count n e (both (nat_eq at n) (placed_expr n e) hp).1 (both (is_within PostfixLevel e) (levelled e) hl).1 (grind (arith, length-append, length-map)))
  below_expr count n (CompoundLiteral at t items comma) hp hl lt =
      let p = both (nat_eq at n) (placed_type_name (n + 1) t && placed_items (behind_type_name (n + 3) t) items) hp in let q = both (placed_type_name (n + 1) t) (placed_items (behind_type_name (n + 3) t) items) p.1 in
      let l = both (levelled_type_name t) (has_item items && levelled_items items) hl in
      (at_below count at n p.0 (grind (arith, length-append, length-map)), below_type_name count (n + 1) t q.0 l.0 (grind (arith, length-append, length-map)), below_items count (behind_type_name (n + 3) t) items q.1 (both (has_item items) (levelled_items items) l.1).1 (grind (arith, length-append, length-map, behind_is (n + 3) t)))
  below_expr count n (Prefix at op e) hp hl lt = (at_below count at n (both (nat_eq at n) (placed_expr (n + 1) e) hp).0 (grind (arith, length-append, length-map)), below_expr count (n + 1) e (both (nat_eq at n) (placed_expr (n + 1) e) hp).1 (both (is_within UnaryLevel e) (levelled e) hl).1 (grind (arith, length-append, length-map)))
  below_expr count n (Unary at op e) hp hl lt = (at_below count at n (both (nat_eq at n) (placed_expr (n + 1) e) hp).0 (grind (arith, length-append, length-map)), below_expr count (n + 1) e (both (nat_eq at n) (placed_expr (n + 1) e) hp).1 (both (is_within CastLevel e) (levelled e) hl).1 (grind (arith, length-append, length-map)))
  below_expr count n (SizeofExpr at e) hp hl lt = (at_below count at n (both (nat_eq at n) (placed_expr (n + 1) e) hp).0 (grind (arith, length-append, length-map)), below_expr count (n + 1) e (both (nat_eq at n) (placed_expr (n + 1) e) hp).1 (both (is_within UnaryLevel e) (levelled e) hl).1 (grind (arith, length-append, length-map)))
  below_expr count n (SizeofType at t) hp hl lt = let p = both (nat_eq at n) (placed_type_name (n + 2) t) hp in (at_below count at n p.0 (grind (arith, length-append, length-map)), below_type_name count (n + 2) t p.1 hl (grind (arith, length-append, length-map)))
  below_expr count n (AlignofType at t) hp hl lt = let p = both (nat_eq at n) (placed_type_name (n + 2) t) hp in (at_below count at n p.0 (grind (arith, length-append, length-map)), below_type_name count (n + 2) t p.1 hl (grind (arith, length-append, length-map)))
  below_expr count n (Cast at t e) hp hl lt =
      let p = both (nat_eq at n) (placed_type_name (n + 1) t && placed_expr (behind_type_name (n + 2) t) e) hp in let q = both (placed_type_name (n + 1) t) (placed_expr (behind_type_name (n + 2) t) e) p.1 in
      let l = both (levelled_type_name t) (is_within CastLevel e && levelled e) hl in
      (at_below count at n p.0 (grind (arith, length-append, length-map)), below_type_name count (n + 1) t q.0 l.0 (grind (arith, length-append, length-map)), below_expr count (behind_type_name (n + 2) t) e q.1 (both (is_within CastLevel e) (levelled e) l.1).1 (grind (arith, length-append, length-map, behind_is (n + 2) t)))
  below_expr count n (Binary at op l r) hp hl lt = (at_below count at n (both (nat_eq at n) ((placed_expr n l) && (placed_expr (n + length (spell_expr l) + 1) r)) hp).0 (grind (arith, length-append, length-map)), below_expr count n l (both (placed_expr n l) (placed_expr (n + length (spell_expr l) + 1) r) (both (nat_eq at n) ((placed_expr n l) && (placed_expr (n + length (spell_expr l) + 1) r)) hp).1).0 (both (is_within (binary_level op) l) (levelled l) (both ((is_within (binary_level op) l) && (levelled l)) ((is_within (tighter (binary_level op)) r) && (levelled r)) hl).0).1 (grind (arith, length-append, length-map)), below_expr count (n + length (spell_expr l) + 1) r (both (placed_expr n l) (placed_expr (n + length (spell_expr l) + 1) r) (both (nat_eq at n) ((placed_expr n l) && (placed_expr (n + length (spell_expr l) + 1) r)) hp).1).1 (both (is_within (tighter (binary_level op)) r) (levelled r) (both ((is_within (binary_level op) l) && (levelled l)) ((is_within (tighter (binary_level op)) r) && (levelled r)) hl).1).1 (grind (arith, length-append, length-map)))
  below_expr count n (Logical at op l r) hp hl lt = (at_below count at n (both (nat_eq at n) ((placed_expr n l) && (placed_expr (n + length (spell_expr l) + 1) r)) hp).0 (grind (arith, length-append, length-map)), below_expr count n l (both (placed_expr n l) (placed_expr (n + length (spell_expr l) + 1) r) (both (nat_eq at n) ((placed_expr n l) && (placed_expr (n + length (spell_expr l) + 1) r)) hp).1).0 (both (is_within (logical_level op) l) (levelled l) (both ((is_within (logical_level op) l) && (levelled l)) ((is_within (tighter (logical_level op)) r) && (levelled r)) hl).0).1 (grind (arith, length-append, length-map)), below_expr count (n + length (spell_expr l) + 1) r (both (placed_expr n l) (placed_expr (n + length (spell_expr l) + 1) r) (both (nat_eq at n) ((placed_expr n l) && (placed_expr (n + length (spell_expr l) + 1) r)) hp).1).1 (both (is_within (tighter (logical_level op)) r) (levelled r) (both ((is_within (logical_level op) l) && (levelled l)) ((is_within (tighter (logical_level op)) r) && (levelled r)) hl).1).1 (grind (arith, length-append, length-map)))
  below_expr count n (Conditional at c a b) hp hl lt = (at_below count at n (both (nat_eq at n) ((placed_expr n c) && ((placed_expr (n + length (spell_expr c) + 1) a) && (placed_expr (n + length (spell_expr c) + length (spell_expr a) + 2) b))) hp).0 (grind (arith, length-append, length-map)), below_expr count n c (both (placed_expr n c) ((placed_expr (n + length (spell_expr c) + 1) a) && (placed_expr (n + length (spell_expr c) + length (spell_expr a) + 2) b)) (both (nat_eq at n) ((placed_expr n c) && ((placed_expr (n + length (spell_expr c) + 1) a) && (placed_expr (n + length (spell_expr c) + length (spell_expr a) + 2) b))) hp).1).0 (both (is_within LogicalOr c) (levelled c) (both ((is_within LogicalOr c) && (levelled c)) ((levelled a) && ((is_within ConditionalLevel b) && (levelled b))) hl).0).1 (grind (arith, length-append, length-map)), below_expr count (n + length (spell_expr c) + 1) a (both (placed_expr (n + length (spell_expr c) + 1) a) (placed_expr (n + length (spell_expr c) + length (spell_expr a) + 2) b) (both (placed_expr n c) ((placed_expr (n + length (spell_expr c) + 1) a) && (placed_expr (n + length (spell_expr c) + length (spell_expr a) + 2) b)) (both (nat_eq at n) ((placed_expr n c) && ((placed_expr (n + length (spell_expr c) + 1) a) && (placed_expr (n + length (spell_expr c) + length (spell_expr a) + 2) b))) hp).1).1).0 (both (levelled a) ((is_within ConditionalLevel b) && (levelled b)) (both ((is_within LogicalOr c) && (levelled c)) ((levelled a) && ((is_within ConditionalLevel b) && (levelled b))) hl).1).0 (grind (arith, length-append, length-map)), below_expr count (n + length (spell_expr c) + length (spell_expr a) + 2) b (both (placed_expr (n + length (spell_expr c) + 1) a) (placed_expr (n + length (spell_expr c) + length (spell_expr a) + 2) b) (both (placed_expr n c) ((placed_expr (n + length (spell_expr c) + 1) a) && (placed_expr (n + length (spell_expr c) + length (spell_expr a) + 2) b)) (both (nat_eq at n) ((placed_expr n c) && ((placed_expr (n + length (spell_expr c) + 1) a) && (placed_expr (n + length (spell_expr c) + length (spell_expr a) + 2) b))) hp).1).1).1 (both (is_within ConditionalLevel b) (levelled b) (both (levelled a) ((is_within ConditionalLevel b) && (levelled b)) (both ((is_within LogicalOr c) && (levelled c)) ((levelled a) && ((is_within ConditionalLevel b) && (levelled b))) hl).1).1).1 (grind (arith, length-append, length-map)))
  below_expr count n (Assign at op l r) hp hl lt = (at_below count at n (both (nat_eq at n) ((placed_expr n l) && (placed_expr (n + length (spell_expr l) + 1) r)) hp).0 (grind (arith, length-append, length-map, assigned op (both (is_assign_op op) ((is_within UnaryLevel l) && (levelled l)) (both ((is_assign_op op) && ((is_within UnaryLevel l) && (levelled l))) ((is_within Assignment r) && (levelled r)) hl).0).0)), below_expr count n l (both (placed_expr n l) (placed_expr (n + length (spell_expr l) + 1) r) (both (nat_eq at n) ((placed_expr n l) && (placed_expr (n + length (spell_expr l) + 1) r)) hp).1).0 (both (is_within UnaryLevel l) (levelled l) (both (is_assign_op op) ((is_within UnaryLevel l) && (levelled l)) (both ((is_assign_op op) && ((is_within UnaryLevel l) && (levelled l))) ((is_within Assignment r) && (levelled r)) hl).0).1).1 (grind (arith, length-append, length-map, assigned op (both (is_assign_op op) ((is_within UnaryLevel l) && (levelled l)) (both ((is_assign_op op) && ((is_within UnaryLevel l) && (levelled l))) ((is_within Assignment r) && (levelled r)) hl).0).0)), below_expr count (n + length (spell_expr l) + 1) r (both (placed_expr n l) (placed_expr (n + length (spell_expr l) + 1) r) (both (nat_eq at n) ((placed_expr n l) && (placed_expr (n + length (spell_expr l) + 1) r)) hp).1).1 (both (is_within Assignment r) (levelled r) (both ((is_assign_op op) && ((is_within UnaryLevel l) && (levelled l))) ((is_within Assignment r) && (levelled r)) hl).1).1 (grind (arith, length-append, length-map, assigned op (both (is_assign_op op) ((is_within UnaryLevel l) && (levelled l)) (both ((is_assign_op op) && ((is_within UnaryLevel l) && (levelled l))) ((is_within Assignment r) && (levelled r)) hl).0).0)))
  below_expr count n (Comma at l r) hp hl lt = (at_below count at n (both (nat_eq at n) ((placed_expr n l) && (placed_expr (n + length (spell_expr l) + 1) r)) hp).0 (grind (arith, length-append, length-map)), below_expr count n l (both (placed_expr n l) (placed_expr (n + length (spell_expr l) + 1) r) (both (nat_eq at n) ((placed_expr n l) && (placed_expr (n + length (spell_expr l) + 1) r)) hp).1).0 (both (levelled l) ((is_within Assignment r) && (levelled r)) hl).0 (grind (arith, length-append, length-map)), below_expr count (n + length (spell_expr l) + 1) r (both (placed_expr n l) (placed_expr (n + length (spell_expr l) + 1) r) (both (nat_eq at n) ((placed_expr n l) && (placed_expr (n + length (spell_expr l) + 1) r)) hp).1).1 (both (is_within Assignment r) (levelled r) (both (levelled l) ((is_within Assignment r) && (levelled r)) hl).1).1 (grind (arith, length-append, length-map)))

  below_exprs : (count n : ℕ) (t : ExprTrees) → placed_exprs n t ≡ true → levelled_arguments t ≡ true → n + length (with_commas (spell_exprs t)) < count → ExprsBelow count t
  below_exprs count n NoExprs hp hl lt = tt
  below_exprs count n (MoreExprs e NoExprs) hp hl lt = (below_expr count n e (both _ _ hp).0 (both (is_within Assignment e) (levelled e) (both ((is_within Assignment e) && (levelled e)) (levelled_arguments NoExprs) hl).0).1 (grind (arith, length-append, length-map)), tt)
  below_exprs count n (MoreExprs e (MoreExprs y ys)) hp hl lt = (below_expr count n e (both _ _ hp).0 (both (is_within Assignment e) (levelled e) (both ((is_within Assignment e) && (levelled e)) (levelled_arguments (MoreExprs y ys)) hl).0).1 (grind (arith, length-append, length-map)), below_exprs count (n + length (spell_expr e) + 1) (MoreExprs y ys) (both _ _ hp).1 (both ((is_within Assignment e) && (levelled e)) (levelled_arguments (MoreExprs y ys)) hl).1 (grind (arith, length-append, length-map)))

  below_type_name : (count n : ℕ) (t : TypeNameTree) → placed_type_name n t ≡ true → levelled_type_name t ≡ true → n + length (spell_type_name t) < count → TypeNameBelow count t
  below_type_name count n (TypeName ss d) hp hl lt =
      let p = both (placed_specifiers n ss) (placed_declarator (n + length (spell_specifiers ss)) d) hp in let l = both (levelled_specifiers ss) (levelled_declarator d) (both (is_type_name ss d) (levelled_specifiers ss && levelled_declarator d) hl).1 in
      (below_specifiers count n ss p.0 l.0 (grind (arith, length-append, length-map)), below_declarator count (n + length (spell_specifiers ss)) d p.1 l.1 (grind (arith, length-append, length-map)))

  below_specifier : (count n : ℕ) (t : SpecifierTree) → placed_specifier n t ≡ true → levelled_specifier t ≡ true → n + length (spell_specifier t) < count → SpecifierBelow count t
  below_specifier count n (Storage at w) hp hl lt = at_below count at n hp (grind (arith, length-append, length-map))
  below_specifier count n (Basic at w) hp hl lt = at_below count at n hp (grind (arith, length-append, length-map))
  below_specifier count n (Qualified at w) hp hl lt = at_below count at n hp (grind (arith, length-append, length-map))
  below_specifier count n (Functional at w) hp hl lt = at_below count at n hp (grind (arith, length-append, length-map))
  below_specifier count n (TypedefName at x) hp hl lt = at_below count at n hp (grind (arith, length-append, length-map))
  below_specifier count n (Tag at kind tag) hp hl lt = at_below count at n hp (grind (arith, length-append, length-map))
  below_specifier count n (StructBody at kind tag members) hp hl lt = (at_below count at n (both (nat_eq at n) (placed_members (n + 2 + length (spell_tag tag)) members) hp).0 (grind (arith, length-append, length-map)), below_members count (n + 2 + length (spell_tag tag)) members (both (nat_eq at n) (placed_members (n + 2 + length (spell_tag tag)) members) hp).1 (both (has_member members) (levelled_members members) hl).1 (grind (arith, length-append, length-map)))
  below_specifier count n (EnumBody at tag es comma) hp hl lt = (at_below count at n (both (nat_eq at n) (placed_enumerators (n + 2 + length (spell_tag tag)) es) hp).0 (grind (arith, length-append, length-map)), below_enumerators count (n + 2 + length (spell_tag tag)) es (both (nat_eq at n) (placed_enumerators (n + 2 + length (spell_tag tag)) es) hp).1 (both (has_enumerator es) (levelled_enumerators es) hl).1 (grind (arith, length-append, length-map)))

  below_specifiers : (count n : ℕ) (t : SpecifierTrees) → placed_specifiers n t ≡ true → levelled_specifiers t ≡ true → n + length (spell_specifiers t) < count → SpecifiersBelow count t
  below_specifiers count n NoSpecifiers hp hl lt = tt
  below_specifiers count n (MoreSpecifiers s ss) hp hl lt = (below_specifier count n s (both (placed_specifier n s) (placed_specifiers (n + length (spell_specifier s)) ss) hp).0 (both (levelled_specifier s) (levelled_specifiers ss) hl).0 (grind (arith, length-append, length-map)), below_specifiers count (n + length (spell_specifier s)) ss (both (placed_specifier n s) (placed_specifiers (n + length (spell_specifier s)) ss) hp).1 (both (levelled_specifier s) (levelled_specifiers ss) hl).1 (grind (arith, length-append, length-map)))

  below_member : (count n : ℕ) (t : MemberTree) → placed_member n t ≡ true → levelled_member t ≡ true → n + length (spell_member t) < count → MemberBelow count t
  below_member count n (MemberLine ss ds) hp hl lt = (below_specifiers count n ss (both (placed_specifiers n ss) (placed_member_declarators (n + length (spell_specifiers ss)) ds) hp).0 (both (are_specifier_qualifiers ss) (levelled_specifiers ss) (both (has_specifier ss) ((are_specifier_qualifiers ss) && (levelled_specifiers ss)) (both ((has_specifier ss) && ((are_specifier_qualifiers ss) && (levelled_specifiers ss))) (levelled_member_declarators ds) hl).0).1).1 (grind (arith, length-append, length-map)), below_member_declarators count (n + length (spell_specifiers ss)) ds (both (placed_specifiers n ss) (placed_member_declarators (n + length (spell_specifiers ss)) ds) hp).1 (both ((has_specifier ss) && ((are_specifier_qualifiers ss) && (levelled_specifiers ss))) (levelled_member_declarators ds) hl).1 (grind (arith, length-append, length-map)))
  below_member count n (MemberAssert at e message_at message) hp hl lt = (at_below count at n (both (nat_eq at n) ((placed_expr (n + 2) e) && (nat_eq message_at (n + 3 + length (spell_expr e)))) hp).0 (grind (arith, length-append, length-map)), below_expr count (n + 2) e (both (placed_expr (n + 2) e) (nat_eq message_at (n + 3 + length (spell_expr e))) (both (nat_eq at n) ((placed_expr (n + 2) e) && (nat_eq message_at (n + 3 + length (spell_expr e)))) hp).1).0 (both (is_within ConditionalLevel e) (levelled e) (both ((is_within ConditionalLevel e) && (levelled e)) (has_some message) hl).0).1 (grind (arith, length-append, length-map)), at_below count message_at (n + 3 + length (spell_expr e)) (both (placed_expr (n + 2) e) (nat_eq message_at (n + 3 + length (spell_expr e))) (both (nat_eq at n) ((placed_expr (n + 2) e) && (nat_eq message_at (n + 3 + length (spell_expr e)))) hp).1).1 (grind (arith, length-append, length-map)))

  below_members : (count n : ℕ) (t : MemberTrees) → placed_members n t ≡ true → levelled_members t ≡ true → n + length (spell_members t) < count → MembersBelow count t
  below_members count n NoMembers hp hl lt = tt
  below_members count n (MoreMembers m ms) hp hl lt = (below_member count n m (both (placed_member n m) (placed_members (n + length (spell_member m)) ms) hp).0 (both (levelled_member m) (levelled_members ms) hl).0 (grind (arith, length-append, length-map)), below_members count (n + length (spell_member m)) ms (both (placed_member n m) (placed_members (n + length (spell_member m)) ms) hp).1 (both (levelled_member m) (levelled_members ms) hl).1 (grind (arith, length-append, length-map)))

  below_member_declarator : (count n : ℕ) (t : MemberDeclaratorTree) → placed_member_declarator n t ≡ true → levelled_member_declarator t ≡ true → n + length (spell_member_declarator t) < count → MemberDeclaratorBelow count t
  below_member_declarator count n (Plain d) hp hl lt = below_declarator count n d hp (both ((declares d) && (not (has_names d))) (levelled_declarator d) hl).1 (grind (arith, length-append, length-map))
  below_member_declarator count n (BitField d width) hp hl lt = (below_declarator count n d (both (placed_declarator n d) (placed_expr (n + length (spell_declarator d) + 1) width) hp).0 (both (is_absent d || (declares d && not (has_names d))) (levelled_declarator d) (both ((is_absent d || (declares d && not (has_names d))) && (levelled_declarator d)) ((is_within ConditionalLevel width) && (levelled width)) hl).0).1 (grind (arith, length-append, length-map)), below_expr count (n + length (spell_declarator d) + 1) width (both (placed_declarator n d) (placed_expr (n + length (spell_declarator d) + 1) width) hp).1 (both (is_within ConditionalLevel width) (levelled width) (both ((is_absent d || (declares d && not (has_names d))) && (levelled_declarator d)) ((is_within ConditionalLevel width) && (levelled width)) hl).1).1 (grind (arith, length-append, length-map)))

  below_member_declarators : (count n : ℕ) (t : MemberDeclaratorTrees) → placed_member_declarators n t ≡ true → levelled_member_declarators t ≡ true → n + length (with_commas (spell_member_declarators t)) < count → MemberDeclaratorsBelow count t
  below_member_declarators count n NoMemberDeclarators hp hl lt = tt
  below_member_declarators count n (MoreMemberDeclarators d NoMemberDeclarators) hp hl lt = (below_member_declarator count n d (both _ _ hp).0 (both (levelled_member_declarator d) (levelled_member_declarators NoMemberDeclarators) hl).0 (grind (arith, length-append, length-map)), tt)
  below_member_declarators count n (MoreMemberDeclarators d (MoreMemberDeclarators y ys)) hp hl lt = (below_member_declarator count n d (both _ _ hp).0 (both (levelled_member_declarator d) (levelled_member_declarators (MoreMemberDeclarators y ys)) hl).0 (grind (arith, length-append, length-map)), below_member_declarators count (n + length (spell_member_declarator d) + 1) (MoreMemberDeclarators y ys) (both _ _ hp).1 (both (levelled_member_declarator d) (levelled_member_declarators (MoreMemberDeclarators y ys)) hl).1 (grind (arith, length-append, length-map)))

  below_enumerator : (count n : ℕ) (t : EnumeratorTree) → placed_enumerator n t ≡ true → levelled_enumerator t ≡ true → n + length (spell_enumerator t) < count → EnumeratorBelow count t
  below_enumerator count n (Enumerates at x value) hp hl lt = (at_below count at n (both (nat_eq at n) (placed_value (n + 2) value) hp).0 (grind (arith, length-append, length-map)), below_value count (n + 2) value (both (nat_eq at n) (placed_value (n + 2) value) hp).1 hl (grind (arith, length-append, length-map)))

  below_enumerators : (count n : ℕ) (t : EnumeratorTrees) → placed_enumerators n t ≡ true → levelled_enumerators t ≡ true → n + length (with_commas (spell_enumerators t)) < count → EnumeratorsBelow count t
  below_enumerators count n NoEnumerators hp hl lt = tt
  below_enumerators count n (MoreEnumerators e NoEnumerators) hp hl lt = (below_enumerator count n e (both _ _ hp).0 (both (levelled_enumerator e) (levelled_enumerators NoEnumerators) hl).0 (grind (arith, length-append, length-map)), tt)
  below_enumerators count n (MoreEnumerators e (MoreEnumerators y ys)) hp hl lt = (below_enumerator count n e (both _ _ hp).0 (both (levelled_enumerator e) (levelled_enumerators (MoreEnumerators y ys)) hl).0 (grind (arith, length-append, length-map)), below_enumerators count (n + length (spell_enumerator e) + 1) (MoreEnumerators y ys) (both _ _ hp).1 (both (levelled_enumerator e) (levelled_enumerators (MoreEnumerators y ys)) hl).1 (grind (arith, length-append, length-map)))

  below_value : (count n : ℕ) (v : MaybeExpr) → placed_value n v ≡ true → levelled_value v ≡ true → n + length (spell_value v) < suc count → ValueBelow count v
  below_value count n NoExpr hp hl lt = tt
  below_value count n (SomeExpr e) hp hl lt = below_expr count n e hp (both (is_within ConditionalLevel e) (levelled e) hl).1 (grind (arith, length-append, length-map))

  below_declarator : (count n : ℕ) (t : DeclaratorTree) → placed_declarator n t ≡ true → levelled_declarator t ≡ true → n + length (spell_declarator t) < count → DeclaratorBelow count t
  below_declarator count n (Declared at x) hp hl lt = at_below count at n hp (grind (arith, length-append, length-map))
  below_declarator count n (Absent at) hp hl lt = at_below count at n hp (grind (arith, length-append, length-map))
  below_declarator count n (Grouped at d) hp hl lt = (at_below count at n (both (nat_eq at n) (placed_declarator (n + 1) d) hp).0 (grind (arith, length-append, length-map)), below_declarator count (n + 1) d (both (nat_eq at n) (placed_declarator (n + 1) d) hp).1 (both (not (is_absent d)) (levelled_declarator d) hl).1 (grind (arith, length-append, length-map)))
  below_declarator count n (Pointer at qs d) hp hl lt = (at_below count at n (both (nat_eq at n) (placed_declarator (n + 1 + length qs) d) hp).0 (grind (arith, length-append, length-map)), below_declarator count (n + 1 + length qs) d (both (nat_eq at n) (placed_declarator (n + 1 + length qs) d) hp).1 hl (grind (arith, length-append, length-map)))
  below_declarator count n (Array at d b) hp hl lt = (at_below count at n (both (nat_eq at n) ((placed_declarator n d) && (placed_bound (n + length (spell_declarator d)) b)) hp).0 (grind (arith, length-append, length-map)), below_declarator count n d (both (placed_declarator n d) (placed_bound (n + length (spell_declarator d)) b) (both (nat_eq at n) ((placed_declarator n d) && (placed_bound (n + length (spell_declarator d)) b)) hp).1).0 (both (is_direct d) (levelled_declarator d) (both ((is_direct d) && (levelled_declarator d)) ((is_bound_of (declares d) b) && (levelled_bound b)) hl).0).1 (grind (arith, length-append, length-map)), below_bound count (n + length (spell_declarator d)) b (both (placed_declarator n d) (placed_bound (n + length (spell_declarator d)) b) (both (nat_eq at n) ((placed_declarator n d) && (placed_bound (n + length (spell_declarator d)) b)) hp).1).1 (both (is_bound_of (declares d) b) (levelled_bound b) (both ((is_direct d) && (levelled_declarator d)) ((is_bound_of (declares d) b) && (levelled_bound b)) hl).1).1 (grind (arith, length-append, length-map)))
  below_declarator count n (Function at d ps variadic) hp hl lt = (at_below count at n (both (nat_eq at n) ((placed_declarator n d) && (placed_parameters (n + length (spell_declarator d) + 1) ps)) hp).0 (grind (arith, length-append, length-map)), below_declarator count n d (both (placed_declarator n d) (placed_parameters (n + length (spell_declarator d) + 1) ps) (both (nat_eq at n) ((placed_declarator n d) && (placed_parameters (n + length (spell_declarator d) + 1) ps)) hp).1).0 (both (is_direct d) (levelled_declarator d) (both ((is_direct d) && (levelled_declarator d)) ((has_parameter ps) && (levelled_parameters ps)) hl).0).1 (grind (arith, length-append, length-map)), below_parameters count (n + length (spell_declarator d) + 1) ps (both (placed_declarator n d) (placed_parameters (n + length (spell_declarator d) + 1) ps) (both (nat_eq at n) ((placed_declarator n d) && (placed_parameters (n + length (spell_declarator d) + 1) ps)) hp).1).1 (both (has_parameter ps) (levelled_parameters ps) (both ((is_direct d) && (levelled_declarator d)) ((has_parameter ps) && (levelled_parameters ps)) hl).1).1 (grind (arith, length-append, length-map)))
  below_declarator count n (Unprototyped at d names) hp hl lt = (at_below count at n (both (nat_eq at n) (placed_declarator n d) hp).0 (grind (arith, length-append, length-map)), below_declarator count n d (both (nat_eq at n) (placed_declarator n d) hp).1 (both (is_direct d) (levelled_declarator d) hl).1 (grind (arith, length-append, length-map)))

  below_bound : (count n : ℕ) (t : BoundTree) → placed_bound n t ≡ true → levelled_bound t ≡ true → n + length (in_brackets (spell_bound t)) < count → BoundBelow count t
  below_bound count n (Unspecified at qs) hp hl lt = at_below count at n hp (grind (arith, length-append, length-map))
  below_bound count n (Star at qs) hp hl lt = at_below count at n hp (grind (arith, length-append, length-map))
  below_bound count n (Size at qs e) hp hl lt = (at_below count at n (both (nat_eq at n) (placed_expr (n + 1 + length qs) e) hp).0 (grind (arith, length-append, length-map)), below_expr count (n + 1 + length qs) e (both (nat_eq at n) (placed_expr (n + 1 + length qs) e) hp).1 (both (is_within Assignment e) (levelled e) hl).1 (grind (arith, length-append, length-map)))
  below_bound count n (StaticSize at qs e) hp hl lt = (at_below count at n (both (nat_eq at n) (placed_expr (n + 2 + length qs) e) hp).0 (grind (arith, length-append, length-map)), below_expr count (n + 2 + length qs) e (both (nat_eq at n) (placed_expr (n + 2 + length qs) e) hp).1 (both (is_within Assignment e) (levelled e) hl).1 (grind (arith, length-append, length-map)))
  below_bound count n (SizeStatic at qs e) hp hl lt = (at_below count at n (both (nat_eq at n) (placed_expr (n + 2 + length qs) e) hp).0 (grind (arith, length-append, length-map)), below_expr count (n + 2 + length qs) e (both (nat_eq at n) (placed_expr (n + 2 + length qs) e) hp).1 (both (is_within Assignment e) (levelled e) hl).1 (grind (arith, length-append, length-map)))

  below_parameter : (count n : ℕ) (t : ParameterTree) → placed_parameter n t ≡ true → levelled_parameter t ≡ true → n + length (spell_parameter t) < count → ParameterBelow count t
  below_parameter count n (Parameter ss d) hp hl lt = (below_specifiers count n ss (both (placed_specifiers n ss) (placed_declarator (n + length (spell_specifiers ss)) d) hp).0 (both (has_specifier ss) (levelled_specifiers ss) (both ((has_specifier ss) && (levelled_specifiers ss)) ((not (has_names d)) && (levelled_declarator d)) hl).0).1 (grind (arith, length-append, length-map)), below_declarator count (n + length (spell_specifiers ss)) d (both (placed_specifiers n ss) (placed_declarator (n + length (spell_specifiers ss)) d) hp).1 (both (not (has_names d)) (levelled_declarator d) (both ((has_specifier ss) && (levelled_specifiers ss)) ((not (has_names d)) && (levelled_declarator d)) hl).1).1 (grind (arith, length-append, length-map)))

  below_parameters : (count n : ℕ) (t : ParameterTrees) → placed_parameters n t ≡ true → levelled_parameters t ≡ true → n + length (with_commas (spell_parameters t)) < count → ParametersBelow count t
  below_parameters count n NoParameters hp hl lt = tt
  below_parameters count n (MoreParameters p NoParameters) hp hl lt = (below_parameter count n p (both _ _ hp).0 (both (levelled_parameter p) (levelled_parameters NoParameters) hl).0 (grind (arith, length-append, length-map)), tt)
  below_parameters count n (MoreParameters p (MoreParameters y ys)) hp hl lt = (below_parameter count n p (both _ _ hp).0 (both (levelled_parameter p) (levelled_parameters (MoreParameters y ys)) hl).0 (grind (arith, length-append, length-map)), below_parameters count (n + length (spell_parameter p) + 1) (MoreParameters y ys) (both _ _ hp).1 (both (levelled_parameter p) (levelled_parameters (MoreParameters y ys)) hl).1 (grind (arith, length-append, length-map)))

  below_init : (count n : ℕ) (t : InitTree) → placed_init n t ≡ true → levelled_init t ≡ true → n + length (spell_init t) < count → InitBelow count t
  below_init count n (Single e) hp hl lt = below_expr count n e hp (both (is_within Assignment e) (levelled e) hl).1 (grind (arith, length-append, length-map))
  below_init count n (Braces at items comma) hp hl lt = (at_below count at n (both (nat_eq at n) (placed_items (n + 1) items) hp).0 (grind (arith, length-append, length-map)), below_items count (n + 1) items (both (nat_eq at n) (placed_items (n + 1) items) hp).1 (both (has_item items) (levelled_items items) hl).1 (grind (arith, length-append, length-map)))

  below_item : (count n : ℕ) (t : ItemTree) → placed_item n t ≡ true → levelled_item t ≡ true → n + length (spell_item t) < count → ItemBelow count t
  below_item count n (Item NoDesignators i) hp hl lt = (tt, below_init count (n + length (spell_designation NoDesignators)) i (both (placed_designators n NoDesignators) (placed_init (n + length (spell_designation NoDesignators)) i) hp).1 (both (levelled_designators NoDesignators) (levelled_init i) hl).1 (grind (arith, length-append, length-map)))
  below_item count n (Item (MoreDesignators d ds) i) hp hl lt = (below_designators count n (MoreDesignators d ds) (both (placed_designators n (MoreDesignators d ds)) (placed_init (n + length (spell_designation (MoreDesignators d ds))) i) hp).0 (both (levelled_designators (MoreDesignators d ds)) (levelled_init i) hl).0 (grind (arith, length-append, length-map)), below_init count (n + length (spell_designation (MoreDesignators d ds))) i (both (placed_designators n (MoreDesignators d ds)) (placed_init (n + length (spell_designation (MoreDesignators d ds))) i) hp).1 (both (levelled_designators (MoreDesignators d ds)) (levelled_init i) hl).1 (grind (arith, length-append, length-map)))

  below_items : (count n : ℕ) (t : ItemTrees) → placed_items n t ≡ true → levelled_items t ≡ true → n + length (with_commas (spell_items t)) < count → ItemsBelow count t
  below_items count n NoItems hp hl lt = tt
  below_items count n (MoreItems i NoItems) hp hl lt = (below_item count n i (both _ _ hp).0 (both (levelled_item i) (levelled_items NoItems) hl).0 (grind (arith, length-append, length-map)), tt)
  below_items count n (MoreItems i (MoreItems y ys)) hp hl lt = (below_item count n i (both _ _ hp).0 (both (levelled_item i) (levelled_items (MoreItems y ys)) hl).0 (grind (arith, length-append, length-map)), below_items count (n + length (spell_item i) + 1) (MoreItems y ys) (both _ _ hp).1 (both (levelled_item i) (levelled_items (MoreItems y ys)) hl).1 (grind (arith, length-append, length-map)))

  below_designator : (count n : ℕ) (t : DesignatorTree) → placed_designator n t ≡ true → levelled_designator t ≡ true → n + length (spell_designator t) < count → DesignatorBelow count t
  below_designator count n (AtIndex at e) hp hl lt = (at_below count at n (both (nat_eq at n) (placed_expr (n + 1) e) hp).0 (grind (arith, length-append, length-map)), below_expr count (n + 1) e (both (nat_eq at n) (placed_expr (n + 1) e) hp).1 (both (is_within ConditionalLevel e) (levelled e) hl).1 (grind (arith, length-append, length-map)))
  below_designator count n (AtMember at x) hp hl lt = at_below count at n hp (grind (arith, length-append, length-map))

  below_designators : (count n : ℕ) (t : DesignatorTrees) → placed_designators n t ≡ true → levelled_designators t ≡ true → n + length (spell_designators t) < count → DesignatorsBelow count t
  below_designators count n NoDesignators hp hl lt = tt
  below_designators count n (MoreDesignators d ds) hp hl lt = (below_designator count n d (both (placed_designator n d) (placed_designators (n + length (spell_designator d)) ds) hp).0 (both (levelled_designator d) (levelled_designators ds) hl).0 (grind (arith, length-append, length-map)), below_designators count (n + length (spell_designator d)) ds (both (placed_designator n d) (placed_designators (n + length (spell_designator d)) ds) hp).1 (both (levelled_designator d) (levelled_designators ds) hl).1 (grind (arith, length-append, length-map)))

below_maybe : (count n : ℕ) (t : Option ExprTree) → placed_maybe n t ≡ true → levelled_maybe t ≡ true → n + length (spell_maybe t) < count → MaybeBelow count t
below_maybe count n None hp hl lt = tt
below_maybe count n (Some e) hp hl lt = below_expr count n e hp hl (grind (arith, length-append, length-map))

below_maybe_init : (count n : ℕ) (i : Option InitTree) → placed_maybe_init n i ≡ true → levelled_maybe_init i ≡ true → n + length (spell_maybe_init i) < suc count → MaybeInitBelow count i
below_maybe_init count n None hp hl lt = tt
below_maybe_init count n (Some i) hp hl lt = below_init count n i hp hl (grind (arith, length-append, length-map))

below_init_declarators : (count n : ℕ) (ds : List (DeclaratorTree × Option InitTree)) → placed_init_declarators n ds ≡ true → levelled_init_declarators ds ≡ true → n + length (with_commas (map spell_init_declarator ds)) < count → InitDeclaratorsBelow count ds
below_init_declarators count n [] hp hl lt = tt
below_init_declarators count n (d ∷ []) hp hl lt = (below_declarator count n d.0 (both (placed_declarator n d.0) (placed_maybe_init (n + length (spell_declarator d.0) + 1) d.1) (both (placed_declarator n d.0 && placed_maybe_init (n + length (spell_declarator d.0) + 1) d.1) (placed_init_declarators (n + length (spell_init_declarator d) + 1) []) hp).0).0 (both (declares d.0 && not (has_names d.0)) (levelled_declarator d.0) (both ((declares d.0 && not (has_names d.0)) && levelled_declarator d.0) (levelled_maybe_init d.1) (both (levelled_init_declarator d) (levelled_init_declarators []) hl).0).0).1 (grind (arith, length-append, length-map)), below_maybe_init count (n + length (spell_declarator d.0) + 1) d.1 (both (placed_declarator n d.0) (placed_maybe_init (n + length (spell_declarator d.0) + 1) d.1) (both (placed_declarator n d.0 && placed_maybe_init (n + length (spell_declarator d.0) + 1) d.1) (placed_init_declarators (n + length (spell_init_declarator d) + 1) []) hp).0).1 (both ((declares d.0 && not (has_names d.0)) && levelled_declarator d.0) (levelled_maybe_init d.1) (both (levelled_init_declarator d) (levelled_init_declarators []) hl).0).1 (grind (arith, length-append, length-map)), tt)
below_init_declarators count n (d ∷ x ∷ ds) hp hl lt = (below_declarator count n d.0 (both (placed_declarator n d.0) (placed_maybe_init (n + length (spell_declarator d.0) + 1) d.1) (both (placed_declarator n d.0 && placed_maybe_init (n + length (spell_declarator d.0) + 1) d.1) (placed_init_declarators (n + length (spell_init_declarator d) + 1) (x ∷ ds)) hp).0).0 (both (declares d.0 && not (has_names d.0)) (levelled_declarator d.0) (both ((declares d.0 && not (has_names d.0)) && levelled_declarator d.0) (levelled_maybe_init d.1) (both (levelled_init_declarator d) (levelled_init_declarators (x ∷ ds)) hl).0).0).1 (grind (arith, length-append, length-map)), below_maybe_init count (n + length (spell_declarator d.0) + 1) d.1 (both (placed_declarator n d.0) (placed_maybe_init (n + length (spell_declarator d.0) + 1) d.1) (both (placed_declarator n d.0 && placed_maybe_init (n + length (spell_declarator d.0) + 1) d.1) (placed_init_declarators (n + length (spell_init_declarator d) + 1) (x ∷ ds)) hp).0).1 (both ((declares d.0 && not (has_names d.0)) && levelled_declarator d.0) (levelled_maybe_init d.1) (both (levelled_init_declarator d) (levelled_init_declarators (x ∷ ds)) hl).0).1 (grind (arith, length-append, length-map)), below_init_declarators count (n + length (spell_init_declarator d) + 1) (x ∷ ds) (both (placed_declarator n d.0 && placed_maybe_init (n + length (spell_declarator d.0) + 1) d.1) (placed_init_declarators (n + length (spell_init_declarator d) + 1) (x ∷ ds)) hp).1 (both (levelled_init_declarator d) (levelled_init_declarators (x ∷ ds)) hl).1 (grind (arith, length-append, length-map)))

below_declaration : (count n : ℕ) (t : DeclarationTree) → placed_declaration n t ≡ true → levelled_declaration t ≡ true → n + length (spell_declaration t) ≤ count → DeclarationBelow count t
below_declaration count n (Declares at ss ds) hp hl lt = (at_below count at n (both (nat_eq at n) ((placed_specifiers n ss) && (placed_init_declarators (n + length (spell_specifiers ss)) ds)) hp).0 (grind (arith, length-append, length-map)), below_specifiers count n ss (both (placed_specifiers n ss) (placed_init_declarators (n + length (spell_specifiers ss)) ds) (both (nat_eq at n) ((placed_specifiers n ss) && (placed_init_declarators (n + length (spell_specifiers ss)) ds)) hp).1).0 (both (has_specifier ss) (levelled_specifiers ss) (both ((has_specifier ss) && (levelled_specifiers ss)) (levelled_init_declarators ds) hl).0).1 (grind (arith, length-append, length-map)), below_init_declarators count (n + length (spell_specifiers ss)) ds (both (placed_specifiers n ss) (placed_init_declarators (n + length (spell_specifiers ss)) ds) (both (nat_eq at n) ((placed_specifiers n ss) && (placed_init_declarators (n + length (spell_specifiers ss)) ds)) hp).1).1 (both ((has_specifier ss) && (levelled_specifiers ss)) (levelled_init_declarators ds) hl).1 (grind (arith, length-append, length-map)))
below_declaration count n (Asserts at e message_at message) hp hl lt = (at_below count at n (both (nat_eq at n) ((placed_expr (n + 2) e) && (nat_eq message_at (n + 3 + length (spell_expr e)))) hp).0 (grind (arith, length-append, length-map)), below_expr count (n + 2) e (both (placed_expr (n + 2) e) (nat_eq message_at (n + 3 + length (spell_expr e))) (both (nat_eq at n) ((placed_expr (n + 2) e) && (nat_eq message_at (n + 3 + length (spell_expr e)))) hp).1).0 (both (is_within ConditionalLevel e) (levelled e) (both ((is_within ConditionalLevel e) && (levelled e)) (has_some message) hl).0).1 (grind (arith, length-append, length-map)), at_below count message_at (n + 3 + length (spell_expr e)) (both (placed_expr (n + 2) e) (nat_eq message_at (n + 3 + length (spell_expr e))) (both (nat_eq at n) ((placed_expr (n + 2) e) && (nat_eq message_at (n + 3 + length (spell_expr e)))) hp).1).1 (grind (arith, length-append, length-map)))

below_declarations : (count n : ℕ) (t : List DeclarationTree) → placed_declarations n t ≡ true → levelled_declarations t ≡ true → n + length (spell_declarations t) ≤ count → DeclarationsBelow count t
below_declarations count n [] hp hl lt = tt
below_declarations count n (d ∷ ds) hp hl lt = (below_declaration count n d (both (placed_declaration n d) (placed_declarations (n + length (spell_declaration d)) ds) hp).0 (both (levelled_declaration d) (levelled_declarations ds) hl).0 (grind (arith, length-append, length-map)), below_declarations count (n + length (spell_declaration d)) ds (both (placed_declaration n d) (placed_declarations (n + length (spell_declaration d)) ds) hp).1 (both (levelled_declaration d) (levelled_declarations ds) hl).1 (grind (arith, length-append, length-map)))

below_start : (count n : ℕ) (t : ForStart) → placed_start n t ≡ true → levelled_start t ≡ true → n + length (spell_start t) ≤ count → StartBelow count t
below_start count n (StartExpr e) hp hl lt = below_maybe count n e hp hl (grind (arith, length-append, length-map))
below_start count n (StartDeclaration d) hp hl lt = below_declaration count n d hp hl (grind (arith, length-append, length-map))

mutual
  below_stmt : (count n : ℕ) (t : StmtTree) → placed_stmt n t ≡ true → levelled_stmt t ≡ true → n + length (spell_stmt t) ≤ count → StmtBelow count t
  below_stmt count n (Labelled at x s) hp hl lt = (at_below count at n (both (nat_eq at n) (placed_stmt (n + 2) s) hp).0 (grind (arith, length-append, length-map)), below_stmt count (n + 2) s (both (nat_eq at n) (placed_stmt (n + 2) s) hp).1 hl (grind (arith, length-append, length-map)))
  below_stmt count n (Case at e s) hp hl lt = (at_below count at n (both (nat_eq at n) ((placed_expr (n + 1) e) && (placed_stmt (n + 2 + length (spell_expr e)) s)) hp).0 (grind (arith, length-append, length-map)), below_expr count (n + 1) e (both (placed_expr (n + 1) e) (placed_stmt (n + 2 + length (spell_expr e)) s) (both (nat_eq at n) ((placed_expr (n + 1) e) && (placed_stmt (n + 2 + length (spell_expr e)) s)) hp).1).0 (both (is_within ConditionalLevel e) (levelled e) (both ((is_within ConditionalLevel e) && (levelled e)) (levelled_stmt s) hl).0).1 (grind (arith, length-append, length-map)), below_stmt count (n + 2 + length (spell_expr e)) s (both (placed_expr (n + 1) e) (placed_stmt (n + 2 + length (spell_expr e)) s) (both (nat_eq at n) ((placed_expr (n + 1) e) && (placed_stmt (n + 2 + length (spell_expr e)) s)) hp).1).1 (both ((is_within ConditionalLevel e) && (levelled e)) (levelled_stmt s) hl).1 (grind (arith, length-append, length-map)))
  below_stmt count n (Default at s) hp hl lt = (at_below count at n (both (nat_eq at n) (placed_stmt (n + 2) s) hp).0 (grind (arith, length-append, length-map)), below_stmt count (n + 2) s (both (nat_eq at n) (placed_stmt (n + 2) s) hp).1 hl (grind (arith, length-append, length-map)))
  below_stmt count n (Compound at items) hp hl lt = (at_below count at n (both (nat_eq at n) (placed_block (n + 1) items) hp).0 (grind (arith, length-append, length-map)), below_block count (n + 1) items (both (nat_eq at n) (placed_block (n + 1) items) hp).1 hl (grind (arith, length-append, length-map)))
  below_stmt count n (Expression at e) hp hl lt = (at_below count at n (both (nat_eq at n) (placed_maybe n e) hp).0 (grind (arith, length-append, length-map)), below_maybe count n e (both (nat_eq at n) (placed_maybe n e) hp).1 hl (grind (arith, length-append, length-map)))
  below_stmt count n (If at e s) hp hl lt = (at_below count at n (both (nat_eq at n) ((placed_expr (n + 2) e) && (placed_stmt (n + 3 + length (spell_expr e)) s)) hp).0 (grind (arith, length-append, length-map)), below_expr count (n + 2) e (both (placed_expr (n + 2) e) (placed_stmt (n + 3 + length (spell_expr e)) s) (both (nat_eq at n) ((placed_expr (n + 2) e) && (placed_stmt (n + 3 + length (spell_expr e)) s)) hp).1).0 (both (levelled e) (levelled_stmt s) hl).0 (grind (arith, length-append, length-map)), below_stmt count (n + 3 + length (spell_expr e)) s (both (placed_expr (n + 2) e) (placed_stmt (n + 3 + length (spell_expr e)) s) (both (nat_eq at n) ((placed_expr (n + 2) e) && (placed_stmt (n + 3 + length (spell_expr e)) s)) hp).1).1 (both (levelled e) (levelled_stmt s) hl).1 (grind (arith, length-append, length-map)))
  below_stmt count n (IfElse at e s u) hp hl lt = (at_below count at n (both (nat_eq at n) ((placed_expr (n + 2) e) && ((placed_stmt (n + 3 + length (spell_expr e)) s) && (placed_stmt (n + 4 + length (spell_expr e) + length (spell_stmt s)) u))) hp).0 (grind (arith, length-append, length-map)), below_expr count (n + 2) e (both (placed_expr (n + 2) e) ((placed_stmt (n + 3 + length (spell_expr e)) s) && (placed_stmt (n + 4 + length (spell_expr e) + length (spell_stmt s)) u)) (both (nat_eq at n) ((placed_expr (n + 2) e) && ((placed_stmt (n + 3 + length (spell_expr e)) s) && (placed_stmt (n + 4 + length (spell_expr e) + length (spell_stmt s)) u))) hp).1).0 (both (levelled e) (((not (takes_else s)) && (levelled_stmt s)) && (levelled_stmt u)) hl).0 (grind (arith, length-append, length-map)), below_stmt count (n + 3 + length (spell_expr e)) s (both (placed_stmt (n + 3 + length (spell_expr e)) s) (placed_stmt (n + 4 + length (spell_expr e) + length (spell_stmt s)) u) (both (placed_expr (n + 2) e) ((placed_stmt (n + 3 + length (spell_expr e)) s) && (placed_stmt (n + 4 + length (spell_expr e) + length (spell_stmt s)) u)) (both (nat_eq at n) ((placed_expr (n + 2) e) && ((placed_stmt (n + 3 + length (spell_expr e)) s) && (placed_stmt (n + 4 + length (spell_expr e) + length (spell_stmt s)) u))) hp).1).1).0 (both (not (takes_else s)) (levelled_stmt s) (both ((not (takes_else s)) && (levelled_stmt s)) (levelled_stmt u) (both (levelled e) (((not (takes_else s)) && (levelled_stmt s)) && (levelled_stmt u)) hl).1).0).1 (grind (arith, length-append, length-map)), below_stmt count (n + 4 + length (spell_expr e) + length (spell_stmt s)) u (both (placed_stmt (n + 3 + length (spell_expr e)) s) (placed_stmt (n + 4 + length (spell_expr e) + length (spell_stmt s)) u) (both (placed_expr (n + 2) e) ((placed_stmt (n + 3 + length (spell_expr e)) s) && (placed_stmt (n + 4 + length (spell_expr e) + length (spell_stmt s)) u)) (both (nat_eq at n) ((placed_expr (n + 2) e) && ((placed_stmt (n + 3 + length (spell_expr e)) s) && (placed_stmt (n + 4 + length (spell_expr e) + length (spell_stmt s)) u))) hp).1).1).1 (both ((not (takes_else s)) && (levelled_stmt s)) (levelled_stmt u) (both (levelled e) (((not (takes_else s)) && (levelled_stmt s)) && (levelled_stmt u)) hl).1).1 (grind (arith, length-append, length-map)))
  below_stmt count n (Switch at e s) hp hl lt = (at_below count at n (both (nat_eq at n) ((placed_expr (n + 2) e) && (placed_stmt (n + 3 + length (spell_expr e)) s)) hp).0 (grind (arith, length-append, length-map)), below_expr count (n + 2) e (both (placed_expr (n + 2) e) (placed_stmt (n + 3 + length (spell_expr e)) s) (both (nat_eq at n) ((placed_expr (n + 2) e) && (placed_stmt (n + 3 + length (spell_expr e)) s)) hp).1).0 (both (levelled e) (levelled_stmt s) hl).0 (grind (arith, length-append, length-map)), below_stmt count (n + 3 + length (spell_expr e)) s (both (placed_expr (n + 2) e) (placed_stmt (n + 3 + length (spell_expr e)) s) (both (nat_eq at n) ((placed_expr (n + 2) e) && (placed_stmt (n + 3 + length (spell_expr e)) s)) hp).1).1 (both (levelled e) (levelled_stmt s) hl).1 (grind (arith, length-append, length-map)))
  below_stmt count n (While at e s) hp hl lt = (at_below count at n (both (nat_eq at n) ((placed_expr (n + 2) e) && (placed_stmt (n + 3 + length (spell_expr e)) s)) hp).0 (grind (arith, length-append, length-map)), below_expr count (n + 2) e (both (placed_expr (n + 2) e) (placed_stmt (n + 3 + length (spell_expr e)) s) (both (nat_eq at n) ((placed_expr (n + 2) e) && (placed_stmt (n + 3 + length (spell_expr e)) s)) hp).1).0 (both (levelled e) (levelled_stmt s) hl).0 (grind (arith, length-append, length-map)), below_stmt count (n + 3 + length (spell_expr e)) s (both (placed_expr (n + 2) e) (placed_stmt (n + 3 + length (spell_expr e)) s) (both (nat_eq at n) ((placed_expr (n + 2) e) && (placed_stmt (n + 3 + length (spell_expr e)) s)) hp).1).1 (both (levelled e) (levelled_stmt s) hl).1 (grind (arith, length-append, length-map)))
  below_stmt count n (Do at s e) hp hl lt = (at_below count at n (both (nat_eq at n) ((placed_stmt (n + 1) s) && (placed_expr (n + 3 + length (spell_stmt s)) e)) hp).0 (grind (arith, length-append, length-map)), below_stmt count (n + 1) s (both (placed_stmt (n + 1) s) (placed_expr (n + 3 + length (spell_stmt s)) e) (both (nat_eq at n) ((placed_stmt (n + 1) s) && (placed_expr (n + 3 + length (spell_stmt s)) e)) hp).1).0 (both (levelled_stmt s) (levelled e) hl).0 (grind (arith, length-append, length-map)), below_expr count (n + 3 + length (spell_stmt s)) e (both (placed_stmt (n + 1) s) (placed_expr (n + 3 + length (spell_stmt s)) e) (both (nat_eq at n) ((placed_stmt (n + 1) s) && (placed_expr (n + 3 + length (spell_stmt s)) e)) hp).1).1 (both (levelled_stmt s) (levelled e) hl).1 (grind (arith, length-append, length-map)))
  below_stmt count n (For at start c step s) hp hl lt = (at_below count at n (both (nat_eq at n) (((placed_start (n + 2) start) && ((placed_maybe (n + 2 + length (spell_start start)) c) && (placed_maybe (n + 3 + length (spell_start start) + length (spell_maybe c)) step))) && (placed_stmt (n + 4 + length (spell_start start) + length (spell_maybe c) + length (spell_maybe step)) s)) hp).0 (grind (arith, length-append, length-map)), below_start count (n + 2) start (both (placed_start (n + 2) start) ((placed_maybe (n + 2 + length (spell_start start)) c) && (placed_maybe (n + 3 + length (spell_start start) + length (spell_maybe c)) step)) (both ((placed_start (n + 2) start) && ((placed_maybe (n + 2 + length (spell_start start)) c) && (placed_maybe (n + 3 + length (spell_start start) + length (spell_maybe c)) step))) (placed_stmt (n + 4 + length (spell_start start) + length (spell_maybe c) + length (spell_maybe step)) s) (both (nat_eq at n) (((placed_start (n + 2) start) && ((placed_maybe (n + 2 + length (spell_start start)) c) && (placed_maybe (n + 3 + length (spell_start start) + length (spell_maybe c)) step))) && (placed_stmt (n + 4 + length (spell_start start) + length (spell_maybe c) + length (spell_maybe step)) s)) hp).1).0).0 (both (levelled_start start) (((levelled_maybe c) && (levelled_maybe step)) && (levelled_stmt s)) hl).0 (grind (arith, length-append, length-map)), below_maybe count (n + 2 + length (spell_start start)) c (both (placed_maybe (n + 2 + length (spell_start start)) c) (placed_maybe (n + 3 + length (spell_start start) + length (spell_maybe c)) step) (both (placed_start (n + 2) start) ((placed_maybe (n + 2 + length (spell_start start)) c) && (placed_maybe (n + 3 + length (spell_start start) + length (spell_maybe c)) step)) (both ((placed_start (n + 2) start) && ((placed_maybe (n + 2 + length (spell_start start)) c) && (placed_maybe (n + 3 + length (spell_start start) + length (spell_maybe c)) step))) (placed_stmt (n + 4 + length (spell_start start) + length (spell_maybe c) + length (spell_maybe step)) s) (both (nat_eq at n) (((placed_start (n + 2) start) && ((placed_maybe (n + 2 + length (spell_start start)) c) && (placed_maybe (n + 3 + length (spell_start start) + length (spell_maybe c)) step))) && (placed_stmt (n + 4 + length (spell_start start) + length (spell_maybe c) + length (spell_maybe step)) s)) hp).1).0).1).0 (both (levelled_maybe c) (levelled_maybe step) (both ((levelled_maybe c) && (levelled_maybe step)) (levelled_stmt s) (both (levelled_start start) (((levelled_maybe c) && (levelled_maybe step)) && (levelled_stmt s)) hl).1).0).0 (grind (arith, length-append, length-map)), below_maybe count (n + 3 + length (spell_start start) + length (spell_maybe c)) step (both (placed_maybe (n + 2 + length (spell_start start)) c) (placed_maybe (n + 3 + length (spell_start start) + length (spell_maybe c)) step) (both (placed_start (n + 2) start) ((placed_maybe (n + 2 + length (spell_start start)) c) && (placed_maybe (n + 3 + length (spell_start start) + length (spell_maybe c)) step)) (both ((placed_start (n + 2) start) && ((placed_maybe (n + 2 + length (spell_start start)) c) && (placed_maybe (n + 3 + length (spell_start start) + length (spell_maybe c)) step))) (placed_stmt (n + 4 + length (spell_start start) + length (spell_maybe c) + length (spell_maybe step)) s) (both (nat_eq at n) (((placed_start (n + 2) start) && ((placed_maybe (n + 2 + length (spell_start start)) c) && (placed_maybe (n + 3 + length (spell_start start) + length (spell_maybe c)) step))) && (placed_stmt (n + 4 + length (spell_start start) + length (spell_maybe c) + length (spell_maybe step)) s)) hp).1).0).1).1 (both (levelled_maybe c) (levelled_maybe step) (both ((levelled_maybe c) && (levelled_maybe step)) (levelled_stmt s) (both (levelled_start start) (((levelled_maybe c) && (levelled_maybe step)) && (levelled_stmt s)) hl).1).0).1 (grind (arith, length-append, length-map)), below_stmt count (n + 4 + length (spell_start start) + length (spell_maybe c) + length (spell_maybe step)) s (both ((placed_start (n + 2) start) && ((placed_maybe (n + 2 + length (spell_start start)) c) && (placed_maybe (n + 3 + length (spell_start start) + length (spell_maybe c)) step))) (placed_stmt (n + 4 + length (spell_start start) + length (spell_maybe c) + length (spell_maybe step)) s) (both (nat_eq at n) (((placed_start (n + 2) start) && ((placed_maybe (n + 2 + length (spell_start start)) c) && (placed_maybe (n + 3 + length (spell_start start) + length (spell_maybe c)) step))) && (placed_stmt (n + 4 + length (spell_start start) + length (spell_maybe c) + length (spell_maybe step)) s)) hp).1).1 (both ((levelled_maybe c) && (levelled_maybe step)) (levelled_stmt s) (both (levelled_start start) (((levelled_maybe c) && (levelled_maybe step)) && (levelled_stmt s)) hl).1).1 (grind (arith, length-append, length-map)))
  below_stmt count n (Goto at x) hp hl lt = at_below count at n hp (grind (arith, length-append, length-map))
  below_stmt count n (Continue at) hp hl lt = at_below count at n hp (grind (arith, length-append, length-map))
  below_stmt count n (Break at) hp hl lt = at_below count at n hp (grind (arith, length-append, length-map))
  below_stmt count n (Return at e) hp hl lt = (at_below count at n (both (nat_eq at n) (placed_maybe (n + 1) e) hp).0 (grind (arith, length-append, length-map)), below_maybe count (n + 1) e (both (nat_eq at n) (placed_maybe (n + 1) e) hp).1 hl (grind (arith, length-append, length-map)))

  below_block_item : (count n : ℕ) (t : BlockItem) → placed_block_item n t ≡ true → levelled_block_item t ≡ true → n + length (spell_block_item t) ≤ count → BlockItemBelow count t
  below_block_item count n (Declaring d) hp hl lt = below_declaration count n d hp hl (grind (arith, length-append, length-map))
  below_block_item count n (Doing s) hp hl lt = below_stmt count n s hp hl (grind (arith, length-append, length-map))

  below_block : (count n : ℕ) (t : BlockItems) → placed_block n t ≡ true → levelled_block t ≡ true → n + length (spell_block t) ≤ count → BlockBelow count t
  below_block count n NoStatements hp hl lt = tt
  below_block count n (MoreStatements i is) hp hl lt = (below_block_item count n i (both (placed_block_item n i) (placed_block (n + length (spell_block_item i)) is) hp).0 (both (levelled_block_item i) (levelled_block is) hl).0 (grind (arith, length-append, length-map)), below_block count (n + length (spell_block_item i)) is (both (placed_block_item n i) (placed_block (n + length (spell_block_item i)) is) hp).1 (both (levelled_block_item i) (levelled_block is) hl).1 (grind (arith, length-append, length-map)))

below_external : (count n : ℕ) (t : ExternalTree) → placed_external n t ≡ true → levelled_external t ≡ true → n + length (spell_external t) ≤ count → ExternalBelow count t
below_external count n (Definition at ss d ds body_at body) hp hl lt = (at_below count at n (both (nat_eq at n) ((placed_specifiers n ss) && ((placed_declarator (n + length (spell_specifiers ss)) d) && ((placed_declarations (n + length (spell_specifiers ss) + length (spell_declarator d)) ds) && ((nat_eq body_at (n + length (spell_specifiers ss) + length (spell_declarator d) + length (spell_declarations ds))) && (placed_block (body_at + 1) body))))) hp).0 (grind (arith, length-append, length-map)), below_specifiers count n ss (both (placed_specifiers n ss) ((placed_declarator (n + length (spell_specifiers ss)) d) && ((placed_declarations (n + length (spell_specifiers ss) + length (spell_declarator d)) ds) && ((nat_eq body_at (n + length (spell_specifiers ss) + length (spell_declarator d) + length (spell_declarations ds))) && (placed_block (body_at + 1) body)))) (both (nat_eq at n) ((placed_specifiers n ss) && ((placed_declarator (n + length (spell_specifiers ss)) d) && ((placed_declarations (n + length (spell_specifiers ss) + length (spell_declarator d)) ds) && ((nat_eq body_at (n + length (spell_specifiers ss) + length (spell_declarator d) + length (spell_declarations ds))) && (placed_block (body_at + 1) body))))) hp).1).0 (both (has_specifier ss) (levelled_specifiers ss) (both ((has_specifier ss) && (levelled_specifiers ss)) (((declares d) && (levelled_declarator d)) && (is_defined_by d ds)) (both (((has_specifier ss) && (levelled_specifiers ss)) && (((declares d) && (levelled_declarator d)) && (is_defined_by d ds))) ((levelled_declarations ds) && (levelled_block body)) hl).0).0).1 (grind (arith, length-append, length-map)), below_declarator count (n + length (spell_specifiers ss)) d (both (placed_declarator (n + length (spell_specifiers ss)) d) ((placed_declarations (n + length (spell_specifiers ss) + length (spell_declarator d)) ds) && ((nat_eq body_at (n + length (spell_specifiers ss) + length (spell_declarator d) + length (spell_declarations ds))) && (placed_block (body_at + 1) body))) (both (placed_specifiers n ss) ((placed_declarator (n + length (spell_specifiers ss)) d) && ((placed_declarations (n + length (spell_specifiers ss) + length (spell_declarator d)) ds) && ((nat_eq body_at (n + length (spell_specifiers ss) + length (spell_declarator d) + length (spell_declarations ds))) && (placed_block (body_at + 1) body)))) (both (nat_eq at n) ((placed_specifiers n ss) && ((placed_declarator (n + length (spell_specifiers ss)) d) && ((placed_declarations (n + length (spell_specifiers ss) + length (spell_declarator d)) ds) && ((nat_eq body_at (n + length (spell_specifiers ss) + length (spell_declarator d) + length (spell_declarations ds))) && (placed_block (body_at + 1) body))))) hp).1).1).0 (both (declares d) (levelled_declarator d) (both ((declares d) && (levelled_declarator d)) (is_defined_by d ds) (both ((has_specifier ss) && (levelled_specifiers ss)) (((declares d) && (levelled_declarator d)) && (is_defined_by d ds)) (both (((has_specifier ss) && (levelled_specifiers ss)) && (((declares d) && (levelled_declarator d)) && (is_defined_by d ds))) ((levelled_declarations ds) && (levelled_block body)) hl).0).1).0).1 (grind (arith, length-append, length-map)), below_declarations count (n + length (spell_specifiers ss) + length (spell_declarator d)) ds (both (placed_declarations (n + length (spell_specifiers ss) + length (spell_declarator d)) ds) ((nat_eq body_at (n + length (spell_specifiers ss) + length (spell_declarator d) + length (spell_declarations ds))) && (placed_block (body_at + 1) body)) (both (placed_declarator (n + length (spell_specifiers ss)) d) ((placed_declarations (n + length (spell_specifiers ss) + length (spell_declarator d)) ds) && ((nat_eq body_at (n + length (spell_specifiers ss) + length (spell_declarator d) + length (spell_declarations ds))) && (placed_block (body_at + 1) body))) (both (placed_specifiers n ss) ((placed_declarator (n + length (spell_specifiers ss)) d) && ((placed_declarations (n + length (spell_specifiers ss) + length (spell_declarator d)) ds) && ((nat_eq body_at (n + length (spell_specifiers ss) + length (spell_declarator d) + length (spell_declarations ds))) && (placed_block (body_at + 1) body)))) (both (nat_eq at n) ((placed_specifiers n ss) && ((placed_declarator (n + length (spell_specifiers ss)) d) && ((placed_declarations (n + length (spell_specifiers ss) + length (spell_declarator d)) ds) && ((nat_eq body_at (n + length (spell_specifiers ss) + length (spell_declarator d) + length (spell_declarations ds))) && (placed_block (body_at + 1) body))))) hp).1).1).1).0 (both (levelled_declarations ds) (levelled_block body) (both (((has_specifier ss) && (levelled_specifiers ss)) && (((declares d) && (levelled_declarator d)) && (is_defined_by d ds))) ((levelled_declarations ds) && (levelled_block body)) hl).1).0 (grind (arith, length-append, length-map)), at_below count body_at (n + length (spell_specifiers ss) + length (spell_declarator d) + length (spell_declarations ds)) (both (nat_eq body_at (n + length (spell_specifiers ss) + length (spell_declarator d) + length (spell_declarations ds))) (placed_block (body_at + 1) body) (both (placed_declarations (n + length (spell_specifiers ss) + length (spell_declarator d)) ds) ((nat_eq body_at (n + length (spell_specifiers ss) + length (spell_declarator d) + length (spell_declarations ds))) && (placed_block (body_at + 1) body)) (both (placed_declarator (n + length (spell_specifiers ss)) d) ((placed_declarations (n + length (spell_specifiers ss) + length (spell_declarator d)) ds) && ((nat_eq body_at (n + length (spell_specifiers ss) + length (spell_declarator d) + length (spell_declarations ds))) && (placed_block (body_at + 1) body))) (both (placed_specifiers n ss) ((placed_declarator (n + length (spell_specifiers ss)) d) && ((placed_declarations (n + length (spell_specifiers ss) + length (spell_declarator d)) ds) && ((nat_eq body_at (n + length (spell_specifiers ss) + length (spell_declarator d) + length (spell_declarations ds))) && (placed_block (body_at + 1) body)))) (both (nat_eq at n) ((placed_specifiers n ss) && ((placed_declarator (n + length (spell_specifiers ss)) d) && ((placed_declarations (n + length (spell_specifiers ss) + length (spell_declarator d)) ds) && ((nat_eq body_at (n + length (spell_specifiers ss) + length (spell_declarator d) + length (spell_declarations ds))) && (placed_block (body_at + 1) body))))) hp).1).1).1).1).0 (grind (arith, length-append, length-map)), below_block count (body_at + 1) body (both (nat_eq body_at (n + length (spell_specifiers ss) + length (spell_declarator d) + length (spell_declarations ds))) (placed_block (body_at + 1) body) (both (placed_declarations (n + length (spell_specifiers ss) + length (spell_declarator d)) ds) ((nat_eq body_at (n + length (spell_specifiers ss) + length (spell_declarator d) + length (spell_declarations ds))) && (placed_block (body_at + 1) body)) (both (placed_declarator (n + length (spell_specifiers ss)) d) ((placed_declarations (n + length (spell_specifiers ss) + length (spell_declarator d)) ds) && ((nat_eq body_at (n + length (spell_specifiers ss) + length (spell_declarator d) + length (spell_declarations ds))) && (placed_block (body_at + 1) body))) (both (placed_specifiers n ss) ((placed_declarator (n + length (spell_specifiers ss)) d) && ((placed_declarations (n + length (spell_specifiers ss) + length (spell_declarator d)) ds) && ((nat_eq body_at (n + length (spell_specifiers ss) + length (spell_declarator d) + length (spell_declarations ds))) && (placed_block (body_at + 1) body)))) (both (nat_eq at n) ((placed_specifiers n ss) && ((placed_declarator (n + length (spell_specifiers ss)) d) && ((placed_declarations (n + length (spell_specifiers ss) + length (spell_declarator d)) ds) && ((nat_eq body_at (n + length (spell_specifiers ss) + length (spell_declarator d) + length (spell_declarations ds))) && (placed_block (body_at + 1) body))))) hp).1).1).1).1).1 (both (levelled_declarations ds) (levelled_block body) (both (((has_specifier ss) && (levelled_specifiers ss)) && (((declares d) && (levelled_declarator d)) && (is_defined_by d ds))) ((levelled_declarations ds) && (levelled_block body)) hl).1).1 (grind (arith, length-append, length-map, eqb-true _ _ (both (nat_eq body_at (n + length (spell_specifiers ss) + length (spell_declarator d) + length (spell_declarations ds))) (placed_block (body_at + 1) body) (both (placed_declarations (n + length (spell_specifiers ss) + length (spell_declarator d)) ds) ((nat_eq body_at (n + length (spell_specifiers ss) + length (spell_declarator d) + length (spell_declarations ds))) && (placed_block (body_at + 1) body)) (both (placed_declarator (n + length (spell_specifiers ss)) d) ((placed_declarations (n + length (spell_specifiers ss) + length (spell_declarator d)) ds) && ((nat_eq body_at (n + length (spell_specifiers ss) + length (spell_declarator d) + length (spell_declarations ds))) && (placed_block (body_at + 1) body))) (both (placed_specifiers n ss) ((placed_declarator (n + length (spell_specifiers ss)) d) && ((placed_declarations (n + length (spell_specifiers ss) + length (spell_declarator d)) ds) && ((nat_eq body_at (n + length (spell_specifiers ss) + length (spell_declarator d) + length (spell_declarations ds))) && (placed_block (body_at + 1) body)))) (both (nat_eq at n) ((placed_specifiers n ss) && ((placed_declarator (n + length (spell_specifiers ss)) d) && ((placed_declarations (n + length (spell_specifiers ss) + length (spell_declarator d)) ds) && ((nat_eq body_at (n + length (spell_specifiers ss) + length (spell_declarator d) + length (spell_declarations ds))) && (placed_block (body_at + 1) body))))) hp).1).1).1).1).0)))
below_external count n (External d) hp hl lt = below_declaration count n d hp hl (grind (arith, length-append, length-map))

pub below_unit : (count n : ℕ) (t : UnitTree) → placed_unit n t ≡ true → levelled_externals t ≡ true → n + length (spell_unit t) ≤ count → UnitBelow count t
below_unit count n [] hp hl lt = tt
below_unit count n (d ∷ ds) hp hl lt = (below_external count n d (both (placed_external n d) (placed_unit (n + length (spell_external d)) ds) hp).0 (both (levelled_external d) (levelled_externals ds) hl).0 (grind (arith, length-append, length-map)), below_unit count (n + length (spell_external d)) ds (both (placed_external n d) (placed_unit (n + length (spell_external d)) ds) hp).1 (both (levelled_external d) (levelled_externals ds) hl).1 (grind (arith, length-append, length-map)))
