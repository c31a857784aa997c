-- Device: what a tree declares stands in the innermost scope, so that a parameter list is left with the scopes in front of it.
use Rattle.std.proofs.Common.{◌≡◌, refl, sym, ap, ◌∙◌, Bool, false, List, [], ◌∷◌, ◌++◌, Option, Some, None}
use Rattle.cil_base.specs.declared.numbers.NameId.{NameId}
use Rattle.typedef_scopes.specs.Scopes.{Scope, declared}
use Rattle.c_tree.specs.Syntax.{ExprTree, Name, Integer, Character, Literals, Parentheses, Index, Call, Member, Arrow, Postfix, CompoundLiteral, Prefix, Unary, SizeofExpr, SizeofType, AlignofType, Cast, Binary, Logical, Conditional, Assign, Comma, ExprTrees, NoExprs, MoreExprs, SpecifierTree, Storage, Basic, Qualified, Functional, TypedefName, Tag, StructBody, EnumBody, TypeNameTree, TypeName, SpecifierTrees, NoSpecifiers, MoreSpecifiers, MemberTree, MemberLine, MemberAssert, MemberTrees, NoMembers, MoreMembers, MemberDeclaratorTree, Plain, BitField, MemberDeclaratorTrees, NoMemberDeclarators, MoreMemberDeclarators, EnumeratorTree, Enumerates, EnumeratorTrees, NoEnumerators, MoreEnumerators, MaybeExpr, NoExpr, SomeExpr, DeclaratorTree, Declared, Absent, Grouped, Pointer, Array, Function, Unprototyped, BoundTree, Unspecified, Star, Size, StaticSize, SizeStatic, ParameterTree, Parameter, ParameterTrees, NoParameters, MoreParameters, InitTree, Single, Braces, ItemTree, Item, ItemTrees, NoItems, MoreItems, DesignatorTree, AtIndex, AtMember, DesignatorTrees, NoDesignators, MoreDesignators}
use Rattle.c_tree.specs.Scoped.{after_expr, after_exprs, after_type_name, after_specifier, after_specifiers, after_member, after_members, after_member_declarator, after_member_declarators, after_enumerator, after_enumerators, after_value, after_declarator, after_bound, after_parameter, after_parameters, after_init, after_item, after_items, after_designator, after_designators, declared_if, name_of, has_typedef, entered}
use Rattle.c_exprs.specs.DeclaratorReading.{outer_of}

declared_some : (n : NameId) (b : Bool) (s : Scope) (ss : List Scope) → (t : Scope) × (ts : List Scope) × (declared n b (s ∷ ss) ≡ t ∷ ts)
declared_some n b s [] = (s ++ (n, b) ∷ [], [], refl)
declared_some n b s (t ∷ ss) = (s, declared n b (t ∷ ss), refl)

outer_more : (s t : Scope) (ts us : List Scope) → us ≡ t ∷ ts → outer_of (s ∷ us) ≡ s ∷ outer_of us
outer_more s t ts us e = ap (λ vs. outer_of (s ∷ vs)) e ∙ ap (λ vs. s ∷ outer_of vs) (sym e)

pub outer_declared : (n : NameId) (b : Bool) (ss : List Scope) → outer_of (declared n b ss) ≡ outer_of ss
outer_declared n b [] = refl
outer_declared n b (s ∷ []) = refl
outer_declared n b (s ∷ t ∷ ss) =
    let d = declared_some n b t ss in
    outer_more s d.0 d.1 (declared n b (t ∷ ss)) d.2 ∙ ap (λ vs. s ∷ vs) (outer_declared n b (t ∷ ss))

pub outer_declared_if : (n : Option NameId) (b : Bool) (ss : List Scope) → outer_of (declared_if n b ss) ≡ outer_of ss
outer_declared_if None b ss = refl
outer_declared_if (Some n) b ss = outer_declared n b ss

mutual
  pub outer_expr : (ds : List Scope) (e : ExprTree) → outer_of (after_expr ds e) ≡ outer_of ds
  outer_expr ds (Name at n) = refl
  outer_expr ds (Integer at text) = refl
  outer_expr ds (Character at text) = refl
  outer_expr ds (Literals at texts) = refl
  outer_expr ds (Parentheses at e) = outer_expr ds e
  outer_expr ds (Index at e i) = outer_expr (after_expr ds e) i ∙ outer_expr ds e
  outer_expr ds (Call at e es) = outer_exprs (after_expr ds e) es ∙ outer_expr ds e
  outer_expr ds (Member at e n) = outer_expr ds e
  outer_expr ds (Arrow at e n) = outer_expr ds e
  outer_expr ds (Postfix at e op) = outer_expr ds e
  outer_expr ds (CompoundLiteral at t items comma) = outer_items (after_type_name ds t) items ∙ outer_type_name ds t
  outer_expr ds (Prefix at op e) = outer_expr ds e
  outer_expr ds (Unary at op e) = outer_expr ds e
  outer_expr ds (SizeofExpr at e) = outer_expr ds e
  outer_expr ds (SizeofType at t) = outer_type_name ds t
  outer_expr ds (AlignofType at t) = outer_type_name ds t
  outer_expr ds (Cast at t e) = outer_expr (after_type_name ds t) e ∙ outer_type_name ds t
  outer_expr ds (Binary at op l r) = outer_expr (after_expr ds l) r ∙ outer_expr ds l
  outer_expr ds (Logical at op l r) = outer_expr (after_expr ds l) r ∙ outer_expr ds l
  outer_expr ds (Conditional at c a b) = outer_expr (after_expr (after_expr ds c) a) b ∙ (outer_expr (after_expr ds c) a ∙ outer_expr ds c)
  outer_expr ds (Assign at op l r) = outer_expr (after_expr ds l) r ∙ outer_expr ds l
  outer_expr ds (Comma at l r) = outer_expr (after_expr ds l) r ∙ outer_expr ds l

  outer_exprs : (ds : List Scope) (es : ExprTrees) → outer_of (after_exprs ds es) ≡ outer_of ds
  outer_exprs ds NoExprs = refl
  outer_exprs ds (MoreExprs e es) = outer_exprs (after_expr ds e) es ∙ outer_expr ds e

  outer_type_name : (ds : List Scope) (t : TypeNameTree) → outer_of (after_type_name ds t) ≡ outer_of ds
  outer_type_name ds (TypeName ss d) = outer_declarator (after_specifiers ds ss) d ∙ outer_specifiers ds ss

  outer_specifier : (ds : List Scope) (s : SpecifierTree) → outer_of (after_specifier ds s) ≡ outer_of ds
  outer_specifier ds (Storage at w) = refl
  outer_specifier ds (Basic at w) = refl
  outer_specifier ds (Qualified at w) = refl
  outer_specifier ds (Functional at w) = refl
  outer_specifier ds (TypedefName at n) = refl
  outer_specifier ds (Tag at kind tag) = refl
  outer_specifier ds (StructBody at kind tag ms) = outer_members ds ms
  outer_specifier ds (EnumBody at tag es comma) = outer_enumerators ds es

  pub outer_specifiers : (ds : List Scope) (ss : SpecifierTrees) → outer_of (after_specifiers ds ss) ≡ outer_of ds
  outer_specifiers ds NoSpecifiers = refl
  outer_specifiers ds (MoreSpecifiers s ss) = outer_specifiers (after_specifier ds s) ss ∙ outer_specifier ds s

  outer_member : (ds : List Scope) (m : MemberTree) → outer_of (after_member ds m) ≡ outer_of ds
  outer_member ds (MemberLine ss d) = outer_member_declarators (after_specifiers ds ss) d ∙ outer_specifiers ds ss
  outer_member ds (MemberAssert at e m texts) = outer_expr ds e

  outer_members : (ds : List Scope) (ms : MemberTrees) → outer_of (after_members ds ms) ≡ outer_of ds
  outer_members ds NoMembers = refl
  outer_members ds (MoreMembers m ms) = outer_members (after_member ds m) ms ∙ outer_member ds m

  outer_member_declarator : (ds : List Scope) (d : MemberDeclaratorTree) → outer_of (after_member_declarator ds d) ≡ outer_of ds
  outer_member_declarator ds (Plain d) = outer_declarator ds d
  outer_member_declarator ds (BitField d w) = outer_expr (after_declarator ds d) w ∙ outer_declarator ds d

  outer_member_declarators : (ds : List Scope) (d : MemberDeclaratorTrees) → outer_of (after_member_declarators ds d) ≡ outer_of ds
  outer_member_declarators ds NoMemberDeclarators = refl
  outer_member_declarators ds (MoreMemberDeclarators d rest) = outer_member_declarators (after_member_declarator ds d) rest ∙ outer_member_declarator ds d

  outer_enumerator : (ds : List Scope) (e : EnumeratorTree) → outer_of (after_enumerator ds e) ≡ outer_of ds
  outer_enumerator ds (Enumerates at n v) = outer_declared n false (after_value ds v) ∙ outer_value ds v

  outer_enumerators : (ds : List Scope) (es : EnumeratorTrees) → outer_of (after_enumerators ds es) ≡ outer_of ds
  outer_enumerators ds NoEnumerators = refl
  outer_enumerators ds (MoreEnumerators e es) = outer_enumerators (after_enumerator ds e) es ∙ outer_enumerator ds e

  outer_value : (ds : List Scope) (v : MaybeExpr) → outer_of (after_value ds v) ≡ outer_of ds
  outer_value ds NoExpr = refl
  outer_value ds (SomeExpr e) = outer_expr ds e

  pub outer_declarator : (ds : List Scope) (d : DeclaratorTree) → outer_of (after_declarator ds d) ≡ outer_of ds
  outer_declarator ds (Declared at n) = refl
  outer_declarator ds (Absent at) = refl
  outer_declarator ds (Grouped at d) = outer_declarator ds d
  outer_declarator ds (Pointer at qs d) = outer_declarator ds d
  outer_declarator ds (Array at d b) = outer_bound (after_declarator ds d) b ∙ outer_declarator ds d
  outer_declarator ds (Function at d ps v) = outer_declarator ds d
  outer_declarator ds (Unprototyped at d names) = outer_declarator ds d

  outer_bound : (ds : List Scope) (b : BoundTree) → outer_of (after_bound ds b) ≡ outer_of ds
  outer_bound ds (Unspecified at qs) = refl
  outer_bound ds (Star at qs) = refl
  outer_bound ds (Size at qs e) = outer_expr ds e
  outer_bound ds (StaticSize at qs e) = outer_expr ds e
  outer_bound ds (SizeStatic at qs e) = outer_expr ds e

  pub outer_init : (ds : List Scope) (i : InitTree) → outer_of (after_init ds i) ≡ outer_of ds
  outer_init ds (Single e) = outer_expr ds e
  outer_init ds (Braces at items comma) = outer_items ds items

  outer_item : (ds : List Scope) (i : ItemTree) → outer_of (after_item ds i) ≡ outer_of ds
  outer_item ds (Item d i) = outer_init (after_designators ds d) i ∙ outer_designators ds d

  outer_items : (ds : List Scope) (is : ItemTrees) → outer_of (after_items ds is) ≡ outer_of ds
  outer_items ds NoItems = refl
  outer_items ds (MoreItems i is) = outer_items (after_item ds i) is ∙ outer_item ds i

  outer_designator : (ds : List Scope) (d : DesignatorTree) → outer_of (after_designator ds d) ≡ outer_of ds
  outer_designator ds (AtIndex at e) = outer_expr ds e
  outer_designator ds (AtMember at n) = refl

  outer_designators : (ds : List Scope) (d : DesignatorTrees) → outer_of (after_designators ds d) ≡ outer_of ds
  outer_designators ds NoDesignators = refl
  outer_designators ds (MoreDesignators d rest) = outer_designators (after_designator ds d) rest ∙ outer_designator ds d

outer_parameter : (ds : List Scope) (p : ParameterTree) → outer_of (after_parameter ds p) ≡ outer_of ds
outer_parameter ds (Parameter ss d) = outer_declared_if (name_of d) (has_typedef ss) (after_declarator (after_specifiers ds ss) d) ∙ (outer_declarator (after_specifiers ds ss) d ∙ outer_specifiers ds ss)

pub outer_parameters : (ds : List Scope) (ps : ParameterTrees) → outer_of (after_parameters ds ps) ≡ outer_of ds
outer_parameters ds NoParameters = refl
outer_parameters ds (MoreParameters p ps) = outer_parameters (after_parameter ds p) ps ∙ outer_parameter ds p

pub entered_outer : (ds : List Scope) → outer_of (entered ds) ≡ ds
entered_outer [] = refl
entered_outer (s ∷ []) = refl
entered_outer (s ∷ t ∷ ss) = ap (λ vs. s ∷ vs) (entered_outer (t ∷ ss))

-- a parameter list is left with the scopes in front of it
pub outer_after : (ds : List Scope) (ps : ParameterTrees) → outer_of (after_parameters (entered ds) ps) ≡ ds
outer_after ds ps = outer_parameters (entered ds) ps ∙ entered_outer ds
