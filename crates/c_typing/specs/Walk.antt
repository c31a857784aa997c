-- Definition: the walk over expressions, specifiers, declarators and initialisers in the order of the text (C11 6.5, 6.7): the types and typed expressions that they are, what they declare, and their first fault.
use Rattle.std.specs.Prelude.{ℕ, suc, ◌+◌, ◌-◌, int_le, unsigned_abs, Bool, true, false, not, ◌&&◌, ◌||◌, nat_lt, nat_le, ℤ, pos, ◌+ℤ◌, List, [], ◌∷◌, ◌++◌, Option, Some, None, length, is_some, if◌then◌else◌}
use Rattle.std.specs.Option.{option_map, option_and_then}
use Rattle.cil_base.specs.Limits.{function_locals, initialised_scalars}
use Rattle.cil_base.specs.declared.kinds.IntKind.TheVariants.{Int as int}
use Rattle.cil_base.specs.declared.numbers.NameId.{NameId}
use Rattle.cil_base.specs.declared.faults.Fault.TheVariants.{Excluded}
use Rattle.cil_base.specs.declared.faults.Code.TheVariants as code
use Rattle.cil_base.specs.declared.faults.Feature.TheVariants as feature
use Rattle.cil_base.specs.declared.faults.What.TheVariants as limit
use Rattle.type_graph.specs.declared.aggregates.AggKind.{AggKind}
use Rattle.type_graph.specs.declared.aggregates.AggKind.TheVariants as aggregate
use Rattle.typed_tree.specs.Tree.{Literal as LiteralObject, Entity as StaticObject, shape_in}
use Rattle.c_tree.specs.Syntax.{ExprTree, Name, Integer, Character, Literals, Parentheses, Index, Call, Member, Arrow, Postfix, CompoundLiteral, Prefix, Unary, SizeofExpr, SizeofType, AlignofType, Cast, Binary, Logical, Conditional, Assign, Comma, TypeNameTree, TypeName, ExprTrees, NoExprs, MoreExprs, SpecifierTree, Storage, Basic, Qualified, Functional, TypedefName, Tag, StructBody, EnumBody, SpecifierTrees, NoSpecifiers, MoreSpecifiers, MemberTree, MemberLine, MemberAssert, MemberTrees, NoMembers, MoreMembers, MemberDeclaratorTree, Plain, BitField, MemberDeclaratorTrees, NoMemberDeclarators, MoreMemberDeclarators, Enumerates, EnumeratorTrees, NoEnumerators, MoreEnumerators, MaybeExpr, NoExpr, SomeExpr, DeclaratorTree, Declared, Absent, Grouped, Pointer, Array, Function, Unprototyped, BoundTree, Unspecified, Star, Size, StaticSize, SizeStatic, Parameter, ParameterTrees, NoParameters, MoreParameters, InitTree, Single, Braces, Item, ItemTrees, NoItems, MoreItems, DesignatorTree, AtIndex, AtMember, DesignatorTrees, NoDesignators, MoreDesignators}
use Rattle.c_tree.specs.Places.{first_expr, first_type_name, first_specifiers, first_item}
use Rattle.c_rules.specs.Types.{CType, Types, Member as MemberType, is_array, is_too_big, is_scalar, is_flexible, complete, member_path}
use Rattle.c_rules.specs.Conversions.{Operand, operand}
use Rattle.c_rules.specs.Constants.{integer_constant, character_constant, string_literal}
use Rattle.c_rules.specs.Constraints.{has_wrong_escape}
use Rattle.c_typing.specs.Specifiers.{InParameter, NoStorage, qualifiers}
use Rattle.c_typing.specs.Scopes.{Env, Walk, ◌>>=◌, pure, asks, changes, faults, refuses_if, excludes_if, exceeds_if, required, unevaluated, types_of}
use Rattle.c_rules.specs.Nodes.{IndexNode, StepNode, BinaryNode, LogicalNode, ConditionalNode, CommaNode, CastNode, SizeofNode, AlignofNode, place}
use Rattle.c_typing.specs.Declarators.{at_first, declared_in, place_in, is_bare, Derivation, PointerTo, ArrayOf, BareFunctionOf, built}
use Rattle.c_typing.specs.Initialisers.{Part, Frame, Filling, Given, ALiteral, AValue, next_part, designated, designated_along, down_to, nesting_of, with_zero, inits, beginning, whole_part, completed, is_character_array}
use Rattle.c_typing.specs.Steps.{at_node, by_node, by_operand, by_sized, at_call, identifier, constant, nameless, made_entity, literal_of, logic_of, postfix_form, prefix_form, unary_node, assign_node, member_node, arrow_node, ats_of, base_with, typedef_named, kind_of_tag, kind_of_structure, tagged, opened, names_member, is_misspelled_line, anonymous_member, is_no_line, is_end, known_integer, asserted, closes_body, enumerates, closes_enum, refuses_words, has_words, sized, count_locals, no_parameters, one_parameter, is_last, prototyped, type_with, with_value, with_literal, in_flexible, Base, Body, Parameters}

-- outside functions objects have static storage duration (6.2.4p3)
abbrev pub is_static_here : Env → Bool
is_static_here env = not env.in_function

-- a complete object type, or an array of unknown bound (6.5.2.5p1, 6.7.9p3)
abbrev pub may_be_initialised : Types → CType → Bool
may_be_initialised t c = complete t c.shape || is_flexible t c.shape

-- a literal that is not in parentheses
abbrev pub literal_in : ExprTree → Option (List (List ℕ))
literal_in (Literals at texts) = Some texts
literal_in _ = None

-- a brace list that is one literal (6.7.9p14)
abbrev pub alone : ItemTrees → Option (ℕ × List (List ℕ))
alone (MoreItems (Item NoDesignators (Single (Literals at texts))) NoItems) = Some (at, texts)
alone _ = None

-- the `{` of a brace list stands before its first item
abbrev pub brace_at : ItemTrees → ℕ
brace_at NoItems = 0
brace_at (MoreItems i is) = first_item i - 1

-- the aggregate of the innermost brace list, in which designators begin (6.7.9p18)
abbrev pub outermost : List Frame → Option (Part × List Frame)
outermost [] = None
outermost (f ∷ []) = Some (f.part, [])
outermost (f ∷ g ∷ fs) = outermost (g ∷ fs)

abbrev pub designated_index : Types → ℤ → Part × List Frame → Option (Part × List Frame)
designated_index t n x = if is_array x.0.type.shape && int_le (pos 0) n then designated t x.0 (unsigned_abs n) x.1 else None

abbrev pub designated_member : Types → NameId → Part × List Frame → Option (Part × List Frame)
designated_member t m x = option_and_then (λ hops. designated_along t x.0 hops x.1) (member_path t m x.0.type.shape)

-- the part that an item is for: the one that its designators name, else the next one (6.7.9p17)
abbrev pub part_for : ℕ → Option (Part × List Frame) → Filling → Walk (Part × List Frame)
part_for first (Some x) f = pure x
part_for first None f = do
  t ← types_of
  required (next_part t f.frames) code.Initialiser first

-- an item without braces descends to a part that it fits (6.7.9p20), which is none of a flexible array (own)
abbrev pub fitted : ℕ → Given → Part × List Frame → Walk (Part × List Frame)
fitted first g x = do
  t ← types_of
  y ← required (down_to (nesting_of t x.0.type.shape) t g x) code.Initialiser first
  _ ← excludes_if (in_flexible y) feature.FlexibleInit first
  pure y

-- a literal that is not in parentheses is the bytes of an array of characters, and an expression for another part (6.7.9p14)
abbrev pub literal_for : Bool → ℕ → ℕ → Part → Filling → List (List ℕ) → Walk Operand → Walk Filling
literal_for static first at p f texts walk = do
  t ← types_of
  if is_character_array t p.type.shape then with_literal first at p (string_literal texts) f else (walk >>= (λ a. with_value static at p a f))

-- an expression for an object
abbrev pub object_by : Bool → ℕ → Part → Filling → Option (List (List ℕ)) → Walk Operand → Walk Filling
object_by static at p f None walk = do
  a ← walk
  with_value static at p a f
object_by static at p f (Some texts) walk = literal_for static at at p f texts walk

-- an expression as an item: it comes before the part that it is for
abbrev pub item_by : Bool → ℕ → ℕ → Option (Part × List Frame) → Filling → Option (List (List ℕ)) → Walk Operand → Walk Filling
item_by static first at d f None walk = do
  a ← walk
  x ← part_for first d f
  y ← fitted first (AValue a) x
  with_value static at y.0 a (record f { frames = y.1 })
item_by static first at d f (Some texts) walk = do
  _ ← refuses_if (has_wrong_escape (string_literal texts)) code.IntegerRange at
  x ← part_for first d f
  y ← fitted first ALiteral x
  literal_for static first at y.0 (record f { frames = y.1 }) texts walk

-- a brace list for a part: an aggregate becomes zero first, a scalar has one item (6.7.9p11, p16, p19)
abbrev pub with_brace : Types → Part → Filling → Filling
with_brace t p f = record (if is_scalar t p.type.shape then f else with_zero t p f) { frames = record { part = p; next = Some 0 } ∷ [] }

abbrev pub braced : Part → Filling → (Filling → Walk Filling) → Walk Filling
braced p f walk = do
  t ← types_of
  g ← walk (with_brace t p f)
  pure (record g { frames = f.frames })

abbrev pub braces_for : Bool → Part → Filling → Option (ℕ × List (List ℕ)) → (Filling → Walk Filling) → Walk Filling
braces_for static p f None walk = braced p f walk
braces_for static p f (Some x) walk = do
  t ← types_of
  if is_character_array t p.type.shape then with_literal x.0 x.0 p (string_literal x.1) f else braced p f walk

-- compound literals (6.5.2.5p5): an object without a name, of the function, or with static storage duration outside functions

abbrev pub numbered : ℕ → CType → Walk ℕ
numbered at c = do
  full ← asks (λ (env : Env). nat_le function_locals (count_locals env))
  _ ← exceeds_if full limit.Locals at
  n ← asks (λ (env : Env). length env.literals)
  _ ← changes (λ (env : Env). record env { literals = env.literals ++ record { quals = c.quals; shape = c.shape } ∷ [] })
  pure n

abbrev pub number_of_literal : Bool → ℕ → CType → Walk ℕ
number_of_literal true at c = numbered at c
number_of_literal false at c = asks (λ (env : Env). length env.literals)

abbrev pub literal_object : Bool → ℕ → CType → Filling → Walk Operand
literal_object true at c f = do
  evaluated ← asks (λ (env : Env). env.evaluated)
  n ← made_entity evaluated (nameless at c (inits f.steps))
  pure (operand (place c false (StaticObject n)))
literal_object false at c f = do
  evaluated ← asks (λ (env : Env). env.evaluated)
  n ← number_of_literal evaluated at c
  pure (operand (place c true (LiteralObject n (inits f.steps))))

-- not too many scalars, at the initialiser's first token (own)
abbrev pub refuses_scalars : ℕ → Filling → Walk (Unit {0})
refuses_scalars init f = exceeds_if (nat_lt initialised_scalars f.scalars) limit.Scalars init

-- an initialiser that is done: not too many scalars, and a type that is not too big, at the token of what is declared (own)
abbrev pub filled : ℕ → ℕ → CType → Filling → Walk CType
filled at init c f = do
  t ← types_of
  _ ← refuses_scalars init f
  _ ← exceeds_if (is_too_big t (completed f.reach c).shape) limit.ObjectSize at
  pure (completed f.reach c)

abbrev pub compound_literal : Bool → ℕ → ℕ → CType → Filling → Walk Operand
compound_literal static at init c f = do
  c' ← filled at init c f
  literal_object static at c' f

abbrev mutual
  -- expressions (6.5), operands before their operator, from left to right
  pub expr : ExprTree → Walk Operand
  expr (Name at x) = identifier at x
  expr (Integer at text) = do
    t ← types_of
    constant at (integer_constant t.abi text)
  expr (Character at text) = constant at (option_map (λ v. (int, v)) (character_constant text))
  expr (Literals at texts) = literal_of at (string_literal texts)
  expr (Parentheses at e) = expr e
  expr (Index at l r) = do
    a ← expr l
    b ← expr r
    at_node (by_node at) (IndexNode a b)
  expr (Call at f es) = do
    g ← expr f
    xs ← exprs es
    at_call at (ats_of es) g xs
  expr (Member at e x) = do
    a ← expr e
    t ← types_of
    at_node (by_node at) (member_node t x a)
  expr (Arrow at e x) = do
    a ← expr e
    t ← types_of
    at_node (by_node at) (arrow_node t x a)
  expr (Postfix at e op) = do
    a ← expr e
    at_node (by_operand at (first_expr e)) (StepNode (postfix_form op) a)
  expr (CompoundLiteral at t items comma) = do
    c ← named_type t
    static ← asks is_static_here
    t ← types_of
    _ ← refuses_if (not (may_be_initialised t c)) code.Incomplete at
    f ← braces_for static (whole_part c) (beginning c) (alone items) (λ g. items_in static items g)
    compound_literal static at (brace_at items) c f
  expr (Prefix at op e) = do
    a ← expr e
    at_node (by_operand at (first_expr e)) (StepNode (prefix_form op) a)
  expr (Unary at op e) = do
    a ← expr e
    at_node (by_operand at (first_expr e)) (unary_node op a)
  expr (SizeofExpr at e) = do
    a ← unevaluated (expr e)
    at_node (by_sized at (first_expr e)) (SizeofNode (shape_in a.typed))
  expr (SizeofType at t) = do
    c ← unevaluated (named_type t)
    at_node (by_sized at (at_first (first_type_name t))) (SizeofNode c.shape)
  expr (AlignofType at t) = do
    c ← unevaluated (named_type t)
    at_node (by_sized at (at_first (first_type_name t))) (AlignofNode c.shape)
  expr (Cast at t e) = do
    c ← named_type t
    a ← expr e
    at_node (by_node at) (CastNode c a)
  expr (Binary at op l r) = do
    a ← expr l
    b ← expr r
    at_node (by_node at) (BinaryNode op a b)
  expr (Logical at op l r) = do
    a ← expr l
    b ← expr r
    at_node (by_node at) (LogicalNode (logic_of op) a b)
  expr (Conditional at c y n) = do
    x ← expr c
    a ← expr y
    b ← expr n
    at_node (by_node at) (ConditionalNode x a b)
  expr (Assign at op l r) = do
    a ← expr l
    b ← expr r
    at_node (by_operand at (first_expr l)) (assign_node op a b)
  expr (Comma at l r) = do
    a ← expr l
    b ← expr r
    at_node (by_node at) (CommaNode a b)

  pub exprs : ExprTrees → Walk (List Operand)
  exprs NoExprs = pure []
  exprs (MoreExprs e es) = do
    x ← expr e
    xs ← exprs es
    pure (x ∷ xs)

  -- a type name (6.7.7)
  pub named_type : TypeNameTree → Walk CType
  named_type (TypeName ss d) = type_with ss d (base_with NoStorage ss (named false ss)) (derived false d)

  -- the specifier that is no word (6.7.2); `alone` where no other specifier and no declarator stands beside it
  pub named : Bool → SpecifierTrees → Walk (Option Base)
  named alone NoSpecifiers = pure None
  named alone (MoreSpecifiers s ss) = do
    x ← specifier alone s
    y ← named alone ss
    pure (if is_some x then x else y)

  specifier : Bool → SpecifierTree → Walk (Option Base)
  specifier alone (Storage at c) = pure None
  specifier alone (Basic at w) = pure None
  specifier alone (Qualified at q) = pure None
  specifier alone (Functional at f) = pure None
  specifier alone (TypedefName at x) = typedef_named at x
  specifier alone (Tag at k x) = tagged alone at (kind_of_tag k) x
  specifier alone (StructBody at k x ms) = do
    a ← opened (kind_of_structure k) at x
    b ← members (kind_of_structure k) (record { members = []; offered = [] }) ms
    closes_body at a b
  specifier alone (EnumBody at x es comma) = do
    a ← opened aggregate.Enum at x
    ms ← enumerators (pos 0) [] es
    closes_enum a ms

  -- members (6.7.2.1)
  members : AggKind → Body → MemberTrees → Walk Body
  members k b NoMembers = pure b
  members k b (MoreMembers m ms) = do
    b' ← member k (is_end ms) b m
    members k b' ms

  member : AggKind → Bool → Body → MemberTree → Walk Body
  member k end b (MemberLine ss ds) = do
    _ ← refuses_if (is_misspelled_line ss (is_no_line ds)) code.Specifiers (at_first (first_specifiers ss))
    x ← base_with NoStorage ss (named false ss)
    b' ← anonymous_member (is_no_line ds) x b
    member_declarators k end ss x b' ds
  member k end b (MemberAssert at c message_at message) = do
    x ← expr c
    _ ← asserted at (first_expr c) x message_at message
    pure b

  member_declarators : AggKind → Bool → SpecifierTrees → Base → Body → MemberDeclaratorTrees → Walk Body
  member_declarators k end ss x b NoMemberDeclarators = pure b
  member_declarators k end ss x b (MoreMemberDeclarators d ds) = do
    b' ← member_declarator k (end && is_no_line ds) ss x b d
    member_declarators k end ss x b' ds

  -- a bit-field is excluded at its colon, behind its declarator (own)
  member_declarator : AggKind → Bool → SpecifierTrees → Base → Body → MemberDeclaratorTree → Walk Body
  member_declarator k last ss x b (Plain d) = do
    ds ← derived false d
    c ← built (place_in ss d) ds x.type
    names_member k last (declared_in d) c b
  member_declarator k last ss x b (BitField d width) = do
    ds ← derived false d
    _ ← built (place_in ss d) ds x.type
    faults (Excluded feature.BitField) (first_expr width - 1)

  -- enumerators (6.7.2.2)
  enumerators : ℤ → List MemberType → EnumeratorTrees → Walk (List MemberType)
  enumerators next ms NoEnumerators = pure ms
  enumerators next ms (MoreEnumerators (Enumerates at x value) es) = do
    v ← enumerator_value next value
    ms' ← enumerates x at v ms
    enumerators (v +ℤ pos 1) ms' es

  enumerator_value : ℤ → MaybeExpr → Walk ℤ
  enumerator_value next NoExpr = pure next
  enumerator_value next (SomeExpr e) = do
    x ← expr e
    known_integer (first_expr e) x

  -- declarators (6.7.6), the identifier and what stands nearer to it first
  pub derived : Bool → DeclaratorTree → Walk (List Derivation)
  derived parameter (Declared at x) = pure []
  derived parameter (Absent at) = pure []
  derived parameter (Grouped at d) = derived parameter d
  derived parameter (Pointer at qs d) = do
    ds ← derived parameter d
    pure (PointerTo (qualifiers qs) ∷ ds)
  derived parameter (Array at d b) = do
    ds ← derived parameter d
    x ← bound (parameter && is_bare d) b
    pure (x ∷ ds)
  derived parameter (Function at d ps variadic) = do
    ds ← derived parameter d
    x ← prototyped variadic (parameters (not variadic) ps)
    pure (x ∷ ds)
  derived parameter (Unprototyped at d names) = do
    ds ← derived parameter d
    pure (BareFunctionOf names ∷ ds)

  -- brackets (6.7.6.2, 6.7.6.3p7)
  bound : Bool → BoundTree → Walk Derivation
  bound allowed (Unspecified at qs) = do
    _ ← refuses_words allowed (has_words qs) at
    pure (ArrayOf None (qualifiers qs))
  bound allowed (Star at qs) = do
    _ ← refuses_words allowed (has_words qs) at
    faults (Excluded feature.VariableArray) (suc at + length qs)
  bound allowed (Size at qs e) = do
    _ ← refuses_words allowed (has_words qs) at
    x ← expr e
    sized (first_expr e) qs x
  bound allowed (StaticSize at qs e) = do
    _ ← refuses_words allowed true at
    x ← expr e
    sized (first_expr e) qs x
  bound allowed (SizeStatic at qs e) = do
    _ ← refuses_words allowed true at
    x ← expr e
    sized (first_expr e) qs x

  -- parameters (6.7.6.3); `first` where the next one may be the only item of the list
  parameters : Bool → ParameterTrees → Walk Parameters
  parameters first NoParameters = pure no_parameters
  parameters first (MoreParameters (Parameter ss d) ps) = do
    b ← base_with InParameter ss (named false ss)
    ds ← derived true d
    one_parameter (first && is_last ps) ss d b ds (parameters false ps)

  -- an initialiser for an object (6.7.9): an expression or a brace list
  pub initialise : Bool → Part → Filling → InitTree → Walk Filling
  initialise static p f (Single e) = object_by static (first_expr e) p f (literal_in e) (expr e)
  initialise static p f (Braces at is comma) = braces_for static p f (alone is) (λ g. items_in static is g)

  -- the items of a brace list, each for the next part or for the one that it designates (6.7.9p17)
  pub items_in : Bool → ItemTrees → Filling → Walk Filling
  items_in static NoItems f = pure f
  items_in static (MoreItems (Item ds i) is) f = do
    d ← designation f ds
    g ← item static (first_item (Item ds i)) d f i
    items_in static is g

  -- an item, with its first token and the part that its designators name
  pub item : Bool → ℕ → Option (Part × List Frame) → Filling → InitTree → Walk Filling
  item static first d f (Single e) = item_by static first (first_expr e) d f (literal_in e) (expr e)
  item static first d f (Braces at is comma) = do
    x ← part_for first d f
    _ ← excludes_if (in_flexible x) feature.FlexibleInit first
    braces_for static x.0 (record f { frames = x.1 }) (alone is) (λ g. items_in static is g)

  pub designation : Filling → DesignatorTrees → Walk (Option (Part × List Frame))
  designation f NoDesignators = pure None
  designation f (MoreDesignators d ds) = do
    x ← designator (outermost f.frames) d
    designators x ds

  pub designators : Option (Part × List Frame) → DesignatorTrees → Walk (Option (Part × List Frame))
  designators x NoDesignators = pure x
  designators x (MoreDesignators d ds) = do
    y ← designator x d
    designators y ds

  -- `[ n ]` and `. m` (6.7.9p6, p7), each at its own token
  pub designator : Option (Part × List Frame) → DesignatorTree → Walk (Option (Part × List Frame))
  designator x (AtIndex at e) = do
    i ← expr e
    n ← known_integer (first_expr e) i
    t ← types_of
    y ← required (option_and_then (designated_index t n) x) code.Initialiser at
    pure (Some y)
  designator x (AtMember at m) = do
    t ← types_of
    y ← required (option_and_then (designated_member t m) x) code.Initialiser at
    pure (Some y)
