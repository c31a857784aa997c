-- Definition: the steps of which the walk over expressions, specifiers, declarators and initialisers is made (C11 6.4.4, 6.5, 6.7): each is one rule at one place of the text.
use Rattle.std.specs.Prelude.{ℕ, zero, suc, ◌+◌, Bool, true, false, not, ◌&&◌, ◌||◌, nat_eq, nat_le, ℤ, pos, List, [], ◌∷◌, ◌++◌, Option, Some, None, length, slice_get, is_some, codes, if◌then◌else◌}
use Rattle.std.specs.Option.{option_map, option_and_then}
use Rattle.cil_base.specs.Limits.{function_locals}
use Rattle.cil_base.specs.declared.kinds.Abi.{Abi}
use Rattle.cil_base.specs.declared.kinds.IntKind.{IntKind}
use Rattle.cil_base.specs.declared.kinds.IntKind.TheVariants.{Char, Int as int}
use Rattle.cil_base.specs.declared.numbers.NameId.{NameId}
use Rattle.cil_base.specs.declared.faults.Fault.TheVariants.{Constraint}
use Rattle.cil_base.specs.declared.faults.Code.{Code}
use Rattle.cil_base.specs.declared.faults.Code.TheVariants as code
use Rattle.cil_base.specs.declared.faults.What.TheVariants as limit
use Rattle.cil_base.specs.declared.operators.BinOp.{BinOp}
use Rattle.cil_base.specs.declared.operators.UnOp.TheVariants.{Neg, Compl, Not}
use Rattle.cil_base.specs.Arithmetic.{fits}
use Rattle.type_graph.specs.declared.aggregates.AggKind.{AggKind}
use Rattle.type_graph.specs.declared.aggregates.AggKind.TheVariants as aggregate
use Rattle.type_graph.specs.declared.nodes.Quals.{Quals}
use Rattle.type_graph.specs.Shapes.{Shape, Shapes, VoidType, IntType, ArrayType, AggType, NoTypes, MoreTypes}
use Rattle.typed_tree.specs.declared.expressions.Logic.{Logic}
use Rattle.typed_tree.specs.declared.expressions.Logic.TheVariants as logic
use Rattle.typed_tree.specs.declared.expressions.StepForm.{StepForm}
use Rattle.typed_tree.specs.declared.expressions.StepForm.TheVariants.{PreIncrement, PreDecrement, PostIncrement, PostDecrement}
use Rattle.typed_tree.specs.Tree.{Local as AutomaticObject, Entity as StaticObject, Init, Zero, Scalar, Constant', Aggregate as Whole, Bytes, Inits, shape_in}
use Rattle.typed_tree.specs.Units.{Initialised}
use Rattle.c_tree.specs.declared.words.StorageClass.{StorageClass}
use Rattle.c_tree.specs.declared.words.StorageClass.TheVariants.{Register}
use Rattle.c_tree.specs.declared.words.Qualifier.{Qualifier}
use Rattle.c_tree.specs.declared.words.StructKind.{StructKind}
use Rattle.c_tree.specs.declared.words.StructKind.TheVariants as structure
use Rattle.c_tree.specs.declared.words.TagKind.{TagKind}
use Rattle.c_tree.specs.declared.words.TagKind.TheVariants as tag
use Rattle.c_tree.specs.declared.words.StepOp.{StepOp}
use Rattle.c_tree.specs.declared.words.StepOp.TheVariants.{Increment, Decrement}
use Rattle.c_tree.specs.declared.words.UnaryOp.{UnaryOp}
use Rattle.c_tree.specs.declared.words.UnaryOp.TheVariants.{Address, Indirection, Plus, Minus, Complement, Not as Negation}
use Rattle.c_tree.specs.declared.words.LogicalOp.{LogicalOp}
use Rattle.c_tree.specs.declared.words.LogicalOp.TheVariants.{And, Or}
use Rattle.c_tree.specs.Syntax.{ExprTrees, NoExprs, MoreExprs, Qualified, SpecifierTrees, NoSpecifiers, MoreSpecifiers, MemberLine, MemberAssert, MemberTrees, NoMembers, MoreMembers, MemberDeclaratorTrees, NoMemberDeclarators, MoreMemberDeclarators, DeclaratorTree, ParameterTrees, NoParameters, MoreParameters}
use Rattle.c_tree.specs.Places.{first_expr, first_specifiers}
use Rattle.c_rules.specs.Types.{CType, Types, Member as MemberType, Aggregate, plain, unqualified, same_name, pointee, is_void, is_function, is_object, is_array, is_too_big, lacks_type, any_of, aggregate_at, member_path, qualified}
use Rattle.c_rules.specs.Conversions.{Operand, operand, value_of, shape_of}
use Rattle.c_rules.specs.Constants.{string_literal}
use Rattle.c_rules.specs.Evaluation.{integer_value, constant_in}
use Rattle.c_typing.specs.Specifiers.{Position, are_specifiers, qualifiers, qualifiers_in, words_in, basic_shape, class_of, has_tagless_body, is_wrong_restrict}
use Rattle.c_typing.specs.Scopes.{Env, Scope, Entity, Denotes, TypedefName as ATypedefName, EnumerationConstant, Automatic, Static, NoLinkage, Walk, ◌>>=◌, pure, asks, changes, faults, refuses_if, exceeds_if, required, visible_name, visible_tag, own_name, own_tag, with_name, with_tag, empty_scope, enter, leave, types_of, new_aggregate, with_changed_aggregate, new_entity, uses}
use Rattle.c_rules.specs.Nodes.{Node, NameNode, ConstantNode, CallNode, MemberNode, ArrowNode, AddressNode, IndirectNode, PlusNode, UnaryNode, AssignNode, ComputeNode, ConvertNode, constant_operand, place, typed_node}
use Rattle.c_rules.specs.Constraints.{has_wrong_escape, is_declared, first_violated, wrong_argument}
use Rattle.c_typing.specs.Declarators.{at_first, declared_in, place_in, Derivation, ArrayOf, FunctionOf, bound_of, built, last_of, adjusted, bracket_quals, is_lone_void}
use Rattle.c_typing.specs.Initialisers.{Path, Part, Frame, Filling, AValue, takes_whole, with_whole, with_bytes, fitting, has_room, bound_of_array, inits}

-- nodes

-- an operator: the first constraint that it violates at its token, else its typed expression
abbrev pub node_or : (Code → ℕ) → Node → Option Code → Types → Walk Operand
node_or at n None t = pure (typed_node t n)
node_or at n (Some c) t = faults (Constraint c) (at c)

abbrev pub at_node : (Code → ℕ) → Node → Walk Operand
at_node at n = do
  t ← types_of
  node_or at n (first_violated t n) t

-- the tokens of constraints (own): that of the operator's node; of an lvalue that is wanted, its operand's; of an argument, its own; of an operand of `sizeof` that has no size, its own

abbrev pub by_node : ℕ → Code → ℕ
by_node at c = at

abbrev pub by_operand : ℕ → ℕ → Code → ℕ
by_operand at x code.NotLvalue = x
by_operand at x code.NotModifiable = x
by_operand at x _ = at

abbrev pub by_sized : ℕ → ℕ → Code → ℕ
by_sized at x code.Incomplete = x
by_sized at x _ = at

abbrev pub number_at : ℕ → List ℕ → Option ℕ → ℕ
number_at at ats None = at
number_at at ats (Some i) = elim (slice_get ats i) [ None ↦ at | Some x ↦ x ]

abbrev pub by_argument : ℕ → ℕ → Code → ℕ
by_argument at x code.Assignment = x
by_argument at x _ = at

abbrev pub at_call : ℕ → List ℕ → Operand → List Operand → Walk Operand
at_call at ats f xs = do
  t ← types_of
  at_node (by_argument at (number_at at ats (wrong_argument t f xs))) (CallNode f xs)

-- identifiers (6.5.1p2, 6.4.4.3)

abbrev pub designates : Types → Denotes → Option Operand
designates t (ATypedefName c) = None
designates t (EnumerationConstant v) = Some (constant_operand t int v)
designates t (Automatic n c register) = Some (record { typed = place c false (AutomaticObject n); null = false; register = register })
designates t (Static n c) = Some (operand (place c false (StaticObject n)))

abbrev pub uses_name : Option Denotes → Walk (Unit {0})
uses_name (Some (Static n c)) = uses n
uses_name _ = pure tt

abbrev pub identifier : ℕ → NameId → Walk Operand
identifier at x = do
  found ← asks (λ (env : Env). visible_name env x)
  t ← types_of
  _ ← uses_name found
  at_node (by_node at) (NameNode (option_and_then (designates t) found))

-- constants (6.4.4) and literals (6.4.5)

abbrev pub constant : ℕ → Option (IntKind × ℤ) → Walk Operand
constant at found = do
  t ← types_of
  at_node (by_node at) (ConstantNode (option_map (λ (x : IntKind × ℤ). constant_operand t x.0 x.1) found))

abbrev pub literal_type : List ℕ → CType
literal_type bytes = unqualified (ArrayType plain (IntType Char) (Some (length bytes)))

-- an object with static storage duration and no name (6.4.5p6, 6.5.2.5p5)
abbrev pub nameless : ℕ → CType → Inits → Entity
nameless at c init = record { name = None; linkage = NoLinkage; type = c; first = at; tentative = None; defined = Some at; bare = false; used = true; definition = Initialised init }

-- in an operand that is not evaluated no object is made (own)
abbrev pub made_entity : Bool → Entity → Walk ℕ
made_entity true x = new_entity x
made_entity false x = asks (λ (env : Env). length env.entities)

abbrev pub literal_of : ℕ → Option (List ℕ) → Walk Operand
literal_of at None = at_node (by_node at) (ConstantNode None)
literal_of at (Some bytes) = do
  evaluated ← asks (λ (env : Env). env.evaluated)
  n ← made_entity evaluated (nameless at (literal_type bytes) (inits (Zero [] ∷ Bytes [] bytes ∷ [])))
  at_node (by_node at) (ConstantNode (Some (operand (place (literal_type bytes) false (StaticObject n)))))

-- operators

abbrev pub logic_of : LogicalOp → Logic
logic_of And = logic.And
logic_of Or = logic.Or

abbrev pub postfix_form : StepOp → StepForm
postfix_form Increment = PostIncrement
postfix_form Decrement = PostDecrement

abbrev pub prefix_form : StepOp → StepForm
prefix_form Increment = PreIncrement
prefix_form Decrement = PreDecrement

abbrev pub unary_node : UnaryOp → Operand → Node
unary_node Address x = AddressNode x
unary_node Indirection x = IndirectNode x
unary_node Plus x = PlusNode x
unary_node Minus x = UnaryNode Neg x
unary_node Complement x = UnaryNode Compl x
unary_node Negation x = UnaryNode Not x

abbrev pub assign_node : Option BinOp → Operand → Operand → Node
assign_node None a b = AssignNode a b
assign_node (Some op) a b = ComputeNode op a b

abbrev pub member_node : Types → NameId → Operand → Node
member_node t x e = MemberNode e (member_path t x (shape_in e.typed))

abbrev pub arrow_node : Types → NameId → Operand → Node
arrow_node t x e = ArrowNode e (option_and_then (λ (c : CType). member_path t x c.shape) (pointee (shape_of e)))

abbrev pub ats_of : ExprTrees → List ℕ
ats_of NoExprs = []
ats_of (MoreExprs e es) = first_expr e ∷ ats_of es

-- names that are reserved (own): those that begin with `__builtin_`

abbrev pub begins_with : List ℕ → List ℕ → Bool
begins_with [] text = true
begins_with (b ∷ bs) [] = false
begins_with (b ∷ bs) (c ∷ cs) = nat_eq b c && begins_with bs cs

abbrev pub text_of : Env → NameId → List ℕ
text_of env x = elim (slice_get env.texts x.0) [ None ↦ [] | Some text ↦ text ]

abbrev pub is_reserved : Env → NameId → Bool
is_reserved env x = begins_with (codes "__builtin_") (text_of env x)

abbrev pub refuses_reserved : NameId → ℕ → Walk (Unit {0})
refuses_reserved x at = do
  reserved ← asks (λ (env : Env). is_reserved env x)
  refuses_if reserved code.Reserved at

-- specifiers

-- the type that some specifiers are, and the members that an anonymous structure or union among them gives, with their tokens
pub record Base : Type 0 where
  pub type : CType
  pub offered : List (NameId × ℕ)

abbrev pub base : CType → List (NameId × ℕ) → Base
base c offered = record { type = c; offered = offered }

abbrev pub restrict_at : SpecifierTrees → ℕ
restrict_at NoSpecifiers = 0
restrict_at (MoreSpecifiers (Qualified at q) ss) = if (qualifiers (q ∷ [])).restricted then at else restrict_at ss
restrict_at (MoreSpecifiers _ ss) = restrict_at ss

-- the type that the words are, void where they are none (6.7.2p2)
abbrev pub word_type : Abi → SpecifierTrees → CType
word_type abi ss = elim (basic_shape abi (words_in ss)) [ None ↦ unqualified VoidType | Some s ↦ unqualified s ]

abbrev pub base_or : CType → Option Base → Base
base_or c None = base c []
base_or c (Some b) = b

-- the type of the specifiers: that of the one that is no word, or of the words, with the qualifiers (6.7.2, 6.7.3)
abbrev pub base_with : Position → SpecifierTrees → Walk (Option Base) → Walk Base
base_with p ss named = do
  _ ← refuses_if (not (are_specifiers p ss)) code.Specifiers (at_first (first_specifiers ss))
  found ← named
  t ← types_of
  _ ← refuses_if (is_wrong_restrict (qualifiers_in ss) (base_or (word_type t.abi ss) found).type.shape) code.Restrict (restrict_at ss)
  pure (record (base_or (word_type t.abi ss) found) { type = qualified (qualifiers_in ss) (base_or (word_type t.abi ss) found).type })

-- a typedef name (6.7.8)
abbrev pub typedef_type : Option Denotes → Option CType
typedef_type (Some (ATypedefName c)) = Some c
typedef_type _ = None

abbrev pub typedef_named : ℕ → NameId → Walk (Option Base)
typedef_named at x = do
  found ← asks (λ (env : Env). visible_name env x)
  c ← required (typedef_type found) code.Specifiers at
  pure (Some (base c []))

-- tags (6.7.2.3)

abbrev pub kind_of_tag : TagKind → AggKind
kind_of_tag tag.Struct = aggregate.Struct
kind_of_tag tag.Union = aggregate.Union
kind_of_tag tag.Enum = aggregate.Enum

abbrev pub kind_of_structure : StructKind → AggKind
kind_of_structure structure.Struct = aggregate.Struct
kind_of_structure structure.Union = aggregate.Union

abbrev pub same_aggregate_kind : AggKind → AggKind → Bool
same_aggregate_kind aggregate.Struct aggregate.Struct = true
same_aggregate_kind aggregate.Union aggregate.Union = true
same_aggregate_kind aggregate.Enum aggregate.Enum = true
same_aggregate_kind _ _ = false

abbrev pub is_enum_kind : AggKind → Bool
is_enum_kind k = same_aggregate_kind k aggregate.Enum

abbrev pub has_kind : AggKind → Option Aggregate → Bool
has_kind k None = false
has_kind k (Some x) = same_aggregate_kind k x.kind

abbrev pub has_begun : Option Aggregate → Bool
has_begun None = false
has_begun (Some x) = x.begun || is_some x.members

abbrev pub new_tag : AggKind → NameId → ℕ → Walk ℕ
new_tag k x at = do
  _ ← refuses_reserved x at
  a ← new_aggregate (record { kind = k; tag = Some x; members = None; begun = false })
  _ ← changes (with_tag x a)
  pure a

-- an enumerated type is named behind its list alone (6.7.2.3p3)
abbrev pub is_unlisted : AggKind → Option Aggregate → Bool
is_unlisted k None = false
is_unlisted k (Some x) = is_enum_kind k && not (is_some x.members)

-- a tag that is visible has that kind (6.7.2.3p2); one that is not declares an incomplete structure or union (p8), and no enumerated type (p3)
abbrev pub tag_or_new : AggKind → NameId → ℕ → Option ℕ → Walk ℕ
tag_or_new k x at (Some a) = do
  t ← types_of
  _ ← refuses_if (not (has_kind k (aggregate_at t a)) || is_unlisted k (aggregate_at t a)) code.Tag at
  pure a
tag_or_new k x at None = do
  _ ← refuses_if (is_enum_kind k) code.Tag at
  new_tag k x at

-- `struct tag ;` alone speaks of the innermost scope (6.7.2.3p7)
abbrev pub seen_tag : Bool → NameId → Env → Option ℕ
seen_tag alone x env = if alone then own_tag env x else visible_tag env x

abbrev pub tagged : Bool → ℕ → AggKind → NameId → Walk (Option Base)
tagged alone at k x = do
  seen ← asks (seen_tag (alone && not (is_enum_kind k)) x)
  a ← tag_or_new k x (suc at) seen
  pure (Some (base (unqualified (AggType a)) []))

-- a body completes a tag of the innermost scope, which has that kind and no body before (6.7.2.3p1, p2), or a new one
abbrev pub body_of_tag : AggKind → NameId → ℕ → Option ℕ → Walk ℕ
body_of_tag k x at (Some a) = do
  t ← types_of
  _ ← refuses_if (not (has_kind k (aggregate_at t a)) || has_begun (aggregate_at t a)) code.Tag at
  pure a
body_of_tag k x at None = new_tag k x at

abbrev pub aggregate_of : AggKind → ℕ → Option NameId → Walk ℕ
aggregate_of k at None = new_aggregate (record { kind = k; tag = None; members = None; begun = false })
aggregate_of k at (Some x) = do
  seen ← asks (λ (env : Env). own_tag env x)
  body_of_tag k x (suc at) seen

abbrev pub opened : AggKind → ℕ → Option NameId → Walk ℕ
opened k at x = do
  a ← aggregate_of k at x
  _ ← changes (with_changed_aggregate a (λ (y : Aggregate). record y { begun = true }))
  pure a

abbrev pub closed : ℕ → List MemberType → Walk (Unit {0})
closed a ms = changes (with_changed_aggregate a (λ (y : Aggregate). record y { members = Some ms; begun = false }))

-- members of a body so far, the last one first, and the names that they give, with their tokens
pub record Body : Type 0 where
  pub members : List MemberType
  pub offered : List (NameId × ℕ)

abbrev pub gives : NameId → List (NameId × ℕ) → Bool
gives x offered = any_of (λ (p : NameId × ℕ). same_name p.0 x) offered

abbrev pub with_member : MemberType → List (NameId × ℕ) → Body → Body
with_member m offered b = record { members = m ∷ b.members; offered = b.offered ++ offered }

-- a flexible array is the last member of a structure, behind another (6.7.2.1p3, p18)
abbrev pub may_be_flexible : AggKind → Bool → Body → Bool
may_be_flexible k last b = same_aggregate_kind k aggregate.Struct && (last && not (nat_eq (length b.members) 0))

-- a member (6.7.2.1p2, p3)
abbrev pub declares_member : AggKind → Bool → NameId → ℕ → CType → Body → Walk Body
declares_member k last x at c b = do
  t ← types_of
  _ ← refuses_if (gives x b.offered) code.Redeclared at
  _ ← refuses_if (is_object c.shape && lacks_type t (may_be_flexible k last b) c.shape) code.Incomplete at
  _ ← refuses_if (is_function c.shape) code.FunctionType at
  _ ← refuses_reserved x at
  pure (with_member (record { name = Some x; type = c; value = pos 0 }) ((x, at) ∷ []) b)

-- a declarator of a member has an identifier
abbrev pub names_member : AggKind → Bool → Option (NameId × ℕ) → CType → Body → Walk Body
names_member k last None c b = pure b
names_member k last (Some x) c b = declares_member k last x.0 x.1 c b

-- the names of an anonymous structure or union are the names of members too (6.7.2.1p13)
abbrev pub refuses_repeated : List (NameId × ℕ) → List (NameId × ℕ) → Walk (Unit {0})
refuses_repeated before [] = pure tt
refuses_repeated before (p ∷ ps) = do
  _ ← refuses_if (gives p.0 before) code.Redeclared p.1
  refuses_repeated before ps

-- a line of members without declarators is an anonymous structure or union (6.7.2.1p2, p13)
abbrev pub is_misspelled_line : SpecifierTrees → Bool → Bool
is_misspelled_line ss none = none && not (has_tagless_body ss)

abbrev pub anonymous_member : Bool → Base → Body → Walk Body
anonymous_member false x b = pure b
anonymous_member true x b = do
  _ ← refuses_repeated b.offered x.offered
  pure (with_member (record { name = None; type = x.type; value = pos 0 }) x.offered b)

abbrev pub is_no_line : MemberDeclaratorTrees → Bool
is_no_line NoMemberDeclarators = true
is_no_line (MoreMemberDeclarators d ds) = false

-- no line of members stands behind
abbrev pub is_end : MemberTrees → Bool
is_end NoMembers = true
is_end (MoreMembers (MemberLine ss ds) ms) = false
is_end (MoreMembers (MemberAssert at c m_at message) ms) = is_end ms

-- an integer constant expression (6.6p6)
abbrev pub known_integer : ℕ → Operand → Walk ℤ
known_integer at x = do
  t ← types_of
  required (integer_value t (value_of x.typed)) code.NotConstant at

-- a static assertion (6.7.10p2): behind its expression and its message, which is a string literal
abbrev pub is_zero_integer : ℤ → Bool
is_zero_integer (pos zero) = true
is_zero_integer _ = false

abbrev pub asserted : ℕ → ℕ → Operand → ℕ → List (List ℕ) → Walk (Unit {0})
asserted at e_at x message_at message = do
  _ ← refuses_if (has_wrong_escape (string_literal message)) code.IntegerRange message_at
  n ← known_integer e_at x
  refuses_if (is_zero_integer n) code.Assertion at

-- the members in their order, of which there is one at least (6.7.2.1p8)
abbrev pub in_order : List MemberType → List MemberType → List MemberType
in_order before [] = before
in_order before (m ∷ ms) = in_order (m ∷ before) ms

abbrev pub closes_body : ℕ → ℕ → Body → Walk (Option Base)
closes_body at a b = do
  _ ← refuses_if (nat_eq (length b.members) 0) code.Incomplete at
  _ ← closed a (in_order [] b.members)
  t ← types_of
  _ ← exceeds_if (is_too_big t (AggType a)) limit.ObjectSize at
  pure (Some (base (unqualified (AggType a)) b.offered))

-- an enumerator (6.7.2.2p2, p3): a constant of type int, by one more than the one before if it has no value of its own
abbrev pub enumerates : NameId → ℕ → ℤ → List MemberType → Walk (List MemberType)
enumerates x at v ms = do
  seen ← asks (λ (env : Env). own_name env x)
  _ ← refuses_if (is_declared seen) code.Redeclared at
  _ ← refuses_if (not (fits int v)) code.EnumRange at
  _ ← refuses_reserved x at
  _ ← changes (with_name x (EnumerationConstant v))
  pure (ms ++ record { name = Some x; type = unqualified (IntType int); value = v } ∷ [])

abbrev pub closes_enum : ℕ → List MemberType → Walk (Option Base)
closes_enum a ms = do
  _ ← closed a ms
  pure (Some (base (unqualified (AggType a)) []))

-- brackets (6.7.6.2p1): qualifiers and `static` stand only in those next to a parameter's identifier
abbrev pub refuses_words : Bool → Bool → ℕ → Walk (Unit {0})
refuses_words allowed words at = refuses_if (words && not allowed) code.Specifiers (suc at)

abbrev pub has_words : List Qualifier → Bool
has_words qs = not (nat_eq (length qs) 0)

abbrev pub sized : ℕ → List Qualifier → Operand → Walk Derivation
sized at qs x = do
  t ← types_of
  n ← bound_of at t (value_of x.typed)
  pure (ArrayOf (Some (n, at)) (qualifiers qs))

-- parameters (6.7.6.3)

-- parameters so far, and whether each has a name
pub record Parameters : Type 0 where
  pub shapes : Shapes
  pub all_named : Bool

abbrev pub with_parameter : Shape → Bool → Parameters → Parameters
with_parameter s named ps = record { shapes = MoreTypes s ps.shapes; all_named = named && ps.all_named }

abbrev pub count_locals : Env → ℕ
count_locals env = length env.locals + length env.literals

-- an object with automatic storage duration, which has the next number
abbrev pub numbers_local : NameId → CType → Bool → Walk ℕ
numbers_local x c register = do
  n ← asks (λ (env : Env). length env.locals)
  _ ← changes (λ (env : Env). record env { locals = env.locals ++ record { name = x; quals = c.quals; shape = c.shape } ∷ [] })
  _ ← changes (with_name x (Automatic n c register))
  pure n

abbrev pub declares_local : NameId → ℕ → CType → Bool → Walk ℕ
declares_local x at c register = do
  full ← asks (λ (env : Env). nat_le function_locals (count_locals env))
  _ ← exceeds_if full limit.Locals at
  numbers_local x c register

abbrev pub is_register : SpecifierTrees → Bool
is_register ss = elim (class_of ss) [ None ↦ false | Some c ↦ is_one c ]
  where
    is_one : StorageClass → Bool
    is_one Register = true
    is_one _ = false

-- a parameter is declared in the prototype's scope (6.2.1p4), an unnamed one is not; those of a function definition alone count for its limit (own)
abbrev pub declares_parameter : SpecifierTrees → ℕ → Option (NameId × ℕ) → CType → Quals → Walk Parameters → Walk Parameters
declares_parameter ss at None c q more = do
  _ ← refuses_if (is_void c.shape) code.Incomplete at
  ps ← more
  pure (with_parameter (adjusted q c).shape false ps)
declares_parameter ss at (Some x) c q more = do
  seen ← asks (λ (env : Env). own_name env x.0)
  _ ← refuses_if (is_declared seen) code.Redeclared x.1
  _ ← refuses_if (is_void c.shape) code.Incomplete x.1
  _ ← refuses_reserved x.0 x.1
  _ ← numbers_local x.0 (adjusted q c) (is_register ss)
  ps ← more
  pure (with_parameter (adjusted q c).shape true ps)

abbrev pub no_parameters : Parameters
no_parameters = record { shapes = NoTypes; all_named = true }

-- `( void )` is a prototype without parameters (6.7.6.3p10); `more` walks the parameters behind
abbrev pub one_parameter : Bool → SpecifierTrees → DeclaratorTree → Base → List Derivation → Walk Parameters → Walk Parameters
one_parameter alone ss d b ds more = do
  c ← built (place_in ss d) ds b.type
  if alone && (is_lone_void c (declared_in d) && not (is_some (class_of ss))) then pure no_parameters else declares_parameter ss (place_in ss d) (declared_in d) c (bracket_quals (last_of ds)) more

abbrev pub is_last : ParameterTrees → Bool
is_last NoParameters = true
is_last (MoreParameters p ps) = false

abbrev pub top_scope : List Scope → Scope
top_scope [] = empty_scope
top_scope (s ∷ ss) = s

-- a parameter list has a scope of its own, which ends with it (6.2.1p4); its objects have numbers only where it is a function definition's
abbrev pub prototyped : Bool → Walk Parameters → Walk Derivation
prototyped variadic walk = do
  before ← asks (λ (env : Env). env.locals)
  _ ← enter
  ps ← walk
  scope ← asks (λ (env : Env). top_scope env.scopes)
  locals ← asks (λ (env : Env). env.locals)
  _ ← leave
  _ ← changes (λ (env : Env). record env { locals = before })
  pure (FunctionOf (record { shapes = ps.shapes; variadic = variadic; all_named = ps.all_named; scope = scope; locals = locals }))

-- a type name (6.7.7)
abbrev pub type_with : SpecifierTrees → DeclaratorTree → Walk Base → Walk (List Derivation) → Walk CType
type_with ss d specified derived = do
  b ← specified
  ds ← derived
  built (place_in ss d) ds b.type

-- initialisers (6.7.9)

-- an object with static storage duration is initialised by constants (6.7.9p4)
abbrev pub scalar_step : Bool → ℕ → Path → Operand → Walk Init
scalar_step true at p x = do
  t ← types_of
  c ← required (constant_in t x.typed) code.NotConstant at
  pure (Constant' p c)
scalar_step false at p x = pure (Scalar p x.typed)

abbrev pub whole_step : Bool → ℕ → Path → Operand → Walk Init
whole_step static at p x = do
  _ ← refuses_if static code.NotConstant at
  pure (Whole p (value_of x.typed))

-- a value for a part that it initialises as a whole, or for a scalar (6.7.9p11, p13)
abbrev pub value_step : Bool → ℕ → Part → Operand → Walk Init
value_step static at p x = do
  y ← at_node (by_node at) (ConvertNode p.type.shape x)
  scalar_step static at p.path y

abbrev pub init_step : Bool → Bool → ℕ → Part → Operand → Walk Init
init_step whole static at p x = if whole then whole_step static at p.path x else value_step static at p x

abbrev pub with_value : Bool → ℕ → Part → Operand → Filling → Walk Filling
with_value static at p x f = do
  t ← types_of
  s ← init_step (takes_whole t p.type.shape (AValue x)) static at p x
  pure (with_whole t p s 1 f)

-- a literal for an array of characters (6.7.9p14), in an item with that first token
abbrev pub with_literal : ℕ → ℕ → Part → Option (List ℕ) → Filling → Walk Filling
with_literal first at p None f = faults (Constraint code.IntegerRange) at
with_literal first at p (Some bytes) f = do
  t ← types_of
  _ ← refuses_if (not (has_room (bound_of_array p.type.shape) bytes)) code.Initialiser first
  pure (reaching (length bytes) p (with_bytes t p (length bytes) (fitting (bound_of_array p.type.shape) bytes) f))
  where
    reaching : ℕ → Part → Filling → Filling
    reaching n p f = elim p.path [ [] ↦ record f { reach = n } | x ∷ xs ↦ f ]

-- an item that has a part of a flexible array (6.7.2.1p18)
abbrev pub is_flexible_part : Part → Bool
is_flexible_part p = not (nat_eq (length p.path) 0) && (is_array p.type.shape && not (is_some (bound_of_array p.type.shape)))

abbrev pub in_flexible : Part × List Frame → Bool
in_flexible x = is_flexible_part x.0 || any_of (λ (f : Frame). is_flexible_part f.part) x.1
