-- Definition: the types of CIL's expressions and lvalues (C11 6.3.2.1, 6.5.2 to 6.5.12). No operator converts: each conversion is a Cast, so operands have the types that C11's conversions would give them. What is ill-typed has no type.
use Rattle.std.specs.Prelude.{ℕ, Bool, true, false, ◌&&◌, ◌||◌, not, nat_eq, nat_lt, if◌then◌else◌, List, Option, Some, None, slice_get, ℤ, pos}
use Rattle.std.specs.Option.{option_map, option_and_then}
use Rattle.cil_base.specs.declared.kinds.IntKind.{IntKind}
use Rattle.cil_base.specs.declared.kinds.IntKind.TheVariants.{Int as int}
use Rattle.cil_base.specs.Kinds.{same_kind}
use Rattle.cil_base.specs.declared.operators.BinOp.{BinOp}
use Rattle.cil_base.specs.declared.operators.BinOp.TheVariants.{Add, Sub, Lt, Gt, Le, Ge, Eq, Ne}
use Rattle.cil_base.specs.declared.operators.UnOp.{UnOp}
use Rattle.cil_base.specs.declared.operators.UnOp.TheVariants.{Neg, Compl, Not}
use Rattle.cil_base.specs.Integer.{rank_of, has_kind, long_of}
use Rattle.cil_base.specs.Arithmetic.{fits, is_shift}
use Rattle.type_graph.specs.declared.aggregates.AggKind.{AggKind}
use Rattle.type_graph.specs.declared.aggregates.AggKind.TheVariants.{Struct, Union, Enum}
use Rattle.type_graph.specs.declared.aggregates.Aggregate.{Aggregate}
use Rattle.type_graph.specs.declared.aggregates.Member.{Member}
use Rattle.type_graph.specs.declared.nodes.Quals.{Quals}
use Rattle.type_graph.specs.Shapes.{Shape, Shapes, VoidType, IntType, PtrType, ArrayType, FuncType, AggType, NoTypes, MoreTypes, shape}
use Rattle.type_graph.specs.Arena.{Graph, complete_shape}
use Rattle.cil_tree.specs.Tree.{Exp, Const, Value, Un, Bin, Cast, AddrOf, StartOf, Host, Global, Var, At, Offsets, Here, Field, Index, Lval, Place, Local, Body, GlobalDecl, Program}

-- what a function's statements speak of: the program, the function's locals, and the names of its labels
pub record Scope : Type 0 where
  pub program : Program
  pub locals : List Local
  pub labels : List (List ℕ)

abbrev pub scope_of : Program → Body → Scope
scope_of p body = record { program = p; locals = body.locals; labels = body.labels }

abbrev pub same_truth : Bool → Bool → Bool
same_truth true b = b
same_truth false b = not b

abbrev pub same_quals : Quals → Quals → Bool
same_quals p q = same_truth p.constant q.constant && same_truth p.restricted q.restricted

abbrev pub same_bound : Option ℕ → Option ℕ → Bool
same_bound None None = true
same_bound (Some m) (Some n) = nat_eq m n
same_bound None (Some n) = false
same_bound (Some m) None = false

abbrev mutual
  -- one type
  pub same_shape : Shape → Shape → Bool
  same_shape VoidType VoidType = true
  same_shape (IntType k) (IntType l) = same_kind k l
  same_shape (PtrType p s) (PtrType q t) = same_quals p q && same_shape s t
  same_shape (ArrayType p s m) (ArrayType q t n) = same_quals p q && (same_bound m n && same_shape s t)
  same_shape (FuncType r ss p v) (FuncType s ts q w) = same_shape r s && (same_shapes ss ts && (same_truth p q && same_truth v w))
  same_shape (AggType a) (AggType b) = nat_eq a b
  same_shape _ _ = false

  -- the same types in order
  pub same_shapes : Shapes → Shapes → Bool
  same_shapes NoTypes NoTypes = true
  same_shapes (MoreTypes s ss) (MoreTypes t ts) = same_shape s t && same_shapes ss ts
  same_shapes _ _ = false

-- there is a type, and it is this one
abbrev pub is_type : Option Shape → Shape → Bool
is_type None s = false
is_type (Some t) s = same_shape t s

abbrev pub is_void : Shape → Bool
is_void VoidType = true
is_void _ = false

abbrev pub is_array : Shape → Bool
is_array (ArrayType q s bound) = true
is_array _ = false

abbrev pub is_function : Shape → Bool
is_function (FuncType ret params proto variadic) = true
is_function _ = false

abbrev pub is_enum : AggKind → Bool
is_enum Enum = true
is_enum Struct = false
is_enum Union = false

-- the aggregate is an enum
abbrev pub names_enum : Graph → ℕ → Bool
names_enum g a = elim (slice_get g.aggs a) [ None ↦ false | Some x ↦ is_enum x.kind ]

-- integer types, pointers and enums (C11 6.2.5p21, without floating types)
abbrev pub is_scalar : Graph → Shape → Bool
is_scalar g (IntType kind) = true
is_scalar g (PtrType q s) = true
is_scalar g (AggType a) = names_enum g a
is_scalar g _ = false

-- int or wider (C11 6.3.1.1p2): what an operand is promoted to
abbrev pub is_wide : IntKind → Bool
is_wide kind = not (nat_lt (rank_of kind) (rank_of int))

abbrev pub unqualified : Quals
unqualified = record { constant = false; restricted = false }

abbrev pub pointer_to : Shape → Shape
pointer_to s = PtrType unqualified s

abbrev pub global_at : Program → ℕ → Option GlobalDecl
global_at p n = slice_get p.globals n

abbrev pub global_type : Program → ℕ → Option Shape
global_type p n = option_and_then (λ (x : GlobalDecl). x.type) (global_at p n)

abbrev pub local_type : List Local → ℕ → Option Shape
local_type locals n = option_and_then (λ (x : Local). x.type) (slice_get locals n)

-- a member of a complete struct or union (C11 6.5.2.3)
abbrev pub member_of : Graph → Aggregate → ℕ → Option Member
member_of g x n = if is_enum x.kind then None else option_and_then (λ (ms : List Member). slice_get ms n) x.members

abbrev pub member_at : Graph → Shape → ℕ → Option Member
member_at g (AggType a) n = option_and_then (λ (x : Aggregate). member_of g x n) (slice_get g.aggs a)
member_at g _ n = None

abbrev pub member_type : Graph → Shape → ℕ → Option Shape
member_type g s n = option_map (λ (m : Member). shape g.nodes m.ty.of.0) (member_at g s n)

-- an element of an array
abbrev pub element_of : Shape → Option Shape
element_of (ArrayType q s bound) = Some s
element_of _ = None

-- an index has an integer type, int or wider
abbrev pub is_index : Shape → Bool
is_index (IntType kind) = is_wide kind
is_index _ = false

-- an element by an index (C11 6.5.2.1)
abbrev pub element_type : Shape → Shape → Option Shape
element_type s i = if is_index i then element_of s else None

-- what a pointer points to (C11 6.5.3.2p4)
abbrev pub pointed : Shape → Option Shape
pointed (PtrType q s) = Some s
pointed _ = None

-- a constant has a kind of the data model, int or wider, and its value fits (C11 6.4.4.1p6)
abbrev pub constant_type : Scope → IntKind → ℤ → Option Shape
constant_type c kind v = if is_wide kind && (has_kind c.program.graph.abi kind && fits kind v) then Some (IntType kind) else None

-- a place that is read is complete, and neither array nor function (C11 6.3.2.1p2 to p4)
abbrev pub is_readable : Graph → Shape → Bool
is_readable g s = complete_shape g.aggs s && not (is_array s)

abbrev pub read_type : Scope → Shape → Option Shape
read_type c s = if is_readable c.program.graph s then Some s else None

-- the address of an object or a function (C11 6.5.3.2), but of no place of type void
abbrev pub address_type : Shape → Option Shape
address_type s = if is_void s then None else Some (pointer_to s)

-- the address of an array's first element (C11 6.3.2.1p3)
abbrev pub start_type : Shape → Option Shape
start_type (ArrayType q s bound) = Some (pointer_to s)
start_type _ = None

-- the operand of `-` and `~` has a kind, int or wider, and that of `!` is scalar (C11 6.5.3.3)
abbrev pub unary_type : Scope → UnOp → Shape → Option Shape
unary_type c Not s = if is_scalar c.program.graph s then Some (IntType int) else None
unary_type c Neg (IntType kind) = if is_wide kind then Some (IntType kind) else None
unary_type c Neg _ = None
unary_type c Compl (IntType kind) = if is_wide kind then Some (IntType kind) else None
unary_type c Compl _ = None

abbrev pub is_comparison : BinOp → Bool
is_comparison Lt = true
is_comparison Gt = true
is_comparison Le = true
is_comparison Ge = true
is_comparison Eq = true
is_comparison Ne = true
is_comparison _ = false

-- integer operands have one kind, int or wider, but each operand of a shift its own (C11 6.3.1.8, 6.5.7p3); a comparison gives an int (6.5.8p6, 6.5.9p3)
abbrev pub integer_type : BinOp → IntKind → IntKind → Option Shape
integer_type op k l =
    if is_wide k && (is_wide l && (is_shift op || same_kind k l))
    then Some (IntType (if is_comparison op then int else k)) else None

-- a pointer to a complete object and an integer, int or wider (C11 6.5.6p2, p3)
abbrev pub moved_type : Scope → Shape → IntKind → Option Shape
moved_type c s kind = if is_wide kind && complete_shape c.program.graph.aggs s then Some (pointer_to s) else None

-- two pointers to one type: complete for a difference (C11 6.5.6p3), an object type for an order (6.5.8p2), any for equality (6.5.9p2)
abbrev pub pointers_type : Scope → BinOp → Shape → Option Shape
pointers_type c Sub s = if complete_shape c.program.graph.aggs s then Some (IntType (long_of c.program.graph.abi)) else None
pointers_type c Lt s = if is_function s then None else Some (IntType int)
pointers_type c Gt s = if is_function s then None else Some (IntType int)
pointers_type c Le s = if is_function s then None else Some (IntType int)
pointers_type c Ge s = if is_function s then None else Some (IntType int)
pointers_type c Eq s = Some (IntType int)
pointers_type c Ne s = Some (IntType int)
pointers_type c _ s = None

abbrev pub forward_type : Scope → BinOp → Shape → IntKind → Option Shape
forward_type c Add s kind = moved_type c s kind
forward_type c Sub s kind = moved_type c s kind
forward_type c _ s kind = None

abbrev pub backward_type : Scope → BinOp → IntKind → Shape → Option Shape
backward_type c Add kind s = moved_type c s kind
backward_type c _ kind s = None

abbrev pub binary_type : Scope → BinOp → Shape → Shape → Option Shape
binary_type c op (IntType k) (IntType l) = integer_type op k l
binary_type c op (PtrType q s) (IntType l) = forward_type c op s l
binary_type c op (IntType k) (PtrType q s) = backward_type c op k s
binary_type c op (PtrType p s) (PtrType q t) = if same_shape (PtrType p s) (PtrType q t) then pointers_type c op s else None
binary_type c op _ _ = None

-- a cast is between scalar types, or to void (C11 6.5.4p2)
abbrev pub cast_type : Scope → Shape → Shape → Option Shape
cast_type c to s = if is_void to || (is_scalar c.program.graph to && is_scalar c.program.graph s) then Some to else None

abbrev mutual
  -- the type of an expression
  pub type_of : Scope → Exp → Option Shape
  type_of c (Const kind value) = constant_type c kind (pos value)
  type_of c (Value place) = option_and_then (read_type c) (place_type c place)
  type_of c (Un op operand) = option_and_then (unary_type c op) (type_of c operand)
  type_of c (Bin op left right) = option_and_then (λ s. option_and_then (binary_type c op s) (type_of c right)) (type_of c left)
  type_of c (Cast to operand) = option_and_then (λ s. option_and_then (cast_type c s) (type_of c operand)) to
  type_of c (AddrOf place) = option_and_then address_type (place_type c place)
  type_of c (StartOf place) = option_and_then start_type (place_type c place)

  pub host_type : Scope → Host → Option Shape
  host_type c (Global number) = global_type c.program number
  host_type c (Var number) = local_type c.locals number
  host_type c (At pointer) = option_and_then pointed (type_of c pointer)

  -- the type of the part that the offsets lead to
  pub part_type : Scope → Offsets → Shape → Option Shape
  part_type c Here s = Some s
  part_type c (Field number more) s = option_and_then (part_type c more) (member_type c.program.graph s number)
  part_type c (Index index more) s = option_and_then (λ i. option_and_then (part_type c more) (element_type s i)) (type_of c index)

  pub place_type : Scope → Lval → Option Shape
  place_type c (Place host offsets) = option_and_then (part_type c offsets) (host_type c host)
