-- Device: no function in a well-formed program's types has a parameter of type void, so that each argument of a call that fits has a value.
use Rattle.std.proofs.Common.{◌≡◌, ℕ, zero, suc, ◌<◌, ◌≤◌, ◌⊎◌, inl, inr, Bool, true, false, ◌&&◌, ◌||◌, not, List, [], ◌∷◌, length, slice_get, Option, Some, None, sym, subst, arith, pos}
use Rattle.std.specs.Prelude.{if◌then◌else◌}
use Rattle.std.specs.Option.{option_map, option_and_then}
use Rattle.std.proofs.lemmas.Bool.{and_parts, cases_lt, not-true}
use Rattle.cil_base.specs.declared.kinds.IntKind.{IntKind}
use Rattle.cil_base.specs.declared.kinds.IntKind.TheVariants.{Int as int}
use Rattle.cil_base.specs.declared.numbers.TypeId.{TypeId}
use Rattle.cil_base.specs.declared.operators.BinOp.{BinOp}
use Rattle.cil_base.specs.declared.operators.BinOp.TheVariants.{Add, Sub, Lt, Gt, Le, Ge}
use Rattle.cil_base.specs.declared.operators.UnOp.{UnOp}
use Rattle.cil_base.specs.declared.operators.UnOp.TheVariants.{Neg, Compl, Not}
use Rattle.cil_base.specs.Integer.{long_of, has_kind}
use Rattle.cil_base.specs.Arithmetic.{fits, is_shift}
use Rattle.type_graph.specs.declared.aggregates.Member.{Member}
use Rattle.type_graph.specs.declared.nodes.Node.{Node}
use Rattle.type_graph.specs.declared.nodes.Node.TheVariants.{Void, Int, Ptr, Array, Func, Agg}
use Rattle.type_graph.specs.Shapes.{Shape, Shapes, VoidType, IntType, PtrType, ArrayType, FuncType, AggType, NoTypes, MoreTypes, shapes_of, shape_of, shape}
use Rattle.type_graph.specs.Arena.{Graph, IsArena, EachType, NamesBelow, complete_shape}
use Rattle.type_graph.proofs.Lists.{get_there}
use Rattle.type_graph.proofs.ShapeLaws.{shape_is, shape_past}
use Rattle.cil_tree.specs.Tree.{Exp, Const, Value, Un, Bin, Cast, AddrOf, StartOf, Host, Global, Var, At, Offsets, Here, Field, Index, Lval, Place, Callee, Direct, Through}
use Rattle.cil_base.specs.Kinds.{same_kind}
use Rattle.cil_tree.specs.Typing.{Scope, is_void, is_scalar, is_function, is_wide, is_index, same_shape, is_comparison, is_readable, pointer_to, pointed, global_type, local_type, member_at, member_type, element_of, element_type, read_type, address_type, start_type, unary_type, moved_type, pointers_type, forward_type, backward_type, binary_type, cast_type, type_of, host_type, part_type, place_type}
use Rattle.cil_tree.specs.Bodies.{callee_type}
use Rattle.cil_tree.specs.WellFormedTypes.{is_result, is_parameter, are_parameters, function_fits, each_shape}

abbrev mutual
  -- no function in the type has a parameter of type void
  pub TakesValues : Shape → Type 0
  TakesValues VoidType = Unit {0}
  TakesValues (IntType kind) = Unit {0}
  TakesValues (PtrType q s) = TakesValues s
  TakesValues (ArrayType q s bound) = TakesValues s
  TakesValues (FuncType ret params proto variadic) = TakesValues ret × AreValueTypes params
  TakesValues (AggType a) = Unit {0}

  -- the types are not void, and no function in them has a parameter of type void
  pub AreValueTypes : Shapes → Type 0
  AreValueTypes NoTypes = Unit {0}
  AreValueTypes (MoreTypes s more) = (is_void s ≡ false) × TakesValues s × AreValueTypes more

-- the same of a type, if there is one
abbrev pub MayTakeValues : Option Shape → Type 0
MayTakeValues None = Unit {0}
MayTakeValues (Some s) = TakesValues s

-- the types of an arena whose functions fit

parameters_take : (at : ℕ → Shape) (n : ℕ) (ts : List TypeId) → EachType n ts → ((k : ℕ) → k < n → TakesValues (at k)) → are_parameters (shapes_of at ts) ≡ true → AreValueTypes (shapes_of at ts)
parameters_take at n [] h f e = tt
parameters_take at n (t ∷ ts) h f e =
    let two = and_parts (is_parameter (at t.0)) (are_parameters (shapes_of at ts)) e in
    (not-true (is_void (at t.0)) (and_parts (not (is_void (at t.0))) _ two.0).0, f t.0 h.0, parameters_take at n ts h.1 f two.1)

node_takes : (at : ℕ → Shape) (n m : ℕ) (x : Node) → NamesBelow n m x → ((k : ℕ) → k < n → TakesValues (at k)) → function_fits (shape_of at x) ≡ true → TakesValues (shape_of at x)
node_takes at n m Void h f e = tt
node_takes at n m (Int kind) h f e = tt
node_takes at n m (Ptr q) h f e = f q.of.0 h
node_takes at n m (Array q bound) h f e = f q.of.0 h
node_takes at n m (Func proto variadic ret params) h f e = (f ret.0 h.0, parameters_take at n params h.1 f (and_parts (is_result (at ret.0)) (are_parameters (shapes_of at params)) e).1)
node_takes at n m (Agg a) h f e = tt

type_takes : (g : Graph) → IsArena g → each_shape function_fits g → (t : ℕ) → ((k : ℕ) → k < t → TakesValues (shape g.nodes k)) → TakesValues (shape g.nodes t)
type_takes g arena fit t below = by (cases_lt t (length g.nodes))
  where
    there : t < length g.nodes → (n : Node) → slice_get g.nodes t ≡ Some n → TakesValues (shape g.nodes t)
    there near n e =
        let named = arena.grounded t n e in
        let is : shape g.nodes t ≡ shape_of (shape g.nodes) n = shape_is g.nodes t (length g.aggs) n e named in
        subst (λ s. TakesValues s) (sym is) (node_takes (shape g.nodes) t (length g.aggs) n named below (subst (λ s. function_fits s ≡ true) is (fit t near)))

    by : (t < length g.nodes) ⊎ (length g.nodes ≤ t) → TakesValues (shape g.nodes t)
    by (inl near) = let x = get_there g.nodes t near in there near x.0 x.1
    by (inr far) = subst (λ s. TakesValues s) (sym (shape_past g.nodes t far)) tt

first_types_take : (g : Graph) → IsArena g → each_shape function_fits g → (n t : ℕ) → t < n → TakesValues (shape g.nodes t)
first_types_take g arena fit zero t h = absurd (omega arith)
first_types_take g arena fit (suc n) t h = type_takes g arena fit t (λ k low. first_types_take g arena fit n k (omega arith))

pub types_take : (g : Graph) → IsArena g → each_shape function_fits g → (t : ℕ) → TakesValues (shape g.nodes t)
types_take g arena fit t = first_types_take g arena fit (suc t) t (omega arith)

-- the types that the parts of an expression give to it

pub if_takes : (b : Bool) (s : Shape) → TakesValues s → MayTakeValues (if b then Some s else None)
if_takes true s h = h
if_takes false s h = tt

if_not_takes : (b : Bool) (s : Shape) → TakesValues s → MayTakeValues (if b then None else Some s)
if_not_takes true s h = tt
if_not_takes false s h = h

if_may_take : (b : Bool) (o : Option Shape) → MayTakeValues o → MayTakeValues (if b then o else None)
if_may_take true o h = h
if_may_take false o h = tt

then_takes : (f : Shape → Option Shape) (o : Option Shape) → ((s : Shape) → TakesValues s → MayTakeValues (f s)) → MayTakeValues o → MayTakeValues (option_and_then f o)
then_takes f None h k = tt
then_takes f (Some s) h k = h s k

always_takes : (f : Shape → Option Shape) (o : Option Shape) → ((s : Shape) → MayTakeValues (f s)) → MayTakeValues (option_and_then f o)
always_takes f None h = tt
always_takes f (Some s) h = h s

unary_takes : (c : Scope) (op : UnOp) (s : Shape) → MayTakeValues (unary_type c op s)
unary_takes c Not s = if_takes (is_scalar c.program.graph s) (IntType int) tt
unary_takes c Neg (IntType kind) = if_takes (is_wide kind) (IntType kind) tt
unary_takes c Neg s = tt
unary_takes c Compl (IntType kind) = if_takes (is_wide kind) (IntType kind) tt
unary_takes c Compl s = tt

moved_takes : (c : Scope) (s : Shape) (kind : IntKind) → TakesValues s → MayTakeValues (moved_type c s kind)
moved_takes c s kind h = if_takes (is_wide kind && complete_shape c.program.graph.aggs s) (pointer_to s) h

forward_takes : (c : Scope) (op : BinOp) (s : Shape) (kind : IntKind) → TakesValues s → MayTakeValues (forward_type c op s kind)
forward_takes c Add s kind h = moved_takes c s kind h
forward_takes c Sub s kind h = moved_takes c s kind h
forward_takes c op s kind h = tt

backward_takes : (c : Scope) (op : BinOp) (kind : IntKind) (s : Shape) → TakesValues s → MayTakeValues (backward_type c op kind s)
backward_takes c Add kind s h = moved_takes c s kind h
backward_takes c op kind s h = tt

pointers_take : (c : Scope) (op : BinOp) (s : Shape) → MayTakeValues (pointers_type c op s)
pointers_take c Sub s = if_takes (complete_shape c.program.graph.aggs s) (IntType (long_of c.program.graph.abi)) tt
pointers_take c Lt s = if_not_takes (is_function s) (IntType int) tt
pointers_take c Gt s = if_not_takes (is_function s) (IntType int) tt
pointers_take c Le s = if_not_takes (is_function s) (IntType int) tt
pointers_take c Ge s = if_not_takes (is_function s) (IntType int) tt
pointers_take c op s = tt

binary_takes : (c : Scope) (op : BinOp) (s t : Shape) → TakesValues s → TakesValues t → MayTakeValues (binary_type c op s t)
binary_takes c op (IntType k) (IntType l) h i = if_takes (is_wide k && (is_wide l && (is_shift op || same_kind k l))) (IntType (if is_comparison op then int else k)) tt
binary_takes c op (PtrType q s) (IntType l) h i = forward_takes c op s l h
binary_takes c op (IntType k) (PtrType q s) h i = backward_takes c op k s i
binary_takes c op (PtrType p s) (PtrType q t) h i = if_may_take (same_shape (PtrType p s) (PtrType q t)) (pointers_type c op s) (pointers_take c op s)
binary_takes c op s t h i = tt

cast_takes : (c : Scope) (to s : Shape) → TakesValues to → MayTakeValues (cast_type c to s)
cast_takes c to s h = if_takes (is_void to || (is_scalar c.program.graph to && is_scalar c.program.graph s)) to h

address_takes : (s : Shape) → TakesValues s → MayTakeValues (address_type s)
address_takes s h = if_not_takes (is_void s) (pointer_to s) h

start_takes : (s : Shape) → TakesValues s → MayTakeValues (start_type s)
start_takes (ArrayType q s bound) h = h
start_takes s h = tt

pointed_takes : (s : Shape) → TakesValues s → MayTakeValues (pointed s)
pointed_takes (PtrType q s) h = h
pointed_takes s h = tt

element_takes : (s i : Shape) → TakesValues s → MayTakeValues (element_type s i)
element_takes s i h = if_may_take (is_index i) (element_of s) (of s h)
  where
    of : (s : Shape) → TakesValues s → MayTakeValues (element_of s)
    of (ArrayType q s bound) h = h
    of s h = tt

-- the types that expressions speak of
pub record ScopeTakes (c : Scope) : Type 0 where
  pub types : (t : ℕ) → TakesValues (shape c.program.graph.nodes t)
  pub globals : (n : ℕ) → MayTakeValues (global_type c.program n)
  pub locals : (n : ℕ) → MayTakeValues (local_type c.locals n)

abbrev mutual
  -- the types of an expression's casts
  pub CastsTake : Exp → Type 0
  CastsTake (Const kind value) = Unit {0}
  CastsTake (Value place) = PlaceTakes place
  CastsTake (Un op e) = CastsTake e
  CastsTake (Bin op e f) = CastsTake e × CastsTake f
  CastsTake (Cast to e) = MayTakeValues to × CastsTake e
  CastsTake (AddrOf place) = PlaceTakes place
  CastsTake (StartOf place) = PlaceTakes place

  pub HostTakes : Host → Type 0
  HostTakes (Global n) = Unit {0}
  HostTakes (Var n) = Unit {0}
  HostTakes (At e) = CastsTake e

  -- the type of a place is that of its host or of a part, and no index has a part in it
  pub PlaceTakes : Lval → Type 0
  PlaceTakes (Place host offsets) = HostTakes host

member_takes : (c : Scope) → ScopeTakes c → (s : Shape) (n : ℕ) → MayTakeValues (member_type c.program.graph s n)
member_takes c h s n = by (member_at c.program.graph s n)
  where
    by : (o : Option Member) → MayTakeValues (option_map (λ (m : Member). shape c.program.graph.nodes m.ty.of.0) o)
    by None = tt
    by (Some m) = h.types m.ty.of.0

part_takes : (c : Scope) → ScopeTakes c → (offsets : Offsets) (s : Shape) → TakesValues s → MayTakeValues (part_type c offsets s)
part_takes c h Here s k = k
part_takes c h (Field n more) s k = then_takes (part_type c more) (member_type c.program.graph s n) (part_takes c h more) (member_takes c h s n)
part_takes c h (Index e more) s k =
    always_takes (λ i. option_and_then (part_type c more) (element_type s i)) (type_of c e) (λ i. then_takes (part_type c more) (element_type s i) (part_takes c h more) (element_takes s i k))

mutual
  pub expression_takes : (c : Scope) → ScopeTakes c → (e : Exp) → CastsTake e → MayTakeValues (type_of c e)
  expression_takes c h (Const kind v) k = if_takes (is_wide kind && (has_kind c.program.graph.abi kind && fits kind (pos v))) (IntType kind) tt
  expression_takes c h (Value place) k = then_takes (read_type c) (place_type c place) (λ s t. if_takes (is_readable c.program.graph s) s t) (place_takes c h place k)
  expression_takes c h (Un op e) k = always_takes (unary_type c op) (type_of c e) (unary_takes c op)
  expression_takes c h (Bin op e f) k =
      then_takes (λ s. option_and_then (binary_type c op s) (type_of c f)) (type_of c e) (λ s t. then_takes (binary_type c op s) (type_of c f) (λ u v. binary_takes c op s u t v) (expression_takes c h f k.1)) (expression_takes c h e k.0)
  expression_takes c h (Cast to e) k = then_takes (λ s. option_and_then (cast_type c s) (type_of c e)) to (λ s t. always_takes (cast_type c s) (type_of c e) (λ u. cast_takes c s u t)) k.0
  expression_takes c h (AddrOf place) k = then_takes address_type (place_type c place) address_takes (place_takes c h place k)
  expression_takes c h (StartOf place) k = then_takes start_type (place_type c place) start_takes (place_takes c h place k)

  host_takes : (c : Scope) → ScopeTakes c → (host : Host) → HostTakes host → MayTakeValues (host_type c host)
  host_takes c h (Global n) k = h.globals n
  host_takes c h (Var n) k = h.locals n
  host_takes c h (At e) k = then_takes pointed (type_of c e) pointed_takes (expression_takes c h e k)

  place_takes : (c : Scope) → ScopeTakes c → (place : Lval) → PlaceTakes place → MayTakeValues (place_type c place)
  place_takes c h (Place host offsets) k = then_takes (part_type c offsets) (host_type c host) (part_takes c h offsets) (host_takes c h host k)

-- what is called
abbrev pub CalleeTakes : Callee → Type 0
CalleeTakes (Direct n) = Unit {0}
CalleeTakes (Through e) = CastsTake e

pub callee_takes : (c : Scope) → ScopeTakes c → (f : Callee) → CalleeTakes f → MayTakeValues (callee_type c f)
callee_takes c h (Direct n) k = h.globals n
callee_takes c h (Through e) k = then_takes pointed (type_of c e) pointed_takes (expression_takes c h e k)
