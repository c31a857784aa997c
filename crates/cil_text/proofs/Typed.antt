-- Device: what a reader knows of types while it reads is what the typing of expressions says.
use Rattle.std.proofs.Common.{◌≡◌, ℕ, ◌&&◌, ◌||◌, Bool, true, false, cond, List, [], Option, Some, None, slice_get, map, refl, sym, ap, ◌∙◌}
use Rattle.std.specs.Prelude.{pos}
use Rattle.std.specs.Option.{option_map, option_and_then}
use Rattle.std.proofs.lemmas.Option.{slice_get-map}
use Rattle.cil_base.specs.declared.kinds.IntKind.{IntKind}
use Rattle.cil_base.specs.declared.kinds.IntKind.TheVariants as kind
use Rattle.cil_base.specs.declared.operators.BinOp.{BinOp}
use Rattle.cil_base.specs.declared.operators.BinOp.TheVariants.{Mul, Div, Rem, Add, Sub, Shl, Shr, Lt, Gt, Le, Ge, Eq, Ne, And, Xor, Or}
use Rattle.cil_base.specs.declared.operators.UnOp.{UnOp}
use Rattle.cil_base.specs.declared.operators.UnOp.TheVariants.{Neg, Compl, Not}
use Rattle.cil_base.specs.Integer.{has_kind, long_of}
use Rattle.cil_base.specs.Arithmetic.{fits}
use Rattle.type_graph.specs.declared.aggregates.Aggregate.{Aggregate}
use Rattle.type_graph.specs.declared.aggregates.Member.{Member}
use Rattle.type_graph.specs.Shapes.{Shape, VoidType, IntType, PtrType, ArrayType, FuncType, AggType, shape}
use Rattle.type_graph.specs.Arena.{complete_shape}
use Rattle.cil_tree.specs.Tree.{Exp, Const, Value, Un, Bin, Cast, AddrOf, StartOf, Host, Global, Var, At, Offsets, Here, Field, Index, Lval, Place, Local, GlobalDecl}
use Rattle.cil_tree.specs.Typing.{Scope, same_shape, is_void, is_array, is_function, is_enum, is_scalar, is_wide, pointer_to, global_type, member_of, member_at, member_type, element_of, is_index, element_type, pointed, is_readable, read_type, address_type, start_type, unary_type, integer_type, moved_type, pointers_type, forward_type, backward_type, binary_type, cast_type, type_of, host_type, part_type, place_type}
use Rattle.cil_tree.specs.Text.{member_name, name_in, global_name}
use Rattle.cil_text.specs.ReadExps.{name_at, type_of_named, members_at, fields, moved_pointee, pointee, type_at_host, type_at_part, type_at_place}
use Rattle.cil_text.specs.Known.{known_member, known_members, known_global, env_of}

-- the parts of a step that gave something
pub bound_some : {A B : Type 0} (f : A → Option B) (o : Option A) (y : B) → option_and_then f o ≡ Some y → (x : A) × (o ≡ Some x) × (f x ≡ Some y)
bound_some f None y e = absurd (cc e)
bound_some f (Some x) y e = (x, refl, e)

-- a test whose other outcome gives nothing held
pub test_some : {B : Type 0} (b : Bool) (x y : B) → cond b (Some x) None ≡ Some y → (b ≡ true) × (x ≡ y)
test_some true x y e = (refl, cc)
test_some false x y e = absurd (cc e)

-- members and globals

member_known : (c : Scope) (o : Option Aggregate) (n : ℕ) →
    slice_get (members_at (option_map (known_members c.program) o)) n ≡ option_map (known_member c.program) (option_and_then (λ (x : Aggregate). member_of c.program.graph x n) o)
member_known c None n = refl
member_known c (Some x) n = by (is_enum x.kind) x.members
  where
    by : (b : Bool) (o : Option (List Member)) → slice_get (cond b [] (elim o [ None ↦ [] | Some ms ↦ map (known_member c.program) ms ])) n ≡ option_map (known_member c.program) (cond b None (option_and_then (λ (ms : List Member). slice_get ms n) o))
    by true o = refl
    by false None = refl
    by false (Some ms) = slice_get-map (known_member c.program) ms n

pub field_known : (c : Scope) (s : Shape) (n : ℕ) → slice_get (fields (env_of c) (Some s)) n ≡ option_map (known_member c.program) (member_at c.program.graph s n)
field_known c (AggType a) n = ap (λ o. slice_get (members_at o) n) (slice_get-map (known_members c.program) c.program.graph.aggs a) ∙ member_known c (slice_get c.program.graph.aggs a) n
field_known c VoidType n = refl
field_known c (IntType k) n = refl
field_known c (PtrType q s) n = refl
field_known c (ArrayType q s bound) n = refl
field_known c (FuncType ret params proto variadic) n = refl

pub field_type_known : (c : Scope) (s : Shape) (n : ℕ) → type_of_named (fields (env_of c) (Some s)) n ≡ member_type c.program.graph s n
field_type_known c s n = ap (option_and_then (λ (x : Local). x.type)) (field_known c s n) ∙ by (member_at c.program.graph s n)
  where
    by : (o : Option Member) → option_and_then (λ (x : Local). x.type) (option_map (known_member c.program) o) ≡ option_map (λ (m : Member). shape c.program.graph.nodes m.ty.of.0) o
    by None = refl
    by (Some m) = refl

pub field_name_known : (c : Scope) (s : Shape) (n : ℕ) → name_at (fields (env_of c) (Some s)) n ≡ name_in c.program s n
field_name_known c s n = ap (λ (o : Option Local). elim o [ None ↦ [] | Some x ↦ x.name ]) (field_known c s n) ∙ by (member_at c.program.graph s n)
  where
    by : (o : Option Member) → elim (option_map (known_member c.program) o) as (λ _. List ℕ) [ None ↦ [] | Some x ↦ x.name ] ≡ elim o as (λ _. List ℕ) [ None ↦ [] | Some m ↦ member_name c.program m ]
    by None = refl
    by (Some m) = refl

pub global_type_known : (c : Scope) (n : ℕ) → type_of_named (env_of c).globals n ≡ global_type c.program n
global_type_known c n = ap (option_and_then (λ (x : Local). x.type)) (slice_get-map known_global c.program.globals n) ∙ by (slice_get c.program.globals n)
  where
    by : (o : Option GlobalDecl) → option_and_then (λ (x : Local). x.type) (option_map known_global o) ≡ option_and_then (λ (x : GlobalDecl). x.type) o
    by None = refl
    by (Some x) = refl

pub global_name_known : (c : Scope) (n : ℕ) → name_at (env_of c).globals n ≡ global_name c.program n
global_name_known c n = ap (λ (o : Option Local). elim o [ None ↦ [] | Some x ↦ x.name ]) (slice_get-map known_global c.program.globals n) ∙ by (slice_get c.program.globals n)
  where
    by : (o : Option GlobalDecl) → elim (option_map known_global o) as (λ _. List ℕ) [ None ↦ [] | Some x ↦ x.name ] ≡ elim o as (λ _. List ℕ) [ None ↦ [] | Some x ↦ x.name ]
    by None = refl
    by (Some x) = refl

-- pointers

moved_is : (c : Scope) (s t : Shape) (k : IntKind) → moved_type c s k ≡ Some t → pointed t ≡ Some s
moved_is c s t k e = let h = test_some (is_wide k && complete_shape c.program.graph.aggs s) (pointer_to s) t e in ap pointed (sym h.1)

forward_is : (c : Scope) (op : BinOp) (s t : Shape) (k : IntKind) → forward_type c op s k ≡ Some t → moved_pointee op (Some s) None ≡ pointed t
forward_is c Add s t k e = sym (moved_is c s t k e)
forward_is c Sub s t k e = sym (moved_is c s t k e)
forward_is c op s t k e = absurd (cc e)

backward_is : (c : Scope) (op : BinOp) (s t : Shape) (k : IntKind) → backward_type c op k s ≡ Some t → moved_pointee op None (Some s) ≡ pointed t
backward_is c Add s t k e = sym (moved_is c s t k e)
backward_is c op s t k e = absurd (cc e)

nothing_moved : (op : BinOp) → moved_pointee op None None ≡ None
nothing_moved op = elim op as (λ o. moved_pointee o None None ≡ None) [ Mul ↦ refl | Div ↦ refl | Rem ↦ refl | Add ↦ refl | Sub ↦ refl | Shl ↦ refl | Shr ↦ refl | Lt ↦ refl | Gt ↦ refl | Le ↦ refl | Ge ↦ refl | Eq ↦ refl | Ne ↦ refl | And ↦ refl | Xor ↦ refl | Or ↦ refl ]

integers_are : (op : BinOp) (k l : IntKind) (t : Shape) → integer_type op k l ≡ Some t → moved_pointee op None None ≡ pointed t
integers_are op k l t e = nothing_moved op ∙ ap pointed (test_some (is_wide k && (is_wide l && _)) (IntType _) t e).1

compared : (b : Bool) (t : Shape) → cond b None (Some (IntType kind.Int)) ≡ Some t → None ≡ pointed t
compared true t e = absurd (cc e)
compared false t e = ap (option_and_then pointed) e

pointers_are : (c : Scope) (op : BinOp) (s u t : Shape) → pointers_type c op s ≡ Some t → moved_pointee op (Some s) (Some u) ≡ pointed t
pointers_are c Sub s u t e = ap pointed (test_some (complete_shape c.program.graph.aggs s) (IntType (long_of c.program.graph.abi)) t e).1
pointers_are c Lt s u t e = compared (is_function s) t e
pointers_are c Gt s u t e = compared (is_function s) t e
pointers_are c Le s u t e = compared (is_function s) t e
pointers_are c Ge s u t e = compared (is_function s) t e
pointers_are c Eq s u t e = ap (λ o. option_and_then pointed o) e
pointers_are c Ne s u t e = ap (λ o. option_and_then pointed o) e
pointers_are c op s u t e = absurd (cc e)

binary_is : (c : Scope) (op : BinOp) (a b t : Shape) → binary_type c op a b ≡ Some t → moved_pointee op (pointed a) (pointed b) ≡ pointed t
binary_is c op (IntType k) (IntType l) t e = integers_are op k l t e
binary_is c op (PtrType q s) (IntType l) t e = forward_is c op s t l e
binary_is c op (IntType k) (PtrType q s) t e = backward_is c op s t k e
binary_is c op (PtrType q s) (PtrType r u) t e = by (same_shape (PtrType q s) (PtrType r u)) e
  where
    by : (b : Bool) → cond b (pointers_type c op s) None ≡ Some t → moved_pointee op (Some s) (Some u) ≡ pointed t
    by true h = pointers_are c op s u t h
    by false h = absurd (cc h)
binary_is c op a b t e = absurd (cc e)

wide_points : (k : IntKind) (t : Shape) → cond (is_wide k) (Some (IntType k)) None ≡ Some t → None ≡ pointed t
wide_points k t e = ap pointed (test_some (is_wide k) (IntType k) t e).1

unary_is : (c : Scope) (op : UnOp) (s t : Shape) → unary_type c op s ≡ Some t → None ≡ pointed t
unary_is c Not s t e = ap pointed (test_some (is_scalar c.program.graph s) (IntType kind.Int) t e).1
unary_is c Neg (IntType k) t e = wide_points k t e
unary_is c Compl (IntType k) t e = wide_points k t e
unary_is c op s t e = absurd (cc e)

pub address_is : (s t : Shape) → address_type s ≡ Some t → Some s ≡ pointed t
address_is s t e = by (is_void s) e
  where
    by : (b : Bool) → cond b None (Some (pointer_to s)) ≡ Some t → Some s ≡ pointed t
    by true h = absurd (cc h)
    by false h = ap (option_and_then pointed) h

pub start_is : (s t : Shape) → start_type s ≡ Some t → (is_array s ≡ true) × (element_of s ≡ pointed t)
start_is (ArrayType q s bound) t e = (refl, ap (option_and_then pointed) e)
start_is s t e = absurd (cc e)

pub cast_is : (c : Scope) (to s t : Shape) → cast_type c to s ≡ Some t → pointed to ≡ pointed t
cast_is c to s t e = ap pointed (test_some (is_void to || (is_scalar c.program.graph to && is_scalar c.program.graph s)) to t e).1

pub index_is : (s i u : Shape) → element_type s i ≡ Some u → element_of s ≡ Some u
index_is s i u e = by (is_index i) e
  where
    by : (b : Bool) → cond b (element_of s) None ≡ Some u → element_of s ≡ Some u
    by true h = h
    by false h = absurd (cc h)

mutual
  pub pointee_is : (c : Scope) (e : Exp) (t : Shape) → type_of c e ≡ Some t → pointee (env_of c) e ≡ pointed t
  pointee_is c (Const k v) t e = ap pointed (test_some (is_wide k && (has_kind c.program.graph.abi k && fits k (pos v))) (IntType k) t e).1
  pointee_is c (Value place) t e =
      let h = bound_some (read_type c) (place_type c place) t e in
      ap (option_and_then pointed) (place_is c place h.0 h.1) ∙ ap pointed (test_some (is_readable c.program.graph h.0) h.0 t h.2).1
  pointee_is c (Un op operand) t e = let h = bound_some (unary_type c op) (type_of c operand) t e in unary_is c op h.0 t h.2
  pointee_is c (Bin op left right) t e =
      let h = bound_some (λ s. option_and_then (binary_type c op s) (type_of c right)) (type_of c left) t e in
      let k = bound_some (binary_type c op h.0) (type_of c right) t h.2 in
      ap (λ o. moved_pointee op o (pointee (env_of c) right)) (pointee_is c left h.0 h.1)
      ∙ ap (moved_pointee op (pointed h.0)) (pointee_is c right k.0 k.1)
      ∙ binary_is c op h.0 k.0 t k.2
  pointee_is c (Cast to operand) t e =
      let h = bound_some (λ s. option_and_then (cast_type c s) (type_of c operand)) to t e in
      let k = bound_some (cast_type c h.0) (type_of c operand) t h.2 in
      ap (option_and_then pointed) h.1 ∙ cast_is c h.0 k.0 t k.2
  pointee_is c (AddrOf place) t e = let h = bound_some address_type (place_type c place) t e in place_is c place h.0 h.1 ∙ address_is h.0 t h.2
  pointee_is c (StartOf place) t e = let h = bound_some start_type (place_type c place) t e in ap (option_and_then element_of) (place_is c place h.0 h.1) ∙ (start_is h.0 t h.2).1

  pub host_is : (c : Scope) (h : Host) (s : Shape) → host_type c h ≡ Some s → type_at_host (env_of c) h ≡ Some s
  host_is c (Global n) s e = global_type_known c n ∙ e
  host_is c (Var n) s e = e
  host_is c (At pointer) s e = let h = bound_some pointed (type_of c pointer) s e in pointee_is c pointer h.0 h.1 ∙ h.2

  pub part_is : (c : Scope) (o : Offsets) (s t : Shape) → part_type c o s ≡ Some t → type_at_part (env_of c) o (Some s) ≡ Some t
  part_is c Here s t e = e
  part_is c (Field n more) s t e =
      let h = bound_some (part_type c more) (member_type c.program.graph s n) t e in
      ap (type_at_part (env_of c) more) (field_type_known c s n ∙ h.1) ∙ part_is c more h.0 t h.2
  part_is c (Index index more) s t e =
      let h = bound_some (λ i. option_and_then (part_type c more) (element_type s i)) (type_of c index) t e in
      let k = bound_some (part_type c more) (element_type s h.0) t h.2 in
      ap (type_at_part (env_of c) more) (index_is s h.0 k.0 k.1) ∙ part_is c more k.0 t k.2

  pub place_is : (c : Scope) (place : Lval) (s : Shape) → place_type c place ≡ Some s → type_at_place (env_of c) place ≡ Some s
  place_is c (Place host offsets) s e =
      let h = bound_some (part_type c offsets) (host_type c host) s e in
      ap (type_at_part (env_of c) offsets) (host_is c host h.0 h.1) ∙ part_is c offsets h.0 s h.2
