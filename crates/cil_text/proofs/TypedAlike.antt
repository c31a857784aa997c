-- Device: types and layouts depend on nothing but what the equality of programs speaks of.
use Rattle.std.proofs.Common.{◌≡◌, ℕ, suc, zero, ◌^◌, ◌&&◌, ◌||◌, not, cond, List, [], ◌∷◌, map, Option, Some, None, slice_get, refl, ap, ◌∙◌}
use Rattle.std.specs.Prelude.{ℤ, pos}
use Rattle.std.specs.Option.{option_map, option_and_then}
use Rattle.cil_base.specs.declared.kinds.Abi.{Abi}
use Rattle.cil_base.specs.declared.kinds.IntKind.{IntKind}
use Rattle.cil_base.specs.declared.kinds.IntKind.TheVariants as kind
use Rattle.cil_base.specs.declared.operators.BinOp.{BinOp}
use Rattle.cil_base.specs.declared.operators.BinOp.TheVariants.{Add, Sub}
use Rattle.cil_base.specs.declared.operators.UnOp.{UnOp}
use Rattle.cil_base.specs.declared.operators.UnOp.TheVariants.{Neg, Compl, Not}
use Rattle.cil_base.specs.Integer.{has_kind, long_of}
use Rattle.cil_base.specs.Arithmetic.{fits}
use Rattle.type_graph.specs.declared.aggregates.AggKind.{AggKind}
use Rattle.type_graph.specs.declared.aggregates.AggKind.TheVariants.{Struct, Union, Enum}
use Rattle.type_graph.specs.declared.aggregates.Aggregate.{Aggregate}
use Rattle.type_graph.specs.declared.aggregates.Member.{Member}
use Rattle.type_graph.specs.declared.layout.Layout.{Layout}
use Rattle.type_graph.specs.Shapes.{Shape, IntType, PtrType, shape}
use Rattle.type_graph.specs.Arena.{complete_shape}
use Rattle.type_graph.specs.Layouts.{Placed, layout_in, member_in, placed_behind, placed_over, placed_all, nothing_placed, finished, members_layout, aggregate_in, enum_layout, whole_of, agg_at, agg_layout}
use Rattle.cil_tree.specs.Tree.{Exp, Const, Value, Un, Bin, Cast, AddrOf, StartOf, Host, Global, Var, At, Offsets, Here, Field, Index, Lval, Place, Local, Program}
use Rattle.cil_tree.specs.Typing.{Scope, is_void, is_array, is_scalar, is_wide, pointer_to, same_shape, member_type, element_type, pointed, constant_type, read_type, address_type, start_type, unary_type, moved_type, pointers_type, forward_type, backward_type, binary_type, cast_type, type_of, host_type, part_type, place_type}
use Rattle.cil_tree.specs.Text.{shape_layout}
use Rattle.cil_tree.specs.Programs.{SeenMember, SeenAggregate, seen_member, seen_aggregate}
use Rattle.cil_text.proofs.Alike.{Alike, scalar_alike, complete_alike, type_alike, global_type_alike}

-- two programs that are equal
pub record Equal (p q : Program) : Type 0 where
  pub abi : p.graph.abi ≡ q.graph.abi
  pub aggregates : Alike p q
  pub globals : p.globals ≡ q.globals

abbrev pub in_scope : Program → List Local → List (List ℕ) → Scope
in_scope p locals labels = record { program = p; locals = locals; labels = labels }

-- layouts

placed_alike : (p q : Program) (step : Placed → Layout → Placed) (f : Shape → Option Layout) (start : Placed) (ms ns : List Member) → map (seen_member p) ms ≡ map (seen_member q) ns →
    placed_all step (λ (m : Member). f (shape p.graph.nodes m.ty.of.0)) start ms ≡ placed_all step (λ (m : Member). f (shape q.graph.nodes m.ty.of.0)) start ns
placed_alike p q step f start [] [] e = refl
placed_alike p q step f start [] (n ∷ ns) e = absurd (cc e)
placed_alike p q step f start (m ∷ ms) [] e = absurd (cc e)
placed_alike p q step f start (m ∷ ms) (n ∷ ns) e =
    let head : seen_member p m ≡ seen_member q n = cc in
    let tail : map (seen_member p) ms ≡ map (seen_member q) ns = cc in
    ap (λ s. option_and_then (λ (l : Layout). placed_all step (λ (x : Member). f (shape p.graph.nodes x.ty.of.0)) (step start l) ms) (f s)) (ap (λ (x : SeenMember). x.type) head)
    ∙ by (f (shape q.graph.nodes n.ty.of.0)) (λ l. placed_alike p q step f (step start l) ms ns tail)
  where
    by : (o : Option Layout) → ((l : Layout) → placed_all step (λ (x : Member). f (shape p.graph.nodes x.ty.of.0)) (step start l) ms ≡ placed_all step (λ (x : Member). f (shape q.graph.nodes x.ty.of.0)) (step start l) ns) →
        option_and_then (λ (l : Layout). placed_all step (λ (x : Member). f (shape p.graph.nodes x.ty.of.0)) (step start l) ms) o ≡ option_and_then (λ (l : Layout). placed_all step (λ (x : Member). f (shape q.graph.nodes x.ty.of.0)) (step start l) ns) o
    by None more = refl
    by (Some l) more = more l

zeros_alike : (p q : Program) (ms ns : List Member) → map (seen_member p) ms ≡ map (seen_member q) ns → map {B = ℕ} (λ (m : Member). 0) ms ≡ map (λ (m : Member). 0) ns
zeros_alike p q [] [] e = refl
zeros_alike p q [] (n ∷ ns) e = absurd (cc e)
zeros_alike p q (m ∷ ms) [] e = absurd (cc e)
zeros_alike p q (m ∷ ms) (n ∷ ns) e = let tail : map (seen_member p) ms ≡ map (seen_member q) ns = cc in ap (λ xs. 0 ∷ xs) (zeros_alike p q ms ns tail)

members_layout_alike : (p q : Program) (k : AggKind) (f : Shape → Option Layout) (ms ns : List Member) → map (seen_member p) ms ≡ map (seen_member q) ns →
    members_layout k (λ (m : Member). f (shape p.graph.nodes m.ty.of.0)) ms ≡ members_layout k (λ (m : Member). f (shape q.graph.nodes m.ty.of.0)) ns
members_layout_alike p q Struct f ms ns e = ap (option_map finished) (placed_alike p q placed_behind f nothing_placed ms ns e)
members_layout_alike p q Union f ms ns e = ap (option_map finished) (placed_alike p q placed_over f nothing_placed ms ns e)
members_layout_alike p q Enum f ms ns e = ap (λ zs. Some (record (enum_layout ms) { offsets = zs })) (zeros_alike p q ms ns e)

some_layout_alike : (p q : Program) (k : AggKind) (f : Shape → Option Layout) (o u : Option (List Member)) → option_map (map (seen_member p)) o ≡ option_map (map (seen_member q)) u →
    option_and_then (members_layout k (λ (m : Member). f (shape p.graph.nodes m.ty.of.0))) o ≡ option_and_then (members_layout k (λ (m : Member). f (shape q.graph.nodes m.ty.of.0))) u
some_layout_alike p q k f None None e = refl
some_layout_alike p q k f None (Some ns) e = absurd (cc e)
some_layout_alike p q k f (Some ms) None e = absurd (cc e)
some_layout_alike p q k f (Some ms) (Some ns) e = let same : map (seen_member p) ms ≡ map (seen_member q) ns = cc in members_layout_alike p q k f ms ns same

aggregate_alike : (p q : Program) (abi : Abi) (f : ℕ → Option Layout) (o u : Option Aggregate) → option_map (seen_aggregate p) o ≡ option_map (seen_aggregate q) u →
    option_and_then (aggregate_in abi p.graph.nodes f) o ≡ option_and_then (aggregate_in abi q.graph.nodes f) u
aggregate_alike p q abi f None None e = refl
aggregate_alike p q abi f None (Some y) e = absurd (cc e)
aggregate_alike p q abi f (Some x) None e = absurd (cc e)
aggregate_alike p q abi f (Some x) (Some y) e =
    let same : seen_aggregate p x ≡ seen_aggregate q y = cc in
    ap (λ (k : AggKind). option_and_then (members_layout k (λ (m : Member). member_in abi f (shape p.graph.nodes m.ty.of.0))) x.members) (ap (λ (z : SeenAggregate). z.kind) same)
    ∙ some_layout_alike p q y.kind (member_in abi f) x.members y.members (ap (λ (z : SeenAggregate). z.members) same)

at_alike : (p q : Program) → Equal p q → (k a : ℕ) → agg_at k p.graph a ≡ agg_at k q.graph a
at_alike p q same zero a = refl
at_alike p q same (suc k) a =
    ap (λ (i : Abi). option_and_then (aggregate_in i p.graph.nodes (λ b. whole_of (agg_at k p.graph b))) (slice_get p.graph.aggs a)) same.abi
    ∙ ap (λ (f : ℕ → Option Layout). option_and_then (aggregate_in q.graph.abi p.graph.nodes f) (slice_get p.graph.aggs a)) (λ i b. whole_of (at_alike p q same k b i))
    ∙ aggregate_alike p q q.graph.abi (λ b. whole_of (agg_at k q.graph b)) (slice_get p.graph.aggs a) (slice_get q.graph.aggs a) (same.aggregates a)

pub agg_alike : (p q : Program) → Equal p q → (a : ℕ) → agg_layout p.graph a ≡ agg_layout q.graph a
unfolding agg_layout
agg_alike p q same a = at_alike p q same (2 ^ 32) a

pub layout_alike : (p q : Program) → Equal p q → (s : Shape) → shape_layout p.graph s ≡ shape_layout q.graph s
layout_alike p q same s =
    ap (λ (i : Abi). layout_in i (λ b. whole_of (agg_layout p.graph b)) s) same.abi
    ∙ ap (λ (f : ℕ → Option Layout). layout_in q.graph.abi f s) (λ i b. whole_of (agg_alike p q same b i))

-- types of expressions

constant_alike : (p q : Program) → Equal p q → (ls : List Local) (bs : List (List ℕ)) (k : IntKind) (v : ℤ) → constant_type (in_scope p ls bs) k v ≡ constant_type (in_scope q ls bs) k v
constant_alike p q same ls bs k v = ap (λ (a : Abi). cond (is_wide k && (has_kind a k && fits k v)) (Some (IntType k)) None) same.abi

read_alike : (p q : Program) → Equal p q → (ls : List Local) (bs : List (List ℕ)) (s : Shape) → read_type (in_scope p ls bs) s ≡ read_type (in_scope q ls bs) s
read_alike p q same ls bs s = ap (λ b. cond (b && not (is_array s)) (Some s) None) (complete_alike p q same.aggregates s)

unary_alike : (p q : Program) → Equal p q → (ls : List Local) (bs : List (List ℕ)) (op : UnOp) (s : Shape) → unary_type (in_scope p ls bs) op s ≡ unary_type (in_scope q ls bs) op s
unary_alike p q same ls bs Not s = ap (λ b. cond b (Some (IntType kind.Int)) None) (scalar_alike p q same.aggregates s)
unary_alike p q same ls bs Neg (IntType k) = refl
unary_alike p q same ls bs Compl (IntType k) = refl
unary_alike p q same ls bs op s = refl

moved_alike : (p q : Program) → Equal p q → (ls : List Local) (bs : List (List ℕ)) (s : Shape) (k : IntKind) → moved_type (in_scope p ls bs) s k ≡ moved_type (in_scope q ls bs) s k
moved_alike p q same ls bs s k = ap (λ b. cond (is_wide k && b) (Some (pointer_to s)) None) (complete_alike p q same.aggregates s)

forward_alike : (p q : Program) → Equal p q → (ls : List Local) (bs : List (List ℕ)) (op : BinOp) (s : Shape) (k : IntKind) → forward_type (in_scope p ls bs) op s k ≡ forward_type (in_scope q ls bs) op s k
forward_alike p q same ls bs Add s k = moved_alike p q same ls bs s k
forward_alike p q same ls bs Sub s k = moved_alike p q same ls bs s k
forward_alike p q same ls bs op s k = refl

backward_alike : (p q : Program) → Equal p q → (ls : List Local) (bs : List (List ℕ)) (op : BinOp) (k : IntKind) (s : Shape) → backward_type (in_scope p ls bs) op k s ≡ backward_type (in_scope q ls bs) op k s
backward_alike p q same ls bs Add k s = moved_alike p q same ls bs s k
backward_alike p q same ls bs op k s = refl

pointers_alike : (p q : Program) → Equal p q → (ls : List Local) (bs : List (List ℕ)) (op : BinOp) (s : Shape) → pointers_type (in_scope p ls bs) op s ≡ pointers_type (in_scope q ls bs) op s
pointers_alike p q same ls bs Sub s =
    ap (λ b. cond b (Some (IntType (long_of p.graph.abi))) None) (complete_alike p q same.aggregates s)
    ∙ ap (λ (a : Abi). cond (complete_shape q.graph.aggs s) (Some (IntType (long_of a))) None) same.abi
pointers_alike p q same ls bs op s = refl

binary_alike : (p q : Program) → Equal p q → (ls : List Local) (bs : List (List ℕ)) (op : BinOp) (a b : Shape) → binary_type (in_scope p ls bs) op a b ≡ binary_type (in_scope q ls bs) op a b
binary_alike p q same ls bs op (PtrType r s) (IntType l) = forward_alike p q same ls bs op s l
binary_alike p q same ls bs op (IntType k) (PtrType r s) = backward_alike p q same ls bs op k s
binary_alike p q same ls bs op (PtrType r s) (PtrType t u) = ap (λ o. cond (same_shape (PtrType r s) (PtrType t u)) o None) (pointers_alike p q same ls bs op s)
binary_alike p q same ls bs op a b = refl

cast_alike : (p q : Program) → Equal p q → (ls : List Local) (bs : List (List ℕ)) (to s : Shape) → cast_type (in_scope p ls bs) to s ≡ cast_type (in_scope q ls bs) to s
cast_alike p q same ls bs to s =
    ap (λ b. cond (is_void to || (b && is_scalar p.graph s)) (Some to) None) (scalar_alike p q same.aggregates to)
    ∙ ap (λ b. cond (is_void to || (is_scalar q.graph to && b)) (Some to) None) (scalar_alike p q same.aggregates s)

mutual
  pub exp_type_alike : (p q : Program) → Equal p q → (ls : List Local) (bs : List (List ℕ)) (e : Exp) → type_of (in_scope p ls bs) e ≡ type_of (in_scope q ls bs) e
  exp_type_alike p q same ls bs (Const k v) = constant_alike p q same ls bs k (pos v)
  exp_type_alike p q same ls bs (Value place) =
      ap (option_and_then (read_type (in_scope p ls bs))) (place_type_alike p q same ls bs place)
      ∙ ap (λ (f : Shape → Option Shape). option_and_then f (place_type (in_scope q ls bs) place)) (λ i s. read_alike p q same ls bs s i)
  exp_type_alike p q same ls bs (Un op operand) =
      ap (option_and_then (unary_type (in_scope p ls bs) op)) (exp_type_alike p q same ls bs operand)
      ∙ ap (λ (f : Shape → Option Shape). option_and_then f (type_of (in_scope q ls bs) operand)) (λ i s. unary_alike p q same ls bs op s i)
  exp_type_alike p q same ls bs (Bin op left right) =
      ap (λ o. option_and_then (λ s. option_and_then (binary_type (in_scope p ls bs) op s) (type_of (in_scope p ls bs) right)) o) (exp_type_alike p q same ls bs left)
      ∙ ap (λ u. option_and_then (λ s. option_and_then (binary_type (in_scope p ls bs) op s) u) (type_of (in_scope q ls bs) left)) (exp_type_alike p q same ls bs right)
      ∙ ap (λ (f : Shape → Shape → Option Shape). option_and_then (λ s. option_and_then (f s) (type_of (in_scope q ls bs) right)) (type_of (in_scope q ls bs) left)) (λ i s t. binary_alike p q same ls bs op s t i)
  exp_type_alike p q same ls bs (Cast to operand) =
      ap (λ o. option_and_then (λ s. option_and_then (cast_type (in_scope p ls bs) s) o) to) (exp_type_alike p q same ls bs operand)
      ∙ ap (λ (f : Shape → Shape → Option Shape). option_and_then (λ s. option_and_then (f s) (type_of (in_scope q ls bs) operand)) to) (λ i s t. cast_alike p q same ls bs s t i)
  exp_type_alike p q same ls bs (AddrOf place) = ap (option_and_then address_type) (place_type_alike p q same ls bs place)
  exp_type_alike p q same ls bs (StartOf place) = ap (option_and_then start_type) (place_type_alike p q same ls bs place)

  pub host_type_alike : (p q : Program) → Equal p q → (ls : List Local) (bs : List (List ℕ)) (h : Host) → host_type (in_scope p ls bs) h ≡ host_type (in_scope q ls bs) h
  host_type_alike p q same ls bs (Global n) = global_type_alike p q same.globals n
  host_type_alike p q same ls bs (Var n) = refl
  host_type_alike p q same ls bs (At pointer) = ap (option_and_then pointed) (exp_type_alike p q same ls bs pointer)

  part_type_alike : (p q : Program) → Equal p q → (ls : List Local) (bs : List (List ℕ)) (o : Offsets) (s : Shape) → part_type (in_scope p ls bs) o s ≡ part_type (in_scope q ls bs) o s
  part_type_alike p q same ls bs Here s = refl
  part_type_alike p q same ls bs (Field n more) s =
      ap (option_and_then (part_type (in_scope p ls bs) more)) (type_alike p q same.aggregates s n)
      ∙ ap (λ (f : Shape → Option Shape). option_and_then f (member_type q.graph s n)) (λ i t. part_type_alike p q same ls bs more t i)
  part_type_alike p q same ls bs (Index index more) s =
      ap (option_and_then (λ i. option_and_then (part_type (in_scope p ls bs) more) (element_type s i))) (exp_type_alike p q same ls bs index)
      ∙ ap (λ (f : Shape → Option Shape). option_and_then (λ i. option_and_then f (element_type s i)) (type_of (in_scope q ls bs) index)) (λ i t. part_type_alike p q same ls bs more t i)

  pub place_type_alike : (p q : Program) → Equal p q → (ls : List Local) (bs : List (List ℕ)) (place : Lval) → place_type (in_scope p ls bs) place ≡ place_type (in_scope q ls bs) place
  place_type_alike p q same ls bs (Place host offsets) =
      ap (option_and_then (part_type (in_scope p ls bs) offsets)) (host_type_alike p q same ls bs host)
      ∙ ap (λ (f : Shape → Option Shape). option_and_then f (host_type (in_scope q ls bs) host)) (λ i t. part_type_alike p q same ls bs offsets t i)
