-- Device: what is known of a part that was made of others, and of a part when the graph has grown.
use Rattle.std.proofs.Common.{◌≡◌, ℕ, ◌<◌, true, false, cond, List, [], Option, Some, None, refl, sym, ap, ◌∙◌, subst, length, arith, lt-ltb}
use Rattle.std.specs.Option.{option_and_then}
use Rattle.cil_base.specs.declared.numbers.TypeId.{TypeId}
use Rattle.cil_base.specs.declared.kinds.IntKind.{IntKind}
use Rattle.cil_base.specs.declared.operators.BinOp.{BinOp}
use Rattle.cil_base.specs.declared.operators.UnOp.{UnOp}
use Rattle.type_graph.specs.declared.nodes.Node.{Node}
use Rattle.type_graph.specs.Arena.{Graph}
use Rattle.type_graph.specs.Growth.{Grows}
use Rattle.type_graph.specs.Shapes.{Shape, shape}
use Rattle.type_graph.proofs.ShapeLaws.{kept}
use Rattle.type_graph.proofs.GrowthLaws.{grows_twice}
use Rattle.cil_tree.specs.declared.expressions.Exp.{Exp as SeenExp}
use Rattle.cil_tree.specs.declared.expressions.Host.{Host as SeenHost}
use Rattle.cil_tree.specs.declared.expressions.Lval.{Lval as SeenLval}
use Rattle.cil_tree.specs.Tree.{Const, Value, Un, Bin, Cast, AddrOf, StartOf, At, Offsets, Here, Field, Index, Lval, Place}
use Rattle.cil_tree.specs.Typing.{pointed, element_of}
use Rattle.cil_tree.specs.View.{exp_of, host_of, lval_of, offsets_of, type_at}
use Rattle.cil_text.specs.ReadExps.{Env, pointee, type_at_host, type_at_place, type_at_part, moved_pointee, fields, type_of_named, chosen, is_array_type}
use Rattle.cil_reader.specs.Settings.{type_in, TypeBelow}
use Rattle.cil_nodes.specs.Built.{IsConst, IsUn, IsBin, IsCast, IsValue, IsStart, IsAddress, IsAt, IsField, IsElement, joined, part_of}
use Rattle.cil_reader.specs.Parts.{ExpKnown, HostKnown, PlaceKnown, IsMoved}
use Rattle.cil_declarators.proofs.LayersLaws.{no_fewer}

-- parts

pub known_const : (g : Graph) (env : Env) (kind : IntKind) (n : ℕ) (e : SeenExp) → IsConst kind n e → ExpKnown g env e None
known_const g env kind n e is = record { steady = λ h r. is.at h.nodes ∙ sym (is.at g.nodes); typed = sym (ap (pointee env) (is.at g.nodes)); below = tt }

pub const_tree : (nodes : List Node) (kind : IntKind) (n : ℕ) (e : SeenExp) → IsConst kind n e → exp_of nodes e ≡ Const kind n
const_tree nodes kind n e is = is.at nodes

pub base_tree : (nodes : List Node) (l : SeenLval) (x : SeenHost) → l.host ≡ x → l.offsets.items ≡ [] → lval_of nodes l ≡ Place (host_of nodes x) Here
base_tree nodes l x h o = ap (λ y. Place (host_of nodes y) (offsets_of nodes l.offsets.items)) h ∙ ap (λ xs. Place (host_of nodes x) (offsets_of nodes xs)) o

pub known_un : (g : Graph) (env : Env) (op : UnOp) (x e : SeenExp) (t : Option TypeId) → IsUn op x e → ExpKnown g env x t → ExpKnown g env e None
known_un g env op x e t is k = record {
  steady = λ h r. is.at h.nodes ∙ ap (Un op) (k.steady h r) ∙ sym (is.at g.nodes);
  typed = sym (ap (pointee env) (is.at g.nodes));
  below = tt;
}

pub known_bin : (g : Graph) (env : Env) (op : BinOp) (x y e : SeenExp) (s t u : Option TypeId) → IsBin op x y e → IsMoved op s t u → ExpKnown g env x s → ExpKnown g env y t → ExpKnown g env e u
known_bin g env op x y e s t u is m k l = record {
  steady = λ h r. is.at h.nodes ∙ ap (λ z. Bin op z (exp_of h.nodes y)) (k.steady h r) ∙ ap (Bin op (exp_of g.nodes x)) (l.steady h r) ∙ sym (is.at g.nodes);
  typed = m.at g.nodes ∙ ap (λ z. moved_pointee op z (type_in g.nodes t)) k.typed ∙ ap (moved_pointee op (pointee env (exp_of g.nodes x))) l.typed ∙ sym (ap (pointee env) (is.at g.nodes));
  below = m.below (length g.nodes) k.below l.below;
}

there : (nodes : List Node) (t : TypeId) → t.0 < length nodes → type_at nodes t ≡ Some (shape nodes t.0)
there nodes t less = ap (λ v. cond v (Some (shape nodes t.0)) None) (lt-ltb t.0 (length nodes) less)

type_kept : (g h : Graph) (t : TypeId) → Grows g h → t.0 < length g.nodes → type_at h.nodes t ≡ type_at g.nodes t
type_kept g h t r less =
    there h.nodes t (omega (arith, no_fewer g h r)) ∙ ap Some (kept g h t.0 r less) ∙ sym (there g.nodes t less)

pub known_cast : (g : Graph) (env : Env) (c : TypeId) (x e : SeenExp) (t u : Option TypeId) → IsCast c x e → c.0 < length g.nodes → type_in g.nodes u ≡ option_and_then pointed (type_in g.nodes (Some c)) → TypeBelow (length g.nodes) u →
    ExpKnown g env x t → ExpKnown g env e u
known_cast g env c x e t u is less points low k = record {
  steady = λ h r. is.at h.nodes ∙ ap (λ z. Cast z (exp_of h.nodes x)) (type_kept g h c r less) ∙ ap (Cast (type_at g.nodes c)) (k.steady h r) ∙ sym (is.at g.nodes);
  typed = points ∙ ap (option_and_then pointed) (sym (there g.nodes c less)) ∙ sym (ap (pointee env) (is.at g.nodes));
  below = low;
}

pub cast_shape : (g : Graph) (c : TypeId) (x e : SeenExp) → IsCast c x e → c.0 < length g.nodes → exp_of g.nodes e ≡ Cast (Some (shape g.nodes c.0)) (exp_of g.nodes x)
cast_shape g c x e is less = is.at g.nodes ∙ ap (λ z. Cast z (exp_of g.nodes x)) (there g.nodes c less)

pub known_value : (g : Graph) (env : Env) (l : SeenLval) (e : SeenExp) (t u : Option TypeId) → IsValue l e → type_in g.nodes u ≡ option_and_then pointed (type_in g.nodes t) → TypeBelow (length g.nodes) u → PlaceKnown g env l t → ExpKnown g env e u
known_value g env l e t u is points low k = record {
  steady = λ h r. is.at h.nodes ∙ ap Value (k.steady h r) ∙ sym (is.at g.nodes);
  typed = points ∙ ap (option_and_then pointed) k.typed ∙ sym (ap (pointee env) (is.at g.nodes));
  below = low;
}

pub known_start : (g : Graph) (env : Env) (l : SeenLval) (e : SeenExp) (t u : Option TypeId) → IsStart l e → type_in g.nodes u ≡ option_and_then element_of (type_in g.nodes t) → TypeBelow (length g.nodes) u → PlaceKnown g env l t → ExpKnown g env e u
known_start g env l e t u is points low k = record {
  steady = λ h r. is.at h.nodes ∙ ap StartOf (k.steady h r) ∙ sym (is.at g.nodes);
  typed = points ∙ ap (option_and_then element_of) k.typed ∙ sym (ap (pointee env) (is.at g.nodes));
  below = low;
}

pub known_address : (g : Graph) (env : Env) (l : SeenLval) (e : SeenExp) (t : Option TypeId) → IsAddress l e → PlaceKnown g env l t → ExpKnown g env e t
known_address g env l e t is k = record {
  steady = λ h r. is.at h.nodes ∙ ap AddrOf (k.steady h r) ∙ sym (is.at g.nodes);
  typed = k.typed ∙ sym (ap (pointee env) (is.at g.nodes));
  below = k.below;
}

pub known_at : (g : Graph) (env : Env) (e : SeenExp) (x : SeenHost) (t : Option TypeId) → IsAt e x → ExpKnown g env e t → HostKnown g env x t
known_at g env e x t is k = record {
  steady = λ h r. is.at h.nodes ∙ ap At (k.steady h r) ∙ sym (is.at g.nodes);
  typed = k.typed ∙ sym (ap (type_at_host env) (is.at g.nodes));
  below = k.below;
}

pub known_base : (g : Graph) (env : Env) (l : SeenLval) (t : Option TypeId) → l.offsets.items ≡ [] → HostKnown g env l.host t → PlaceKnown g env l t
known_base g env l t none k = record {
  steady = λ h r. ap (λ xs. Place (host_of h.nodes l.host) (offsets_of h.nodes xs)) none ∙ ap (λ x. Place x Here) (k.steady h r) ∙ sym (ap (λ xs. Place (host_of g.nodes l.host) (offsets_of g.nodes xs)) none);
  typed = k.typed ∙ sym (ap (λ xs. type_at_place env (Place (host_of g.nodes l.host) (offsets_of g.nodes xs))) none);
  below = k.below;
}

part_further : (env : Env) (os more : Offsets) (s : Option Shape) → type_at_part env (joined os more) s ≡ type_at_part env more (type_at_part env os s)
part_further env Here more s = refl
part_further env (Field n os) more s = part_further env os more (type_of_named (fields env s) n)
part_further env (Index e os) more s = part_further env os more (option_and_then element_of s)

place_further : (env : Env) (l : Lval) (more : Offsets) → type_at_place env (part_of l more) ≡ type_at_part env more (type_at_place env l)
place_further env (Place host os) more = part_further env os more (type_at_host env host)

pub known_field : (g : Graph) (env : Env) (l m : SeenLval) (n : ℕ) (t : Option TypeId) (u : TypeId) → IsField l n m → type_of_named (fields env (type_in g.nodes t)) n ≡ Some (shape g.nodes u.0) → u.0 < length g.nodes → PlaceKnown g env l t → PlaceKnown g env m (Some u)
known_field g env l m n t u is named less k = record {
  steady = λ h r. is.at h.nodes ∙ ap (λ x. part_of x (Field n Here)) (k.steady h r) ∙ sym (is.at g.nodes);
  typed = sym named ∙ ap (λ s. type_of_named (fields env s) n) k.typed ∙ sym (place_further env (lval_of g.nodes l) (Field n Here)) ∙ sym (ap (type_at_place env) (is.at g.nodes));
  below = less;
}

pub known_element : (g : Graph) (env : Env) (l m : SeenLval) (e : SeenExp) (t u v : Option TypeId) → IsElement l e m → type_in g.nodes u ≡ option_and_then element_of (type_in g.nodes t) → TypeBelow (length g.nodes) u → ExpKnown g env e v → PlaceKnown g env l t → PlaceKnown g env m u
known_element g env l m e t u v is of_ low i k = record {
  steady = λ h r. is.at h.nodes ∙ ap (λ x. part_of (lval_of h.nodes l) (Index x Here)) (i.steady h r) ∙ ap (λ x. part_of x (Index (exp_of g.nodes e) Here)) (k.steady h r) ∙ sym (is.at g.nodes);
  typed = of_ ∙ ap (option_and_then element_of) k.typed ∙ sym (place_further env (lval_of g.nodes l) (Index (exp_of g.nodes e) Here)) ∙ sym (ap (type_at_place env) (is.at g.nodes));
  below = low;
}

-- later

below_later : (g h : Graph) (t : Option TypeId) → Grows g h → TypeBelow (length g.nodes) t → TypeBelow (length h.nodes) t
below_later g h None r b = tt
below_later g h (Some t) r b = omega (arith, no_fewer g h r, b)

pub type_later : (g h : Graph) (t : Option TypeId) → Grows g h → TypeBelow (length g.nodes) t → type_in h.nodes t ≡ type_in g.nodes t
type_later g h None r b = refl
type_later g h (Some t) r b = ap Some (kept g h t.0 r b)

pub exp_later : (g h : Graph) (env now : Env) (e : SeenExp) (t : Option TypeId) → ExpKnown g env e t → Grows g h → now ≡ env → ExpKnown h now e t
exp_later g h env now e t k r same = subst (λ v. ExpKnown h v e t) (sym same) (record {
  steady = λ i q. k.steady i (grows_twice g h i r q) ∙ sym (k.steady h r);
  typed = type_later g h t r k.below ∙ k.typed ∙ sym (ap (pointee env) (k.steady h r));
  below = below_later g h t r k.below;
})

pub exp_same : (g h : Graph) (env : Env) (e : SeenExp) (t : Option TypeId) → ExpKnown g env e t → Grows g h → exp_of h.nodes e ≡ exp_of g.nodes e
exp_same g h env e t k r = k.steady h r

pub place_later : (g h : Graph) (env now : Env) (l : SeenLval) (t : Option TypeId) → PlaceKnown g env l t → Grows g h → now ≡ env → PlaceKnown h now l t
place_later g h env now l t k r same = subst (λ v. PlaceKnown h v l t) (sym same) (record {
  steady = λ i q. k.steady i (grows_twice g h i r q) ∙ sym (k.steady h r);
  typed = type_later g h t r k.below ∙ k.typed ∙ sym (ap (type_at_place env) (k.steady h r));
  below = below_later g h t r k.below;
})

pub place_same : (g h : Graph) (env : Env) (l : SeenLval) (t : Option TypeId) → PlaceKnown g env l t → Grows g h → lval_of h.nodes l ≡ lval_of g.nodes l
place_same g h env l t k r = k.steady h r

-- places in expressions

pub chosen_start : (g : Graph) (env : Env) (l : SeenLval) (e : SeenExp) (t : Option TypeId) → IsStart l e → PlaceKnown g env l t → is_array_type (type_in g.nodes t) ≡ true → exp_of g.nodes e ≡ chosen env (lval_of g.nodes l)
chosen_start g env l e t is k a = is.at g.nodes ∙ sym (ap (λ v. cond v (StartOf (lval_of g.nodes l)) (Value (lval_of g.nodes l))) (ap is_array_type (sym k.typed) ∙ a))

pub chosen_value : (g : Graph) (env : Env) (l : SeenLval) (e : SeenExp) (t : Option TypeId) → IsValue l e → PlaceKnown g env l t → is_array_type (type_in g.nodes t) ≡ false → exp_of g.nodes e ≡ chosen env (lval_of g.nodes l)
chosen_value g env l e t is k a = is.at g.nodes ∙ sym (ap (λ v. cond v (StartOf (lval_of g.nodes l)) (Value (lval_of g.nodes l))) (ap is_array_type (sym k.typed) ∙ a))

-- trees in one graph

pub un_tree : (nodes : List Node) (op : UnOp) (x e : SeenExp) → IsUn op x e → exp_of nodes e ≡ Un op (exp_of nodes x)
un_tree nodes op x e is = is.at nodes

pub bin_tree : (nodes : List Node) (op : BinOp) (x y e : SeenExp) → IsBin op x y e → exp_of nodes e ≡ Bin op (exp_of nodes x) (exp_of nodes y)
bin_tree nodes op x y e is = is.at nodes

pub address_tree : (nodes : List Node) (l : SeenLval) (e : SeenExp) → IsAddress l e → exp_of nodes e ≡ AddrOf (lval_of nodes l)
address_tree nodes l e is = is.at nodes

pub at_tree : (nodes : List Node) (e : SeenExp) (x : SeenHost) → IsAt e x → host_of nodes x ≡ At (exp_of nodes e)
at_tree nodes e x is = is.at nodes

pub field_tree : (nodes : List Node) (l m : SeenLval) (n : ℕ) → IsField l n m → lval_of nodes m ≡ part_of (lval_of nodes l) (Field n Here)
field_tree nodes l m n is = is.at nodes

pub element_tree : (nodes : List Node) (l m : SeenLval) (e : SeenExp) → IsElement l e m → lval_of nodes m ≡ part_of (lval_of nodes l) (Index (exp_of nodes e) Here)
element_tree nodes l m e is = is.at nodes

-- types later

pub there_later : (g h : Graph) (t : TypeId) → Grows g h → t.0 < length g.nodes → t.0 < length h.nodes
there_later g h t r less = omega (arith, no_fewer g h r, less)

pub host_typed : (g : Graph) (env : Env) (x : SeenHost) (t : Option TypeId) → HostKnown g env x t → type_in g.nodes t ≡ type_at_host env (host_of g.nodes x)
host_typed g env x t k = k.typed

pub place_below : (g : Graph) (env : Env) (l : SeenLval) (t : Option TypeId) → PlaceKnown g env l t → TypeBelow (length g.nodes) t
place_below g env l t k = k.below
