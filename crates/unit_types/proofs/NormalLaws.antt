-- Device: an arena keeps its qualified types in normal form while it grows.
use Rattle.std.proofs.Common.{◌≡◌, ℕ, zero, suc, ◌<◌, ◌≤◌, Bool, true, false, ◌&&◌, ◌||◌, List, [], ◌∷◌, ◌++◌, length, slice_get, nat_lt, Some, None, ◌⊎◌, inl, inr, refl, sym, ap, ◌∙◌, subst, eqb, eqb-true, eq-eqb, true≢false, ltb-false, arith}
use Rattle.std.proofs.Math.ListN.{set}
use borrow.Author.Tests.{ltb-true}
use Rattle.std.specs.Option.{option_and_then}
use Rattle.cil_base.specs.declared.kinds.Abi.{Abi}
use Rattle.cil_base.specs.declared.numbers.AggId.{AggId}
use Rattle.type_graph.specs.declared.aggregates.Member.{Member}
use Rattle.type_graph.specs.declared.aggregates.Aggregate.{Aggregate}
use Rattle.type_graph.specs.declared.nodes.Node.{Node}
use Rattle.type_graph.specs.declared.nodes.Node.TheVariants.{Void, Int, Ptr, Array, Func, Agg}
use Rattle.type_graph.specs.declared.nodes.Quals.{Quals}
use Rattle.type_graph.specs.Shapes.{Shape, VoidType, IntType, PtrType, ArrayType, FuncType, AggType, shape}
use Rattle.type_graph.specs.Arena.{Graph, IsArena, NamesBelow, EachBelow, empty_graph, members_of}
use Rattle.type_graph.specs.Growth.{Grows, KeepsAggregates, AddsNode, with_agg, with_members}
use Rattle.type_graph.proofs.ArenaLaws.{agg_there}
use Rattle.type_graph.proofs.Lists.{get_stays, get_push, get_there, get_set_same, get_set_other}
use Rattle.type_graph.proofs.ShapeLaws.{kept}
use Rattle.unit_types.specs.Normal.{IsNormal, is_normal, is_plain, bears, qualified, normal_node, normal_member, normal_members, NormalFrom}

pub normal_empty : (abi : Abi) → IsNormal (empty_graph abi)
normal_empty abi = record { nodes = λ t n e. cc; members = λ a i ms m e f. cc }

-- a node of the arena is in normal form in the grown one
node_kept : (g h : Graph) (k m : ℕ) (n : Node) → Grows g h → k ≤ length g.nodes → NamesBelow k m n → normal_node h.nodes n ≡ normal_node g.nodes n
node_kept g h k m Void grows low below = refl
node_kept g h k m (Int kind) grows low below = refl
node_kept g h k m (Ptr q) grows low below = ap (is_normal q.quals) (kept g h q.of.0 grows (omega (arith, below, low)))
node_kept g h k m (Array q bound) grows low below = ap (is_normal q.quals) (kept g h q.of.0 grows (omega (arith, below, low)))
node_kept g h k m (Func proto variadic ret params) grows low below = refl
node_kept g h k m (Agg a) grows low below = refl

pub both : (p q : Bool) → p && q ≡ true → (p ≡ true) × (q ≡ true)
both true q h = (refl, h)
both false q h = cc

pub some_same : {K : Type 0} (x y : K) → Some x ≡ Some y → x ≡ y
some_same x y e = cc

get_below : {K : Type 0} (xs : List K) (i : ℕ) (x : K) → slice_get xs i ≡ Some x → i < length xs
get_below [] i x e = cc
get_below (y ∷ xs) zero x e = omega arith
get_below (y ∷ xs) (suc i) x e = omega (arith, get_below xs i x e)

pub member_below : (nodes : List Node) (order : List AggId) (r i : ℕ) (ms : List Member) (m : Member) → EachBelow nodes order r ms → slice_get ms i ≡ Some m → m.ty.of.0 < length nodes
member_below nodes order r i [] m each e = cc
member_below nodes order r zero (x ∷ ms) m each e = subst (λ (y : Member). y.ty.of.0 < length nodes) (some_same x m e) each.0
member_below nodes order r (suc i) (x ∷ ms) m each e = member_below nodes order r i ms m each.2 e

-- members of aggregates that stay are in normal form in the grown arena
member_kept : (g h : Graph) (a i : ℕ) (ms : List Member) (m : Member) → IsArena g → IsNormal g → Grows g h → members_of g.aggs a ≡ Some ms → slice_get ms i ≡ Some m → is_normal m.ty.quals (shape h.nodes m.ty.of.0) ≡ true
member_kept g h a i ms m w normal grows e f =
    ap (is_normal m.ty.quals) (kept g h m.ty.of.0 grows (member_below g.nodes g.completed _ i ms m (w.nested a ms e).1 f)) ∙ normal.members a i ms m e f

normal_pushed : (g h : Graph) (n : Node) → IsArena g → IsNormal g → NamesBelow (length g.nodes) (length g.aggs) n → normal_node g.nodes n ≡ true → Grows g h → h ≡ record g { nodes = g.nodes ++ n ∷ [] } → IsNormal h
normal_pushed g h n w normal names form grows is = record {
  nodes = λ k x e. by k x (get_push g.nodes n k x (subst (λ (f : Graph). slice_get f.nodes k ≡ Some x) is e));
  members = λ a i ms m e f. member_kept g h a i ms m w normal grows (subst (λ (p : Graph). members_of p.aggs a ≡ Some ms) is e) f;
}
  where
    by : (k : ℕ) (x : Node) → (slice_get g.nodes k ≡ Some x) ⊎ ((k ≡ length g.nodes) × (n ≡ x)) → normal_node h.nodes x ≡ true
    by k x (inl old) = node_kept g h k (length g.aggs) x grows (omega (arith, get_below g.nodes k x old)) (w.grounded k x old) ∙ normal.nodes k x old
    by k x (inr new) = subst (λ (y : Node). normal_node h.nodes y ≡ true) new.1 (node_kept g h (length g.nodes) (length g.aggs) n grows (omega arith) names ∙ form)

-- an arena that gained types in normal form
pub normal_grown : (g h : Graph) → IsArena g → IsNormal g → Grows g h → KeepsAggregates g h → NormalFrom (length g.nodes) h → IsNormal h
normal_grown g h w normal grows keeps new = record {
  nodes = λ k x e. by k x e (nat_lt k (length g.nodes)) refl;
  members = λ a i ms m e f. member_kept g h a i ms m w normal grows (subst (λ xs. members_of xs a ≡ Some ms) keeps.0 e) f;
}
  where
    by : (k : ℕ) (x : Node) → slice_get h.nodes k ≡ Some x → (b : Bool) → nat_lt k (length g.nodes) ≡ b → normal_node h.nodes x ≡ true
    by k x e true below =
        let y = get_there g.nodes k (ltb-true _ _ below) in
        let there : slice_get h.nodes k ≡ Some y.0 = subst (λ ns. slice_get ns k ≡ Some y.0) (sym grows.nodes.1) (get_stays g.nodes grows.nodes.0 k y.0 y.1) in
        let same : y.0 ≡ x = some_same y.0 x (sym there ∙ e) in
        let old : slice_get g.nodes k ≡ Some x = y.1 ∙ ap Some same in
        node_kept g h k (length g.aggs) x grows (omega (arith, ltb-true _ _ below)) (w.grounded k x old) ∙ normal.nodes k x old
    by k x e false past = new k x (ltb-false _ _ past) e

-- one of members that are all in normal form
member_normal : (g : Graph) (ms : List Member) (i : ℕ) (m : Member) → normal_members g ms ≡ true → slice_get ms i ≡ Some m → normal_member g m ≡ true
member_normal g [] i m all e = cc
member_normal g (x ∷ ms) zero m all e = subst (λ (y : Member). normal_member g y ≡ true) (some_same x m e) (both _ _ all).0
member_normal g (x ∷ ms) (suc i) m all e = member_normal g ms i m (both _ _ all).1 e

-- a node that is asked for
pub normal_added : (g h : Graph) (n : Node) (t : ℕ) → IsArena g → IsNormal g → NamesBelow (length g.nodes) (length g.aggs) n → normal_node g.nodes n ≡ true → Grows g h → AddsNode g h n t → IsNormal h
normal_added g h n t w normal names form grows adds = by (nat_lt t (length g.nodes)) refl
  where
    by : (b : Bool) → nat_lt t (length g.nodes) ≡ b → IsNormal h
    by true below =
        let x = get_there g.nodes t (ltb-true _ _ below) in
        let there : slice_get h.nodes t ≡ Some x.0 = subst (λ ns. slice_get ns t ≡ Some x.0) (sym grows.nodes.1) (get_stays g.nodes grows.nodes.0 t x.0 x.1) in
        let same : x.0 ≡ n = some_same x.0 n (sym there ∙ adds.number) in
        subst IsNormal (sym (adds.known t (x.1 ∙ ap Some same))) normal
    by false past = normal_pushed g h n w normal names form grows (adds.fresh (ltb-false _ _ past))

pub members_at : (aggs : List Aggregate) (a : ℕ) (x : Aggregate) → slice_get aggs a ≡ Some x → members_of aggs a ≡ x.members
members_at aggs a x e = ap (option_and_then (λ (y : Aggregate). y.members)) e

-- an incomplete aggregate
pub normal_agg : (g : Graph) (x : Aggregate) → IsNormal g → x.members ≡ None → IsNormal (with_agg g x)
normal_agg g x normal none = record {
  nodes = λ k n e. normal.nodes k n e;
  members = λ a i ms m e f. by a i ms m f (agg_there (g.aggs ++ x ∷ []) a ms e);
}
  where
    by : (a i : ℕ) (ms : List Member) (m : Member) → slice_get ms i ≡ Some m → (y : Aggregate) × (slice_get (g.aggs ++ x ∷ []) a ≡ Some y) × (y.members ≡ Some ms) → is_normal m.ty.quals (shape g.nodes m.ty.of.0) ≡ true
    by a i ms m f there = at (get_push g.aggs x a there.0 there.1)
      where
        at : (slice_get g.aggs a ≡ Some there.0) ⊎ ((a ≡ length g.aggs) × (x ≡ there.0)) → is_normal m.ty.quals (shape g.nodes m.ty.of.0) ≡ true
        at (inl old) = normal.members a i ms m (members_at g.aggs a there.0 old ∙ there.2) f
        at (inr new) = let absent : None ≡ Some ms = sym none ∙ (ap (λ (z : Aggregate). z.members) new.1 ∙ there.2) in cc

-- members that are in normal form complete an aggregate
pub normal_complete : (g : Graph) (a : AggId) (x : Aggregate) (ms : List Member) → IsNormal g → slice_get g.aggs a.0 ≡ Some x → normal_members g ms ≡ true → IsNormal (with_members g a x ms)
normal_complete g a x ms normal at form = record {
  nodes = λ k n e. normal.nodes k n e;
  members = λ b i us m e f. by b i us m f (eqb b a.0) refl (agg_there (set g.aggs a.0 (record x { members = Some ms })) b us e);
}
  where
    by : (b i : ℕ) (us : List Member) (m : Member) → slice_get us i ≡ Some m → (q : Bool) → eqb b a.0 ≡ q → (y : Aggregate) × (slice_get (set g.aggs a.0 (record x { members = Some ms })) b ≡ Some y) × (y.members ≡ Some us) → is_normal m.ty.quals (shape g.nodes m.ty.of.0) ≡ true
    by b i us m f true same there =
        let y : Aggregate = record x { members = Some ms } in
        let is : slice_get (set g.aggs a.0 y) b ≡ Some y = subst (λ k. slice_get (set g.aggs a.0 y) k ≡ Some y) (sym (eqb-true b a.0 same)) (get_set_same g.aggs a.0 x y at) in
        let one : Some ms ≡ Some us = ap (λ (z : Aggregate). z.members) (some_same y there.0 (sym is ∙ there.1)) ∙ there.2 in
        member_normal g ms i m form (subst (λ vs. slice_get vs i ≡ Some m) (sym (some_same ms us one)) f)
    by b i us m f false other there =
        let old : slice_get g.aggs b ≡ Some there.0 = sym (get_set_other g.aggs a.0 b _ (λ e. true≢false (sym (eq-eqb b a.0 e) ∙ other))) ∙ there.1 in
        normal.members b i us m (members_at g.aggs b there.0 old ∙ there.2) f

pub normal_completed : (g h : Graph) (a : AggId) (ms : List Member) → IsNormal g → a.0 < length g.aggs → normal_members g ms ≡ true → ((x : Aggregate) → slice_get g.aggs a.0 ≡ Some x → h ≡ with_members g a x ms) → IsNormal h
normal_completed g h a ms normal there form is =
    let x = get_there g.aggs a.0 there in
    subst IsNormal (sym (is x.0 x.1)) (normal_complete g a x.0 ms normal x.1 form)

bearing : (p : Quals) (s : Shape) → bears s ≡ true → is_normal p s ≡ true
bearing p s h = by (is_plain p)
  where
    by : (b : Bool) → (b || bears s) ≡ true
    by true = refl
    by false = h

-- qualifiers that are added leave a type in normal form
pub qualified_normal : (p : Quals) (s : Shape) → is_normal (qualified p s).0 (qualified p s).1 ≡ true
qualified_normal p VoidType = bearing p VoidType refl
qualified_normal p (IntType kind) = bearing p (IntType kind) refl
qualified_normal p (PtrType q s) = bearing p (PtrType q s) refl
qualified_normal p (ArrayType q s bound) = refl
qualified_normal p (FuncType ret params proto variadic) = refl
qualified_normal p (AggType a) = bearing p (AggType a) refl
