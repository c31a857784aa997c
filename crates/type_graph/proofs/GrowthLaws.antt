-- Device: steps of an arena are growth, and growth is transitive.
use Rattle.std.proofs.Common.{◌≡◌, ◌≢◌, ℕ, zero, suc, ◌<◌, ◌≤◌, Bool, true, false, nat_eq, nat_lt, ltb-false, List, [], ◌∷◌, ◌++◌, length, slice_get, Some, None, Result, Ok, Err, IfOk, OnErr, ◌⊎◌, inl, inr, refl, sym, ap, ◌∙◌, subst, arith, length-append, append_assoc, append-nil}
use borrow.Author.Tests.{ltb-true}
use Rattle.std.proofs.lemmas.Bool.Decides.{eqb_tells}
use Rattle.std.proofs.Math.ListN.{set, length-set}
use Rattle.std.specs.Option.{option_and_then}
use Rattle.cil_base.specs.declared.numbers.AggId.{AggId}
use Rattle.cil_base.specs.declared.numbers.TypeId.{TypeId}
use Rattle.type_graph.specs.declared.aggregates.Member.{Member}
use Rattle.type_graph.specs.declared.aggregates.Aggregate.{Aggregate}
use Rattle.type_graph.specs.declared.nodes.Node.{Node}
use Rattle.type_graph.specs.Shapes.{shape, shape_of}
use Rattle.type_graph.specs.Arena.{Graph, IsArena, NamesBelow, members_of}
use Rattle.type_graph.proofs.ShapeLaws.{shape_is, shape_pushed}
use Rattle.type_graph.specs.Growth.{Grows, AggGrows, AddsNode, GainsOnly, with_agg, with_members}
use Rattle.type_graph.proofs.Lists.{get_stays, get_there, get_at_end, get_set_same, get_set_other}

agg_same : (x : Aggregate) → AggGrows x x
agg_same x = record { kind = refl; tag = refl; members = λ ms e. e }

pub grows_none : (g : Graph) → Grows g g
grows_none g = record { abi = refl; nodes = ([], sym (append-nil g.nodes)); more_aggs = omega arith; aggs = λ a x e. (x, e, agg_same x); completed = ([], sym (append-nil g.completed)) }

pub grows_by : (g h : Graph) → h ≡ g → Grows g h
grows_by g h e = subst (Grows g) (sym e) (grows_none g)

pub grows_node : (g h : Graph) (n : Node) → h ≡ record g { nodes = g.nodes ++ n ∷ [] } → Grows g h
grows_node g h n e = subst (Grows g) (sym e) (record { abi = refl; nodes = (n ∷ [], refl); more_aggs = omega arith; aggs = λ a x q. (x, q, agg_same x); completed = ([], sym (append-nil g.completed)) })

pub grows_agg : (g h : Graph) (x : Aggregate) → h ≡ with_agg g x → Grows g h
grows_agg g h x e = subst (Grows g) (sym e) (record { abi = refl; nodes = ([], sym (append-nil g.nodes)); more_aggs = omega (arith, length-append g.aggs (x ∷ [])); aggs = λ a y q. (y, get_stays g.aggs (x ∷ []) a y q, agg_same y); completed = ([], sym (append-nil g.completed)) })

pub grows_complete : (g h : Graph) (a : AggId) (x : Aggregate) (ms : List Member) → slice_get g.aggs a.0 ≡ Some x → members_of g.aggs a.0 ≡ None → h ≡ with_members g a x ms → Grows g h
grows_complete g h a x ms at none e = subst (Grows g) (sym e) (record {
  abi = refl;
  nodes = ([], sym (append-nil g.nodes));
  more_aggs = omega (arith, length-set g.aggs a.0 (record x { members = Some ms }));
  aggs = λ b y q. one b y (eqb_tells b a.0) q;
  completed = (a ∷ [], refl);
})
  where
    one : (b : ℕ) (y : Aggregate) → ((nat_eq b a.0 ≡ true) × (b ≡ a.0)) ⊎ ((nat_eq b a.0 ≡ false) × (b ≢ a.0)) → slice_get g.aggs b ≡ Some y → (z : Aggregate) × (slice_get (set g.aggs a.0 (record x { members = Some ms })) b ≡ Some z) × AggGrows y z
    one b y (inl h) q =
        let same : x ≡ y = let p : Some x ≡ Some y = sym at ∙ ap (slice_get g.aggs) (sym h.1) ∙ q in cc in
        let without : x.members ≡ None = sym (ap (option_and_then (λ (z : Aggregate). z.members)) at) ∙ none in (
          record x { members = Some ms },
          ap (slice_get (set g.aggs a.0 (record x { members = Some ms }))) h.1 ∙ get_set_same g.aggs a.0 x (record x { members = Some ms }) at,
          subst (λ (z : Aggregate). AggGrows z (record x { members = Some ms })) same (record { kind = refl; tag = refl; members = λ bs p. cc }),
        )
    one b y (inr h) q = (y, get_set_other g.aggs a.0 b (record x { members = Some ms }) h.1 ∙ q, agg_same y)

agg_trans : (x y z : Aggregate) → AggGrows x y → AggGrows y z → AggGrows x z
agg_trans x y z p q = record { kind = q.kind ∙ p.kind; tag = q.tag ∙ p.tag; members = λ ms e. q.members ms (p.members ms e) }

pub grows_twice : (f g h : Graph) → Grows f g → Grows g h → Grows f h
grows_twice f g h p q = record {
  abi = q.abi ∙ p.abi;
  nodes = (p.nodes.0 ++ q.nodes.0, q.nodes.1 ∙ ap (λ (ns : List Node). ns ++ q.nodes.0) p.nodes.1 ∙ append_assoc f.nodes p.nodes.0 q.nodes.0);
  more_aggs = omega (arith, p.more_aggs, q.more_aggs);
  aggs = λ a x e. let y = p.aggs a x e in let z = q.aggs a y.0 y.1 in (z.0, z.1, agg_trans x y.0 z.0 y.2 z.2);
  completed = (p.completed.0 ++ q.completed.0, q.completed.1 ∙ ap (λ (order : List AggId). order ++ q.completed.0) p.completed.1 ∙ append_assoc f.completed p.completed.0 q.completed.0);
}

pub adds_new : (g h : Graph) (n : Node) (t : ℕ) → ((s : ℕ) → slice_get g.nodes s ≡ Some n → ⊥) → h ≡ record g { nodes = g.nodes ++ n ∷ [] } → t ≡ length g.nodes → AddsNode g h n t
adds_new g h n t absent e place = record {
  number = ap (λ (k : Graph). slice_get k.nodes t) e ∙ ap (slice_get (g.nodes ++ n ∷ [])) place ∙ get_at_end g.nodes n;
  known = λ s p. absurd (absent s p);
  fresh = λ l. e;
}

get_below : {K : Type 0} (xs : List K) (i : ℕ) (x : K) → slice_get xs i ≡ Some x → i < length xs
get_below [] i x e = cc
get_below (y ∷ xs) zero x e = omega arith
get_below (y ∷ xs) (suc i) x e = omega (arith, get_below xs i x e)

-- the arena that is asked for a type is the same, or has it last
pub added_as : (g h : Graph) (n : Node) (t : ℕ) → Grows g h → AddsNode g h n t → (h ≡ g) ⊎ ((h ≡ record g { nodes = g.nodes ++ n ∷ [] }) × (t ≡ length g.nodes))
added_as g h n t grows adds = by (nat_lt t (length g.nodes)) refl
  where
    by : (b : Bool) → nat_lt t (length g.nodes) ≡ b → (h ≡ g) ⊎ ((h ≡ record g { nodes = g.nodes ++ n ∷ [] }) × (t ≡ length g.nodes))
    by true below =
        let x = get_there g.nodes t (ltb-true _ _ below) in
        let there : slice_get h.nodes t ≡ Some x.0 = subst (λ ns. slice_get ns t ≡ Some x.0) (sym grows.nodes.1) (get_stays g.nodes grows.nodes.0 t x.0 x.1) in
        let same : Some x.0 ≡ Some n = sym there ∙ adds.number in
        inl (adds.known t (x.1 ∙ same))
    by false past =
        let is = adds.fresh (ltb-false _ _ past) in
        inr (is, omega (arith, ltb-false _ _ past, get_below h.nodes t n adds.number, ap (λ (k : Graph). length k.nodes) is, length-append g.nodes (n ∷ [])))

-- it gains no other
pub gains_one : (g h : Graph) (n : Node) (t : ℕ) → Grows g h → AddsNode g h n t → GainsOnly g h t
gains_one g h n t grows adds = record { only = λ v past below. by v past below (added_as g h n t grows adds) }
  where
    by : (v : ℕ) → length g.nodes ≤ v → v < length h.nodes → (h ≡ g) ⊎ ((h ≡ record g { nodes = g.nodes ++ n ∷ [] }) × (t ≡ length g.nodes)) → v ≡ t
    by v past below (inl e) = absurd (omega (arith, past, below, ap (λ (k : Graph). length k.nodes) e))
    by v past below (inr e) = omega (arith, past, below, e.1, ap (λ (k : Graph). length k.nodes) e.0, length-append g.nodes (n ∷ []))

pub grows_added : {E : Type 0} (g h : Graph) (n : Node) (r : Result TypeId E) → IfOk r (λ (t : TypeId). (h ≡ record g { nodes = g.nodes ++ n ∷ [] }) × (t.0 ≡ length g.nodes)) → OnErr r (h ≡ g) → Grows g h
grows_added g h n (Ok t) p q = grows_node g h n p.0
grows_added g h n (Err e) p q = grows_by g h q

-- the shape of a type that was asked for
pub added_shape : (g : Graph) (n : Node) (t : ℕ) → IsArena g → NamesBelow (length g.nodes) (length g.aggs) n → slice_get g.nodes t ≡ Some n → shape g.nodes t ≡ shape_of (shape g.nodes) n
added_shape g n t w names at = shape_is g.nodes t (length g.aggs) n at (w.grounded t n at)

pub new_shape : {E : Type 0} (g h : Graph) (n : Node) (r : Result TypeId E) → NamesBelow (length g.nodes) (length g.aggs) n → IfOk r (λ (t : TypeId). (h ≡ record g { nodes = g.nodes ++ n ∷ [] }) × (t.0 ≡ length g.nodes)) → IfOk r (λ (t : TypeId). shape h.nodes t.0 ≡ shape_of (shape g.nodes) n)
new_shape g h n (Ok t) names p =
    ap (λ (k : Graph). shape k.nodes t.0) p.0 ∙ shape_pushed g.nodes n t.0 (length g.aggs) p.1 (subst (λ k. NamesBelow k (length g.aggs) n) (sym p.1) names)
new_shape g h n (Err e) names p = p
