-- Device: what is known of pairs of types stays right.
use Rattle.std.proofs.Common.{◌≡◌, Result, Ok, Err, OnOk, ℕ, ◌<◌, ◌≤◌, Bool, true, false, ◌&&◌, Some, None, length, ◌⊎◌, inl, inr, refl, sym, ap, ◌∙◌, subst, arith, eqb, eqb-true}
use Rattle.std.specs.HashMap as map
use Rattle.std.specs.HashSet as set
use Rattle.std.specs.List.{list_any}
use Rattle.std.specs.Map.{lookup}
use Rattle.cil_base.specs.declared.numbers.TypeId.{TypeId}
use Rattle.type_graph.specs.Shapes.{shape}
use Rattle.type_graph.specs.Arena.{Graph}
use Rattle.type_graph.specs.Growth.{Grows, KeepsAggregates}
use Rattle.type_graph.proofs.ShapeLaws.{kept}
use Rattle.type_compat.specs.declared.pairs.Pair.{Pair}
use Rattle.type_compat.specs.declared.pairs.Known.{Known}
use Rattle.type_compat.specs.declared.pairs.Composites.{Composites}
use Rattle.type_compat.specs.contracts.pairs.PairPartialEq.TheImpl.{ghosts}
use Rattle.type_compat.specs.Compatible.{compatible_shape}
use Rattle.type_compat.specs.Composed.{composite_shape}
use Rattle.type_compat.specs.Pairs.{pair, knows, answer_of, KnowsMore, AnswersMore, IsComposed, AllCompatible, AllComposed}
use Rattle.type_compat.proofs.Composing.{more_nodes}

both : (p q : Bool) → p && q ≡ true → (p ≡ true) × (q ≡ true)
both true q h = (refl, h)
both false q h = cc

same_id : (s t : TypeId) → s.0 ≡ t.0 → s ≡ t
same_id s t e = let f : ℕ → TypeId = λ k. record { 0 = k } in ap f e

-- the derived comparison of pairs tells whether they are equal
pub pair_tells : (p q : Pair) → ghosts.eq p q ≡ true → p ≡ q
pair_tells p q e =
    let h = both (eqb p.left.0 q.left.0) (eqb p.right.0 q.right.0) e in
    ap (λ (t : TypeId). pair t p.right) (same_id p.left q.left (eqb-true p.left.0 q.left.0 h.0)) ∙ ap (pair q.left) (same_id p.right q.right (eqb-true p.right.0 q.right.0 h.1))

pub none_compatible : (g : Graph) (known : Known) → set.IsEmpty known.pairs → AllCompatible g known
none_compatible g known e p h = let no : false ≡ true = sym (ap (list_any (ghosts.eq p)) e) ∙ h in cc

pub none_composed : (g : Graph) (known : Composites) → map.IsEmpty known.answers → AllComposed g known
none_composed g known e p t h = let no : None ≡ Some t = sym (ap (lookup (ghosts.eq p)) e) ∙ h in cc

-- one pair more
pub noted : (g : Graph) (old new : Known) (a b : TypeId) → AllCompatible g old → KnowsMore old new (pair a b) → compatible_shape g.aggs (shape g.nodes a.0) (shape g.nodes b.0) ≡ true → AllCompatible g new
noted g old new a b all more is q h = by (more q h)
  where
    by : (knows old q ≡ true) ⊎ (q ≡ pair a b) → compatible_shape g.aggs (shape g.nodes q.left.0) (shape g.nodes q.right.0) ≡ true
    by (inl k) = all q k
    by (inr e) = ap (λ (p : Pair). compatible_shape g.aggs (shape g.nodes p.left.0) (shape g.nodes p.right.0)) e ∙ is

pub answered : (g : Graph) (old new : Composites) (p : Pair) (t : TypeId) → AllComposed g old → AnswersMore old new p t → IsComposed g p t → AllComposed g new
answered g old new p t all more is q u h = by (more q u h)
  where
    by : (answer_of old q ≡ Some u) ⊎ ((q ≡ p) × (u ≡ t)) → IsComposed g q u
    by (inl k) = all q u k
    by (inr e) = subst (λ (r : Pair). IsComposed g r u) (sym e.0) (subst (IsComposed g p) (sym e.1) is)

-- growth keeps composites
composed_grows : (g h : Graph) (p : Pair) (t : TypeId) → Grows g h → IsComposed g p t → IsComposed h p t
composed_grows g h p t e c =
    let more : length g.nodes ≤ length h.nodes = more_nodes g h e in
    record {
      left = omega (arith, c.left);
      right = omega (arith, c.right);
      there = omega (arith, c.there);
      is = kept g h t.0 e c.there ∙ c.is ∙ sym (ap (λ s. composite_shape s (shape h.nodes p.right.0)) (kept g h p.left.0 e c.left) ∙ ap (composite_shape (shape g.nodes p.left.0)) (kept g h p.right.0 e c.right));
    }

-- what a composite of two types of an earlier graph is now
pub now_composed : (g h : Graph) (a b t : TypeId) → Grows g h → a.0 < length g.nodes → b.0 < length g.nodes → t.0 < length h.nodes → shape h.nodes t.0 ≡ composite_shape (shape g.nodes a.0) (shape g.nodes b.0) → IsComposed h (pair a b) t
now_composed g h a b t e left right there is =
    let more : length g.nodes ≤ length h.nodes = more_nodes g h e in
    record {
      left = omega arith;
      right = omega arith;
      there = there;
      is = is ∙ sym (ap (λ s. composite_shape s (shape h.nodes b.0)) (kept g h a.0 e left) ∙ ap (composite_shape (shape g.nodes a.0)) (kept g h b.0 e right));
    }

pub all_grow : (g h : Graph) (known : Composites) → Grows g h → AllComposed g known → AllComposed h known
all_grow g h known e all p t k = composed_grows g h p t e (all p t k)

pub keeps_twice : (f g h : Graph) → KeepsAggregates f g → KeepsAggregates g h → KeepsAggregates f h
keeps_twice f g h d e = (e.0 ∙ d.0, e.1 ∙ d.1)

-- what holds of any result
pub when_ok : {T E P : Type 0} (r : Result T E) → P → OnOk r P
when_ok (Ok x) p = p
when_ok (Err e) p = tt
