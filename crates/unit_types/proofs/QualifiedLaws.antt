-- Device: qualifiers leave the sizes of types, so that no type gets too big by them.
use Rattle.std.proofs.Common.{◌≡◌, ℕ, ◌<◌, ◌≤◌, Bool, true, false, nat_lt, List, [], ◌∷◌, ◌++◌, length, slice_get, is_some, Option, Some, None, ◌⊎◌, inl, inr, refl, sym, ap, ◌∙◌, subst, ltb-false, length-append, arith}
use borrow.Author.Tests.{ltb-true}
use Rattle.std.specs.Option.{option_map}
use Rattle.cil_base.specs.declared.kinds.Abi.{Abi}
use Rattle.type_graph.specs.declared.layout.Layout.{Layout}
use Rattle.type_graph.specs.declared.nodes.Quals.{Quals}
use Rattle.type_graph.specs.declared.nodes.QualType.{QualType}
use Rattle.type_graph.specs.declared.nodes.Node.{Node}
use Rattle.type_graph.specs.declared.nodes.Node.TheVariants.{Array}
use Rattle.type_graph.specs.Shapes.{Shape, VoidType, IntType, PtrType, ArrayType, FuncType, AggType, shape}
use Rattle.type_graph.specs.Arena.{Graph, IsArena, members_of}
use Rattle.type_graph.specs.Growth.{Grows, KeepsAggregates, AddsNode}
use Rattle.type_graph.specs.Layouts.{AggLayout, array_of, layout_in, whole_of, agg_layout, layout}
use Rattle.type_graph.proofs.ArenaLaws.{some_there}
use Rattle.type_graph.proofs.GrowthLaws.{added_as, added_shape, gains_one}
use Rattle.type_graph.proofs.LayoutLaws.{layout_in-keeps, agg_layout_there, agg_layout_grows}
use Rattle.type_graph.proofs.ShapeLaws.{kept, shape_past}
use Rattle.type_compat.specs.Parts.{Element, GainsParts}
use Rattle.type_compat.proofs.PartLaws.{with_parts}
use Rattle.layout_lp64.specs.declared.layouts.LayoutStop.{LayoutStop}
use Rattle.layout_lp64.specs.declared.layouts.LayoutStop.TheVariants.{TooBig, Memory}
use Rattle.layout_lp64.specs.Tables.{AllFit, IsLeastTooBig}
use Rattle.unit_types.specs.Normal.{joined, qualified}
use Rattle.unit_types.specs.Steps.{Makes, StopsWith, IsTooBigWith}

layout_qualified : (abi : Abi) (f : ℕ → Option Layout) (p : Quals) (s : Shape) → layout_in abi f (qualified p s).1 ≡ layout_in abi f s
layout_qualified abi f p VoidType = refl
layout_qualified abi f p (IntType kind) = refl
layout_qualified abi f p (PtrType q s) = refl
layout_qualified abi f p (ArrayType q s None) = refl
layout_qualified abi f p (ArrayType q s (Some n)) = ap (option_map (array_of n)) (layout_qualified abi f (joined q p) s)
layout_qualified abi f p (FuncType ret params proto variadic) = refl
layout_qualified abi f p (AggType a) = refl

array_qualified : (abi : Abi) (f : ℕ → Option Layout) (p q r : Quals) (s : Shape) (bound : Option ℕ) → layout_in abi f (ArrayType r (qualified p s).1 bound) ≡ layout_in abi f (ArrayType q s bound)
array_qualified abi f p q r s None = refl
array_qualified abi f p q r s (Some n) = ap (option_map (array_of n)) (layout_qualified abi f p s)

added_keeps : (g h : Graph) (n : Node) (k : ℕ) → (h ≡ g) ⊎ ((h ≡ record g { nodes = g.nodes ++ n ∷ [] }) × (k ≡ length g.nodes)) → KeepsAggregates g h
added_keeps g h n k (inl e) = (ap (λ (x : Graph). x.aggs) e, ap (λ (x : Graph). x.completed) e)
added_keeps g h n k (inr e) = (ap (λ (x : Graph). x.aggs) e.0, ap (λ (x : Graph). x.completed) e.0)

whole_stays : (o u : Option AggLayout) → ((x : AggLayout) → o ≡ Some x → u ≡ Some x) → (l : Layout) → whole_of o ≡ Some l → whole_of u ≡ Some l
whole_stays None u k l e = cc
whole_stays (Some x) u k l e = ap whole_of (k x refl) ∙ e

-- two arenas of which the second has more types alone
module _ (g h : Graph) (w : IsArena g) (v : IsArena h) (grows : Grows g h) (keeps : KeepsAggregates g h) where
  agg_stays : (a : ℕ) (x : AggLayout) → agg_layout h a ≡ Some x → agg_layout g a ≡ Some x
  agg_stays a x e =
      let there : is_some (agg_layout g a) ≡ true = agg_layout_there g w a ∙ sym (ap (λ xs. is_some (members_of xs a)) keeps.0) ∙ sym (agg_layout_there h v a) ∙ ap is_some e in
      let y = some_there (agg_layout g a) there in
      y.1 ∙ (sym (agg_layout_grows g h a y.0 w grows y.1) ∙ e)

  -- a shape has the layout that it had
  in_first : (s : Shape) (x : Layout) → layout_in h.abi (λ b. whole_of (agg_layout h b)) s ≡ Some x → layout_in g.abi (λ b. whole_of (agg_layout g b)) s ≡ Some x
  in_first s x e =
      layout_in-keeps g.abi (λ b. whole_of (agg_layout h b)) (λ b. whole_of (agg_layout g b)) s (λ b o. whole_stays (agg_layout h b) (agg_layout g b) (agg_stays b)) x
      (ap (λ (abi : Abi). layout_in abi (λ b. whole_of (agg_layout h b)) s) (sym grows.abi) ∙ e)

  pub none_large : (k t u : ℕ) (of : QualType) (bound : Option ℕ) (q p : Quals) (s : Shape) → AllFit g → AddsNode g h (Array of bound) k → shape g.nodes t ≡ ArrayType q s bound → of.of.0 < length g.nodes
      → shape g.nodes of.of.0 ≡ (qualified p s).1 → IsLeastTooBig h u → ⊥
  none_large k t u of bound q p s fit adds is there element least = by (nat_lt u (length g.nodes)) (nat_lt u (length h.nodes)) refl refl
    where
      more : length g.nodes ≤ length h.nodes
      more = omega (arith, ap length grows.nodes.1, length-append g.nodes grows.nodes.0)

      -- the type has the layout of another, which fits
      like : (i : ℕ) (r : Shape) → shape h.nodes u ≡ r → layout_in g.abi (λ b. whole_of (agg_layout g b)) r ≡ layout g i → ⊥
      like i r e same =
          let large : layout g i ≡ Some least.large = sym same ∙ in_first r least.large (ap (layout_in h.abi (λ b. whole_of (agg_layout h b))) (sym e) ∙ least.is) in
          absurd (omega (arith, fit.each i least.large large, least.size))

      by : (a b : Bool) → nat_lt u (length g.nodes) ≡ a → nat_lt u (length h.nodes) ≡ b → ⊥
      by true b old new = like u (shape g.nodes u) (kept g h u grows (ltb-true _ _ old)) refl
      by false false old new =
          let none : layout h u ≡ None = ap (layout_in h.abi (λ b. whole_of (agg_layout h b))) (shape_past h.nodes u (ltb-false _ _ new)) in
          let clash : None ≡ Some least.large = sym none ∙ least.is in cc
      by false true old new =
          let last : u ≡ k = (gains_one g h (Array of bound) k grows adds).only u (ltb-false _ _ old) (ltb-true _ _ new) in
          let shaped : shape h.nodes u ≡ ArrayType of.quals (shape h.nodes of.of.0) bound =
          added_shape h (Array of bound) u v (omega (arith, there, more)) (ap (slice_get h.nodes) last ∙ adds.number) in
          like t (ArrayType of.quals (qualified p s).1 bound) (shaped ∙ ap (λ r. ArrayType of.quals r bound) (kept g h of.of.0 grows there ∙ element))
          (array_qualified g.abi (λ b. whole_of (agg_layout g b)) p q of.quals s bound ∙ ap (layout_in g.abi (λ b. whole_of (agg_layout g b))) (sym is))

-- an array whose element was qualified is not too big
pub qualified_fits : (g : Graph) (t : ℕ) (of : QualType) (bound : Option ℕ) (q p : Quals) (s : Shape) (e : LayoutStop) → IsArena g → AllFit g → shape g.nodes t ≡ ArrayType q s bound → of.of.0 < length g.nodes
    → (of.quals, shape g.nodes of.of.0) ≡ qualified p s → StopsWith g (Array of bound) e → e ≡ Memory
qualified_fits g t of bound q p s (TooBig u) w fit is there element stops =
    absurd (none_large g stops.arena w stops.is stops.grows (added_keeps g stops.arena (Array of bound) stops.number (added_as g stops.arena (Array of bound) stops.number stops.grows stops.adds))
    stops.number t u.0 of bound q p s fit stops.adds is there (ap (λ (x : Quals × Shape). x.1) element) stops.least)
qualified_fits g t of bound q p s Memory w fit is there element stops = refl

-- so none gets too big where qualifiers go down to the elements
pub qualified_stops : (old g : Graph) (t : ℕ) (from of : QualType) (bound : Option ℕ) (quals : Quals) (e : LayoutStop) → Grows old g → IsArena g → AllFit g → t < length old.nodes
    → shape old.nodes t ≡ ArrayType from.quals (shape old.nodes from.of.0) bound → of.of.0 < length g.nodes → (of.quals, shape g.nodes of.of.0) ≡ qualified (joined from.quals quals) (shape old.nodes from.of.0)
    → StopsWith g (Array of bound) e → e ≡ Memory
qualified_stops old g t from of bound quals e grows w fit below is there element stops =
    qualified_fits g t of bound from.quals (joined from.quals quals) (shape old.nodes from.of.0) e w fit (kept old g t grows below ∙ is) there element stops

-- the array is made behind parts of it
pub array_gains : (g h k : Graph) (of : QualType) (bound : Option ℕ) (t : ℕ) → GainsParts g h (shape h.nodes of.of.0) → Makes h k (ArrayType of.quals (shape h.nodes of.of.0) bound) t → GainsParts g k (shape k.nodes t)
array_gains g h k of bound t gains makes =
    with_parts g h k t (ArrayType of.quals (shape h.nodes of.of.0) bound) makes.grows makes.only makes.is (λ v past below. Element (shape h.nodes v) (shape h.nodes of.of.0) of.quals bound (gains.each v past below))
