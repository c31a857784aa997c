-- Device: each type of a well-formed program can be spelled.
use Rattle.std.proofs.Common.{◌≡◌, ℕ, suc, zero, ◌*◌, ◌^◌, ◌<◌, ◌≤◌, ◌&&◌, ◌||◌, not, nat_lt, Bool, true, false, List, [], ◌∷◌, length, Option, Some, None, is_some, slice_get, refl, sym, ap, ◌∙◌, subst, arith, ltb-true}
use Rattle.std.specs.List.{list_all}
use Rattle.std.specs.Option.{option_map}
use Rattle.std.proofs.Math.Nat.{le-mul_of_pos_right}
use Rattle.std.proofs.lemmas.Option.{slice_get-map}
use Rattle.cil_base.specs.declared.numbers.TypeId.{TypeId}
use Rattle.type_graph.specs.declared.aggregates.Member.{Member}
use Rattle.type_graph.specs.declared.nodes.Quals.{Quals}
use Rattle.type_graph.specs.declared.nodes.QualType.{QualType}
use Rattle.type_graph.specs.declared.nodes.Node.{Node}
use Rattle.type_graph.specs.declared.nodes.Node.TheVariants.{Void, Int, Ptr, Array, Func, Agg}
use Rattle.type_graph.specs.Shapes.{ArrayType, FuncType, shapes_of, shape_of, shape}
use Rattle.type_graph.specs.Arena.{Graph, EachType, NamesBelow, IsArena, complete, complete_shape, members_fit, is_struct}
use Rattle.type_graph.specs.Layouts.{layout, layout_in, whole_of, agg_layout, array_of}
use Rattle.type_graph.proofs.ShapeLaws.{shape_is, shape_past}
use Rattle.type_graph.proofs.LayoutLaws.{layout_there}
use Rattle.cil_tree.specs.Tree.{Program}
use Rattle.cil_tree.specs.Typing.{unqualified}
use Rattle.cil_tree.specs.WellFormedTypes.{is_unqualified, node_is_unqualified, has_member, is_nonempty, bound_fits, array_fits, are_parameters, is_result, function_fits, prototype_fits, AreTypes}
use Rattle.cil_tree.specs.Names.{is_plain_name, are_different, tags, member_names, members_are_named, AreNames}
use Rattle.cil_tree.specs.Declarators.{tag_text}
use Rattle.cil_text.proofs.WordsBack.{both, denied}
use Rattle.cil_text.proofs.TypesBack.{IsTagged, IsShape, AreShapes}
use Rattle.cil_text.proofs.NamesThere.{all_get, found, plain_is_name}
use Rattle.cil_text.proofs.Positive.{HasBounds, HasFirst, positive_in, whole_is_positive}

pub get_there : {A : Type 0} (xs : List A) (n : ℕ) → n < length xs → (x : A) × (slice_get xs n ≡ Some x)
get_there [] n small = absurd (omega arith)
get_there (x ∷ xs) zero small = (x, refl)
get_there (x ∷ xs) (suc n) small = get_there xs n (omega arith)

no_quals : (q : Quals) → is_unqualified q ≡ true → q ≡ unqualified
no_quals q e =
    let h = both (not q.constant) (not q.restricted) e in
    ap (λ (b : Bool). record q { constant = b }) (denied q.constant h.0) ∙ ap (λ (b : Bool). record unqualified { restricted = b }) (denied q.restricted h.1)

-- bounds of arrays are at least 1

bounds_below : (g : Graph) → IsArena g → AreTypes g → (m t : ℕ) → t < m → t < length g.nodes → HasBounds (shape g.nodes t)
bounds_below g arena types zero t low small = absurd (omega arith)
bounds_below g arena types (suc m) t low small =
    let n = get_there g.nodes t small in
    subst HasBounds (sym (shape_is g.nodes t (length g.aggs) n.0 n.1 (arena.grounded t n.0 n.1))) (by n.0 n.1 (arena.grounded t n.0 n.1) (λ k less. bounds_below g arena types m k (omega arith) (omega arith)))
  where
    by : (n : Node) → slice_get g.nodes t ≡ Some n → NamesBelow t (length g.aggs) n → ((k : ℕ) → k < t → HasBounds (shape g.nodes k)) → HasBounds (shape_of (shape g.nodes) n)
    by Void e grounded below = tt
    by (Int k) e grounded below = tt
    by (Ptr q) e grounded below = tt
    by (Array q None) e grounded below = below q.of.0 grounded
    by (Array q (Some n)) e grounded below =
        let h = both (complete_shape g.aggs (shape g.nodes q.of.0)) (bound_fits (Some n)) (all_get (array_fits g) g.nodes t (Array q (Some n)) types.fit.arrays e) in
        (ltb-true 0 n h.1, below q.of.0 grounded)
    by (Func proto variadic ret params) e grounded below = tt
    by (Agg a) e grounded below = tt

bounds_there : (g : Graph) → IsArena g → AreTypes g → (t : ℕ) → HasBounds (shape g.nodes t)
bounds_there g arena types t = by (nat_lt t (length g.nodes)) refl
  where
    by : (b : Bool) → nat_lt t (length g.nodes) ≡ b → HasBounds (shape g.nodes t)
    by true e = bounds_below g arena types (suc t) t (omega arith) (ltb-true t (length g.nodes) e)
    by false e = subst HasBounds (sym (shape_past g.nodes t (not_less t (length g.nodes) e))) tt
      where
        not_less : (m n : ℕ) → nat_lt m n ≡ false → n ≤ m
        not_less m n f = grind arith

-- the first member is complete

first_there : (g : Graph) → IsArena g → AreTypes g → HasFirst g
first_there g arena types a x [] e f =
    let h = all_get has_member g.aggs a x types.fit.members e in
    absurd (cc (sym (ap (λ (o : Option (List Member)). elim o as (λ _. Bool) [ None ↦ true | Some ms ↦ is_nonempty ms ]) f) ∙ h))
first_there g arena types a x (m ∷ ms) e f =
    let fit : members_fit g x.kind false (m ∷ ms) ≡ true = arena.fitting a x (m ∷ ms) e f in
    (m, ms, refl, by (complete g m.ty.of.0) (is_struct x.kind) (both _ (members_fit g x.kind true ms) fit).0, bounds_there g arena types m.ty.of.0)
  where
    by : (b c : Bool) → b || (c && false) ≡ true → b ≡ true
    by true c h = refl
    by false true h = h
    by false false h = h

-- the bound of an array is no greater than its size
bound_small : (p : Program) → IsArena p.graph → AreTypes p.graph → (t : ℕ) (q : QualType) (n : ℕ) → slice_get p.graph.nodes t ≡ Some (Array q (Some n)) → n < 2 ^ 64
bound_small p arena types t q n e =
    let g = p.graph in
    let f = λ (b : ℕ). whole_of (agg_layout g b) in
    let s = shape g.nodes q.of.0 in
    let fit = both (complete_shape g.aggs s) (bound_fits (Some n)) (all_get (array_fits g) g.nodes t (Array q (Some n)) types.fit.arrays e) in
    let l = some_there (layout g q.of.0) (layout_there g arena q.of.0 ∙ fit.0) in
    let positive : 0 < l.0.size = positive_in g.abi f s (λ b x h. whole_is_positive g (first_there g arena types) b x h) (bounds_there g arena types q.of.0) l.0 l.1 in
    let shape_of_it : shape g.nodes t ≡ ArrayType q.quals s (Some n) = shape_is g.nodes t (length g.aggs) (Array q (Some n)) e (arena.grounded t (Array q (Some n)) e) in
    let whole : layout g t ≡ Some (array_of n l.0) = ap (layout_in g.abi f) shape_of_it ∙ ap (option_map (array_of n)) l.1 in
    let small : n * l.0.size ≤ 2147483647 = types.fit.small t (array_of n l.0) whole in
    omega (arith, small, le-mul_of_pos_right n positive)
  where
    some_there : {A : Type 0} (o : Option A) → is_some o ≡ true → (x : A) × (o ≡ Some x)
    some_there None h = absurd (cc h)
    some_there (Some x) h = (x, refl)

-- an aggregate is found by its tag
pub tagged_there : (p : Program) → AreNames p → (a : ℕ) → a < length p.graph.aggs → IsTagged p a
tagged_there p names a small =
    let x = get_there p.graph.aggs a small in
    let h = all_get (members_are_named p) p.graph.aggs a x.0 names.members x.1 in (
      x.0,
      x.1,
      plain_is_name (tag_text p x.0) (both (is_plain_name (tag_text p x.0)) (list_all is_plain_name (member_names p x.0) && are_different (member_names p x.0)) h).0,
      found (tags p) a (tag_text p x.0) names.tags (slice_get-map (tag_text p) p.graph.aggs a ∙ ap (option_map (tag_text p)) x.1),
    )

shapes_each : (p : Program) (n : ℕ) (ts : List TypeId) → EachType n ts → ((k : ℕ) → k < n → IsShape p (shape p.graph.nodes k)) → AreShapes p (shapes_of (shape p.graph.nodes) ts)
shapes_each p n [] each below = tt
shapes_each p n (t ∷ ts) each below = (below t.0 each.0, shapes_each p n ts each.1 below)

shapes_below : (p : Program) → IsArena p.graph → AreTypes p.graph → AreNames p → (m t : ℕ) → t < m → t < length p.graph.nodes → IsShape p (shape p.graph.nodes t)
shapes_below p arena types names zero t low small = absurd (omega arith)
shapes_below p arena types names (suc m) t low small =
    let n = get_there p.graph.nodes t small in
    let same = shape_is p.graph.nodes t (length p.graph.aggs) n.0 n.1 (arena.grounded t n.0 n.1) in
    subst (IsShape p) (sym same)
    (by n.0 n.1 (arena.grounded t n.0 n.1) same (λ k less. shapes_below p arena types names m k (omega arith) (omega arith)))
  where
    by : (n : Node) → slice_get p.graph.nodes t ≡ Some n → NamesBelow t (length p.graph.aggs) n → shape p.graph.nodes t ≡ shape_of (shape p.graph.nodes) n → ((k : ℕ) → k < t → IsShape p (shape p.graph.nodes k)) → IsShape p (shape_of (shape p.graph.nodes) n)
    by Void e grounded same below = tt
    by (Int k) e grounded same below = arena.kinds t (Int k) e
    by (Ptr q) e grounded same below = (no_quals q.quals (all_get node_is_unqualified p.graph.nodes t (Ptr q) types.fit.unqualified e), below q.of.0 grounded)
    by (Array q None) e grounded same below = (no_quals q.quals (all_get node_is_unqualified p.graph.nodes t (Array q None) types.fit.unqualified e), tt, below q.of.0 grounded)
    by (Array q (Some n)) e grounded same below = (no_quals q.quals (all_get node_is_unqualified p.graph.nodes t (Array q (Some n)) types.fit.unqualified e), bound_small p arena types t q n e, below q.of.0 grounded)
    by (Func proto variadic ret params) e grounded same below =
        let f = FuncType (shape p.graph.nodes ret.0) (shapes_of (shape p.graph.nodes) params) proto variadic in
        let fit : function_fits f ≡ true = ap function_fits (sym same) ∙ types.fit.functions t small in (
          below ret.0 grounded.0,
          shapes_each p t params grounded.1 below,
          (both (is_result (shape p.graph.nodes ret.0)) (are_parameters (shapes_of (shape p.graph.nodes) params)) fit).1,
          ap prototype_fits (sym same) ∙ types.fit.prototypes t small,
        )
    by (Agg a) e grounded same below = tagged_there p names a.0 grounded

pub shape_there : (p : Program) → IsArena p.graph → AreTypes p.graph → AreNames p → (t : ℕ) → IsShape p (shape p.graph.nodes t)
shape_there p arena types names t = by (nat_lt t (length p.graph.nodes)) refl
  where
    by : (b : Bool) → nat_lt t (length p.graph.nodes) ≡ b → IsShape p (shape p.graph.nodes t)
    by true e = shapes_below p arena types names (suc t) t (omega arith) (ltb-true t (length p.graph.nodes) e)
    by false e = subst (IsShape p) (sym (shape_past p.graph.nodes t (not_less t (length p.graph.nodes) e))) tt
      where
        not_less : (m n : ℕ) → nat_lt m n ≡ false → n ≤ m
        not_less m n f = grind arith
