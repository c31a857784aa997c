-- Device: types are mapped one by one.
use Rattle.std.proofs.Common.{◌≡◌, ℕ, zero, suc, ◌+◌, ◌<◌, ◌≤◌, Bool, true, false, nat_lt, ltb-false, List, [], ◌∷◌, ◌++◌, length, drop, take, get_or, slice_get, slice_index_or, Some, refl, sym, ap, ◌∙◌, subst, add-one, append_assoc, append-nil, length-append, ◌⊎◌, inl, inr, arith}
use borrow.Author.Tests.{ltb-true}
use Rattle.cil_base.specs.declared.numbers.TypeId.{TypeId}
use Rattle.type_graph.specs.declared.nodes.Node.{Node}
use Rattle.type_graph.specs.declared.nodes.Node.TheVariants.{Void, Int, Ptr, Array, Func, Agg}
use Rattle.type_graph.specs.Shapes.{Shape, Shapes, shape, shape_of, shapes_of, PtrType, ArrayType, FuncType, MoreTypes}
use Rattle.type_graph.specs.Arena.{Graph, NamesBelow, EachType}
use Rattle.type_graph.specs.Growth.{Grows, KeepsAggregates, GainsOnly}
use Rattle.type_graph.proofs.Lists.{get_push, get_stays, get_at_end}
use Rattle.type_graph.proofs.GrowthLaws.{grows_twice}
use Rattle.type_graph.proofs.ShapeLaws.{kept}
use Rattle.map_graph.specs.Mapped.{kept_quals, mapped_shape, mapped_shapes, Maps, GainsMapped}
use Rattle.map_graph.specs.Steps.{type_in, at_places, node_mapped, Gives, IsMapping}

none_mapped : (g h : Graph) (f : ℕ → ℕ) (keep : Bool) → Maps g h f keep []
none_mapped g h f keep = record { each = λ t u e. cc }

-- one of types that are all below a number
pub each_at : (n i : ℕ) (ts : List TypeId) (d : TypeId) → i < length ts → EachType n ts → (get_or ts i d).0 < n
each_at n i [] d h each = absurd (omega arith)
each_at n zero (t ∷ ts) d h each = each.0
each_at n (suc i) (t ∷ ts) d h each = each_at n i ts d (omega arith) each.1

places_at : (types ps : List TypeId) (i : ℕ) (d : TypeId) → i < length ps → at_places types (drop i ps) ≡ slice_index_or types (get_or ps i d).0 (record { 0 = 0 }) ∷ at_places types (drop (suc i) ps)
places_at types [] i d h = absurd (omega arith)
places_at types (p ∷ ps) zero d h = refl
places_at types (p ∷ ps) (suc i) d h = places_at types ps i d (omega arith)

pub places_next : (types ps done : List TypeId) (i : ℕ) (d : TypeId) → i < length ps → done ++ at_places types (drop i ps) ≡ at_places types ps
    → (done ++ slice_index_or types (get_or ps i d).0 (record { 0 = 0 }) ∷ []) ++ at_places types (drop (i + 1) ps) ≡ at_places types ps
places_next types ps done i d h inv =
    append_assoc done (slice_index_or types (get_or ps i d).0 (record { 0 = 0 }) ∷ []) (at_places types (drop (i + 1) ps))
    ∙ ap (λ k. done ++ slice_index_or types (get_or ps i d).0 (record { 0 = 0 }) ∷ at_places types (drop k ps)) (add-one i)
    ∙ ap (λ more. done ++ more) (sym (places_at types ps i d h)) ∙ inv

places_none : (types ps : List TypeId) (i : ℕ) → length ps ≤ i → at_places types (drop i ps) ≡ []
places_none types [] zero h = refl
places_none types [] (suc i) h = refl
places_none types (p ∷ ps) zero h = absurd (omega arith)
places_none types (p ∷ ps) (suc i) h = places_none types ps i (omega arith)

pub places_end : (types ps done : List TypeId) (i : ℕ) → length ps ≤ i → done ++ at_places types (drop i ps) ≡ at_places types ps → done ≡ at_places types ps
places_end types ps done i h inv = sym (append-nil done) ∙ ap (λ more. done ++ more) (sym (places_none types ps i h)) ∙ inv

pub type_there : (n k : ℕ) (types : List TypeId) → k < length types → EachType n types → type_in types k < n
type_there n k [] h each = absurd (omega arith)
type_there n zero (t ∷ ts) h each = each.0
type_there n (suc k) (t ∷ ts) h each = type_there n k ts (omega arith) each.1

pub places_there : (n : ℕ) (types ps : List TypeId) → EachType (length types) ps → EachType n types → EachType n (at_places types ps)
places_there n types [] each there = tt
places_there n types (p ∷ ps) each there = (type_there n p.0 types each.0 there, places_there n types ps each.1 there)

type_found : (types : List TypeId) (k : ℕ) → k < length types → slice_get types k ≡ Some (slice_index_or types k (record { 0 = 0 }))
type_found [] k h = absurd (omega arith)
type_found (t ∷ ts) zero h = refl
type_found (t ∷ ts) (suc k) h = type_found ts k (omega arith)

-- a part that stands in the table has the mapped shape
part_mapped : (g h : Graph) (f : ℕ → ℕ) (keep : Bool) (types : List TypeId) (k : ℕ) → Maps g h f keep types → k < length types → shape h.nodes (type_in types k) ≡ mapped_shape f keep (shape g.nodes k)
part_mapped g h f keep types k maps below = (maps.each k _ (type_found types k below)).1

parts_mapped : (g h : Graph) (f : ℕ → ℕ) (keep : Bool) (types ps : List TypeId) → Maps g h f keep types → EachType (length types) ps → shapes_of (shape h.nodes) (at_places types ps) ≡ mapped_shapes f keep (shapes_of (shape g.nodes) ps)
parts_mapped g h f keep types [] maps each = refl
parts_mapped g h f keep types (p ∷ ps) maps each =
    ap (λ s. MoreTypes s (shapes_of (shape h.nodes) (at_places types ps))) (part_mapped g h f keep types p.0 maps each.0)
    ∙ ap (MoreTypes (mapped_shape f keep (shape g.nodes p.0))) (parts_mapped g h f keep types ps maps each.1)

-- a node whose parts are mapped has the mapped shape
pub node_is_mapped : (g h : Graph) (f : ℕ → ℕ) (keep : Bool) (types : List TypeId) (m : ℕ) (n : Node) → Maps g h f keep types → NamesBelow (length types) m n → node_mapped h types f keep n ≡ mapped_shape f keep (shape_of (shape g.nodes) n)
node_is_mapped g h f keep types m Void maps below = refl
node_is_mapped g h f keep types m (Int kind) maps below = refl
node_is_mapped g h f keep types m (Ptr q) maps below = ap (PtrType (kept_quals keep q.quals)) (part_mapped g h f keep types q.of.0 maps below)
node_is_mapped g h f keep types m (Array q bound) maps below = ap (λ s. ArrayType (kept_quals keep q.quals) s bound) (part_mapped g h f keep types q.of.0 maps below)
node_is_mapped g h f keep types m (Func proto variadic ret params) maps below =
    ap (λ s. FuncType s (shapes_of (shape h.nodes) (at_places types params)) proto variadic) (part_mapped g h f keep types ret.0 maps below.0)
    ∙ ap (λ ss. FuncType (mapped_shape f keep (shape g.nodes ret.0)) ss proto variadic) (parts_mapped g h f keep types params maps below.1)
node_is_mapped g h f keep types m (Agg a) maps below = refl

longer : (g h : Graph) → Grows g h → length g.nodes ≤ length h.nodes
longer g h grows = omega (arith, ap length grows.nodes.1, length-append g.nodes grows.nodes.0)

-- one more type is in the table
gains_next : (old h k : Graph) (types : List TypeId) (u : TypeId) → GainsMapped old h types → GainsOnly h k u.0 → GainsMapped old k (types ++ u ∷ [])
gains_next old h k types u gains only = record { each = λ v past below. by v past below (nat_lt v (length h.nodes)) refl }
  where
    by : (v : ℕ) → length old.nodes ≤ v → v < length k.nodes → (b : Bool) → nat_lt v (length h.nodes) ≡ b → (t : ℕ) × (slice_get (types ++ u ∷ []) t ≡ Some (record { 0 = v }))
    by v past below true known =
        let t = gains.each v past (ltb-true _ _ known) in
        (t.0, get_stays types (u ∷ []) t.0 _ t.1)
    by v past below false new =
        (length types, subst (λ (x : ℕ). slice_get (types ++ u ∷ []) (length types) ≡ Some (record { 0 = x })) (sym (only.only v (ltb-false _ _ new) below)) (get_at_end types u))

pub none_gained : (g : Graph) → GainsMapped g g []
none_gained g = record { each = λ v past below. absurd (omega (arith, past, below)) }

each_longer : (n m : ℕ) (ts : List TypeId) (u : TypeId) → n ≤ m → EachType n ts → u.0 < m → EachType m (ts ++ u ∷ [])
each_longer n m [] u le each below = (below, tt)
each_longer n m (t ∷ ts) u le each below = (omega (arith, each.0, le), each_longer n m ts u le each.1 below)

-- one more type is mapped
pub mapping_next : (g old h k : Graph) (f : ℕ → ℕ) (keep : Bool) (types new : List TypeId) (t m : ℕ) (n : Node) (u : TypeId) → IsMapping g old h f keep types t → Grows h k → KeepsAggregates h k
    → shape g.nodes t ≡ shape_of (shape g.nodes) n → NamesBelow t m n → Gives k (node_mapped h types f keep n) u.0 → GainsOnly h k u.0 → new ≡ types ++ u ∷ [] → IsMapping g old k f keep new (t + 1)
mapping_next g old h k f keep types new t m n u mapping grows aggregates is below gives only pushed = subst (λ (ts : List TypeId). IsMapping g old k f keep ts (t + 1)) (sym pushed) (record {
  so_many = length-append types (u ∷ []) ∙ ap (λ i. i + 1) mapping.so_many;
  maps = record { each = λ i x e. at i x (get_push types u i x e) };
  gains = gains_next old h k types u mapping.gains only;
  there = each_longer (length h.nodes) (length k.nodes) types u (longer h k grows) mapping.there gives.there;
  grows = grows_twice old h k mapping.grows grows;
  aggregates = (aggregates.0 ∙ mapping.aggregates.0, aggregates.1 ∙ mapping.aggregates.1);
})
  where
    at : (i : ℕ) (x : TypeId) → (slice_get types i ≡ Some x) ⊎ ((i ≡ length types) × (u ≡ x)) → (x.0 < length k.nodes) × (shape k.nodes x.0 ≡ mapped_shape f keep (shape g.nodes i))
    at i x (inl there) =
        let one = mapping.maps.each i x there in
        (omega (arith, one.0, longer h k grows), kept h k x.0 grows one.0 ∙ one.1)
    at i x (inr here) =
        let below_types : NamesBelow (length types) m n = subst (λ j. NamesBelow j m n) (sym mapping.so_many) below in
        let place : i ≡ t = here.0 ∙ mapping.so_many in
        let same : shape k.nodes u.0 ≡ mapped_shape f keep (shape g.nodes i) =
        gives.is ∙ node_is_mapped g h f keep types m n mapping.maps below_types ∙ ap (mapped_shape f keep) (sym is ∙ ap (shape g.nodes) (sym place)) in
        subst (λ (y : TypeId). (y.0 < length k.nodes) × (shape k.nodes y.0 ≡ mapped_shape f keep (shape g.nodes i))) here.1 (gives.there, same)
