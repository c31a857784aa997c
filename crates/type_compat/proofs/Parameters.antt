-- Device: lists of the types of parameters.
use Rattle.std.proofs.Common.{◌≡◌, ◌≢◌, ℕ, zero, suc, ◌+◌, ◌-◌, ◌*◌, ◌<◌, ◌≤◌, max, Bool, true, false, ◌&&◌, List, [], ◌∷◌, length, get_or, drop, refl, sym, ap, ◌∙◌, subst, arith, add-one, drop-cons}
use Rattle.cil_base.specs.declared.numbers.TypeId.{TypeId}
use Rattle.type_graph.specs.declared.aggregates.Aggregate.{Aggregate}
use Rattle.type_graph.specs.Shapes.{Shape, shapes_of}
use Rattle.type_graph.specs.declared.nodes.Node.{Node}
use Rattle.type_graph.specs.declared.nodes.Node.TheVariants.{Func}
use Rattle.type_graph.specs.Arena.{EachType, NamesBelow}
use Rattle.type_compat.specs.Compatible.{compatible_shape, compatible_shapes, survives, all_survive}
use Rattle.type_compat.specs.Measure.{most}

pub each_at : (n : ℕ) (ts : List TypeId) (i : ℕ) (d : TypeId) → EachType n ts → i < length ts → (get_or ts i d).0 < n
each_at n [] i d h l = absurd (omega arith)
each_at n (t ∷ ts) zero d h l = h.0
each_at n (t ∷ ts) (suc i) d h l = each_at n ts i d h.1 (omega arith)

pub most_within : (n : ℕ) (ts : List TypeId) → EachType n ts → most ts ≤ n
most_within n [] h = omega arith
most_within n (t ∷ ts) h = let first : t.0 < n = h.0 in let rest : most ts ≤ n = most_within n ts h.1 in omega arith

pub most_at : (ts : List TypeId) (i : ℕ) (d : TypeId) → i < length ts → (get_or ts i d).0 < most ts
most_at [] i d h = absurd (omega arith)
most_at (t ∷ ts) zero d h = omega arith
most_at (t ∷ ts) (suc i) d h = let rest : (get_or ts i d).0 < most ts = most_at ts i d (omega arith) in omega arith

pub each_more : (n m : ℕ) (ts : List TypeId) → n ≤ m → EachType n ts → EachType m ts
each_more n m [] l h = tt
each_more n m (t ∷ ts) l h = let first : t.0 < n = h.0 in (omega arith, each_more n m ts l h.1)

pub func_names : (n m : ℕ) (x : Node) (ret : TypeId) (params : List TypeId) (proto variadic : Bool) → x ≡ Func proto variadic ret params → NamesBelow n m x → (ret.0 < n) × EachType n params
func_names n m x ret params proto variadic e h = subst (NamesBelow n m) e h

-- the measure of a function's parts is below that of the function
pub func_falls : (a : ℕ) (ret : TypeId) (params : List TypeId) → ret.0 < a → EachType a params → 4 * max (suc ret.0) (most params) - 1 < 4 * a
func_falls a ret params h e = let m : most params ≤ a = most_within a params e in omega arith

pub dropped : (ts : List TypeId) (i : ℕ) (d : TypeId) → i < length ts → drop i ts ≡ get_or ts i d ∷ drop (i + 1) ts
dropped ts i d h = rw (add-one, drop-cons ts i d) refl

-- the loop over parameters
pub params_next : (aggs : List Aggregate) (at : ℕ → Shape) (ps qs : List TypeId) (i : ℕ) (d e : TypeId) → i < length ps → i < length qs → compatible_shapes aggs (shapes_of at (drop i ps)) (shapes_of at (drop i qs)) ≡ (compatible_shape aggs (at (get_or ps i d).0) (at (get_or qs i e).0) && compatible_shapes aggs (shapes_of at (drop (i + 1) ps)) (shapes_of at (drop (i + 1) qs)))
params_next aggs at ps qs i d e h k =
    ap (λ (ts : List TypeId). compatible_shapes aggs (shapes_of at ts) (shapes_of at (drop i qs))) (dropped ps i d h)
    ∙ ap (λ (ts : List TypeId). compatible_shapes aggs (shapes_of at (get_or ps i d ∷ drop (i + 1) ps)) (shapes_of at ts)) (dropped qs i e k)

pub params_true : (aggs : List Aggregate) (at : ℕ → Shape) (ps qs : List TypeId) (i : ℕ) (d e : TypeId) (b whole : Bool) → i < length ps → length ps ≡ length qs → whole ≡ compatible_shapes aggs (shapes_of at (drop i ps)) (shapes_of at (drop i qs)) → b ≡ compatible_shape aggs (at (get_or ps i d).0) (at (get_or qs i e).0) → b ≡ true → whole ≡ compatible_shapes aggs (shapes_of at (drop (i + 1) ps)) (shapes_of at (drop (i + 1) qs))
params_true aggs at ps qs i d e b whole h l w is holds =
    w ∙ params_next aggs at ps qs i d e h (omega arith) ∙ ap (λ v. v && compatible_shapes aggs (shapes_of at (drop (i + 1) ps)) (shapes_of at (drop (i + 1) qs))) (sym is ∙ holds)

pub params_false : (aggs : List Aggregate) (at : ℕ → Shape) (ps qs : List TypeId) (i : ℕ) (d e : TypeId) (b whole : Bool) → i < length ps → length ps ≡ length qs → whole ≡ compatible_shapes aggs (shapes_of at (drop i ps)) (shapes_of at (drop i qs)) → b ≡ compatible_shape aggs (at (get_or ps i d).0) (at (get_or qs i e).0) → b ≡ false → false ≡ whole
params_false aggs at ps qs i d e b whole h l w is fails =
    sym (w ∙ params_next aggs at ps qs i d e h (omega arith) ∙ ap (λ v. v && compatible_shapes aggs (shapes_of at (drop (i + 1) ps)) (shapes_of at (drop (i + 1) qs))) (sym is ∙ fails))

pub drop-end : (ts : List TypeId) (i : ℕ) → length ts ≤ i → drop i ts ≡ []
drop-end [] zero h = refl
drop-end [] (suc i) h = refl
drop-end (t ∷ ts) zero h = absurd (omega arith)
drop-end (t ∷ ts) (suc i) h = drop-end ts i (omega arith)

pub params_end : (aggs : List Aggregate) (at : ℕ → Shape) (ps qs : List TypeId) (i : ℕ) (whole : Bool) → length ps ≤ i → length ps ≡ length qs → whole ≡ compatible_shapes aggs (shapes_of at (drop i ps)) (shapes_of at (drop i qs)) → true ≡ whole
params_end aggs at ps qs i whole h l w =
    sym (w ∙ ap (λ (ts : List TypeId). compatible_shapes aggs (shapes_of at ts) (shapes_of at (drop i qs))) (drop-end ps i h) ∙ ap (λ (ts : List TypeId). compatible_shapes aggs (shapes_of at []) (shapes_of at ts)) (drop-end qs i (omega arith)))

pub params_differ : (aggs : List Aggregate) (at : ℕ → Shape) (ps qs : List TypeId) → length ps ≢ length qs → false ≡ compatible_shapes aggs (shapes_of at ps) (shapes_of at qs)
params_differ aggs at [] [] h = absurd (h refl)
params_differ aggs at [] (q ∷ qs) h = refl
params_differ aggs at (p ∷ ps) [] h = refl
params_differ aggs at (p ∷ ps) (q ∷ qs) h = by (compatible_shape aggs (at p.0) (at q.0)) (params_differ aggs at ps qs (λ e. h (ap suc e)))
  where
    by : (b : Bool) → false ≡ compatible_shapes aggs (shapes_of at ps) (shapes_of at qs) → false ≡ (b && compatible_shapes aggs (shapes_of at ps) (shapes_of at qs))
    by true rest = rest
    by false rest = refl

pub survive_next : (at : ℕ → Shape) (ps : List TypeId) (i : ℕ) (d : TypeId) → i < length ps → all_survive (shapes_of at (drop i ps)) ≡ (survives (at (get_or ps i d).0) && all_survive (shapes_of at (drop (i + 1) ps)))
survive_next at ps i d h = ap (λ (ts : List TypeId). all_survive (shapes_of at ts)) (dropped ps i d h)
