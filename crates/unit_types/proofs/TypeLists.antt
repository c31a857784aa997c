-- Device: lists of types, one by one.
use Rattle.std.proofs.Common.{ℕ, zero, suc, ◌+◌, ◌<◌, ◌≤◌, List, [], ◌∷◌, length, drop, get_or, add-one, subst, arith}
use Rattle.cil_base.specs.declared.numbers.TypeId.{TypeId}
use Rattle.type_graph.specs.Arena.{EachType}

pub each_next : (n i : ℕ) (ts : List TypeId) (d : TypeId) → i < length ts → (get_or ts i d).0 < n → (EachType n (drop i ts) → EachType n ts) → EachType n (drop (i + 1) ts) → EachType n ts
each_next n i ts d less below all rest = all (at n i ts d less below (subst (λ k. EachType n (drop k ts)) (add-one i) rest))
  where
    at : (n i : ℕ) (ts : List TypeId) (d : TypeId) → i < length ts → (get_or ts i d).0 < n → EachType n (drop (suc i) ts) → EachType n (drop i ts)
    at n i [] d less below rest = absurd (omega arith)
    at n zero (t ∷ ts) d less below rest = (below, rest)
    at n (suc i) (t ∷ ts) d less below rest = at n i ts d (omega arith) below rest

pub each_end : (n i : ℕ) (ts : List TypeId) → length ts ≤ i → (EachType n (drop i ts) → EachType n ts) → EachType n ts
each_end n i ts h all = all (at n i ts h)
  where
    at : (n i : ℕ) (ts : List TypeId) → length ts ≤ i → EachType n (drop i ts)
    at n zero [] h = tt
    at n (suc i) [] h = tt
    at n zero (t ∷ ts) h = absurd (omega arith)
    at n (suc i) (t ∷ ts) h = at n i ts (omega arith)

each_at : (n i : ℕ) (ts : List TypeId) (d : TypeId) → i < length ts → EachType n ts → (get_or ts i d).0 < n
each_at n i [] d less each = absurd (omega arith)
each_at n zero (t ∷ ts) d less each = each.0
each_at n (suc i) (t ∷ ts) d less each = each_at n i ts d (omega arith) each.1

pub each_not : (n i : ℕ) (ts : List TypeId) (d : TypeId) → i < length ts → n ≤ (get_or ts i d).0 → EachType n ts → ⊥
each_not n i ts d less past each = absurd (omega (arith, each_at n i ts d less each, past))
