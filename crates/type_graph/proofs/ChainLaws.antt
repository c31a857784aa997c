-- Device: chains of nodes: what stands at their ends, and how a node goes into its chain.
use Rattle.std.proofs.Common.{◌≡◌, ◌≢◌, ℕ, zero, suc, ◌+◌, ◌-◌, ◌*◌, ◌%◌, ◌<◌, ◌≤◌, Bool, true, false, cond, eqb, eqb-true, eq-eqb, List, [], ◌∷◌, ◌++◌, length, replicate, get_or, slice_get, Option, Some, None, ◌⊎◌, inl, inr, refl, sym, ap, ◌∙◌, subst, true≢false, arith, length-append}
use Rattle.std.proofs.Math.ListN.{set, length-set}
use Rattle.std.proofs.lemmas.Option.{slice_get_within, slice_get_read}
use Rattle.type_graph.specs.declared.nodes.Node.{Node}
use Rattle.type_graph.specs.declared.chains.Chains.{Chains}
use Rattle.type_graph.specs.Linked.{node_hash, chain_at, chain_end, IsLinked, IsChained, HadRoom, IsAhead}
use Rattle.type_graph.specs.contracts.nodes.NodePartialEq.TheImpl.{ghosts}
use Rattle.type_graph.proofs.NodeEquality.{eq_same}
use Rattle.type_graph.proofs.Lists.{get_stays, get_there, get_set_same, get_set_other}

-- a place of the chain is before its end
end_behind : (at : ℕ → ℕ) (b k t : ℕ) → t < k → at t ≡ b → t < chain_end at b k
end_behind at b zero t h e = absurd (omega arith)
end_behind at b (suc k) t h e = by (eqb (at k) b) refl (end_behind at b k t)
  where
    by : (c : Bool) → eqb (at k) b ≡ c → (t < k → at t ≡ b → t < chain_end at b k) → t < cond c (suc k) (chain_end at b k)
    by true q f = h
    by false q f = other (eqb t k) refl
      where
        other : (d : Bool) → eqb t k ≡ d → t < chain_end at b k
        other true p = absurd (true≢false (sym (eq-eqb (at k) b (ap at (sym (eqb-true t k p)) ∙ e)) ∙ q))
        other false p = f (omega (arith, λ (same : t ≡ k). true≢false (sym (eq-eqb t k same) ∙ p))) e

end_within : (at : ℕ → ℕ) (b k : ℕ) → chain_end at b k ≤ k
end_within at b zero = omega arith
end_within at b (suc k) = by (eqb (at k) b) (end_within at b k)
  where
    by : (c : Bool) → chain_end at b k ≤ k → cond c (suc k) (chain_end at b k) ≤ suc k
    by true h = omega arith
    by false h = omega arith

-- the last place of a chain is of the chain
end_is : (at : ℕ → ℕ) (b k : ℕ) → (chain_end at b k ≡ 0) ⊎ (at (chain_end at b k - 1) ≡ b)
end_is at b zero = inl refl
end_is at b (suc k) = by (eqb (at k) b) refl (end_is at b k)
  where
    by : (c : Bool) → eqb (at k) b ≡ c → (chain_end at b k ≡ 0) ⊎ (at (chain_end at b k - 1) ≡ b) → (cond c (suc k) (chain_end at b k) ≡ 0) ⊎ (at (cond c (suc k) (chain_end at b k) - 1) ≡ b)
    by true q f = inr (ap at (let p : suc k - 1 ≡ k = omega arith in p) ∙ eqb-true (at k) b q)
    by false q f = f

-- an end depends on the places before it alone
end_same : (at by : ℕ → ℕ) (b k : ℕ) → ((t : ℕ) → t < k → at t ≡ by t) → chain_end at b k ≡ chain_end by b k
end_same at by b zero h = refl
end_same at by b (suc k) h =
    ap (λ a. cond (eqb a b) (suc k) (chain_end at b k)) (h k (omega arith))
    ∙ ap (cond (eqb (by k) b) (suc k)) (end_same at by b k (λ t l. h t (omega arith)))

chain_of_node : (count : ℕ) (nodes : List Node) (t : ℕ) (n : Node) → slice_get nodes t ≡ Some n → chain_at count nodes t ≡ node_hash n % count
chain_of_node count nodes t n e = ap (λ (o : Option Node). elim o [ None ↦ 0 | Some x ↦ node_hash x % count ]) e

chain_stays : (count : ℕ) (nodes more : List Node) (t : ℕ) → t < length nodes → chain_at count nodes t ≡ chain_at count (nodes ++ more) t
chain_stays count nodes more t h =
    let x = get_there nodes t h in
    chain_of_node count nodes t x.0 x.1 ∙ sym (chain_of_node count (nodes ++ more) t x.0 (get_stays nodes more t x.0 x.1))

-- chains of the first nodes are chains of them when more nodes follow
pub linked_more : (nodes more : List Node) (before ends : List ℕ) (k : ℕ) → k ≤ length nodes → IsLinked nodes before ends k → IsLinked (nodes ++ more) before ends k
linked_more nodes more before ends k within l = record {
  last = λ b h. l.last b h ∙ ap Some (end_same (chain_at (length ends) nodes) (chain_at (length ends) (nodes ++ more)) b k (λ t j. chain_stays (length ends) nodes more t (omega arith)));
  each = λ t h. l.each t h ∙ ap Some (end_same (chain_at (length ends) nodes) (chain_at (length ends) (nodes ++ more)) (chain_at (length ends) nodes t) t (λ s j. chain_stays (length ends) nodes more s (omega arith)) ∙ ap (λ a. chain_end (chain_at (length ends) (nodes ++ more)) a t) (chain_stays (length ends) nodes more t (omega arith)));
}

get_replicate : (n k : ℕ) → k < n → slice_get {X = ℕ} (replicate n 0) k ≡ Some 0
get_replicate zero k h = absurd (omega arith)
get_replicate (suc n) zero h = refl
get_replicate (suc n) (suc k) h = get_replicate n k (omega arith)

-- empty chains are those of no nodes
pub linked_none : (nodes : List Node) (before ends : List ℕ) (count : ℕ) → ends ≡ replicate count 0 → IsLinked nodes before ends 0
linked_none nodes before ends count e = record {
  last = λ b h. ap (λ (es : List ℕ). slice_get es b) e ∙ get_replicate count b (omega (arith, ap (λ (es : List ℕ). length es) e, length_replicate count));
  each = λ t h. absurd (omega arith);
}
  where
    length_replicate : (n : ℕ) → length (let xs : List ℕ = replicate n 0 in xs) ≡ n
    length_replicate zero = refl
    length_replicate (suc n) = ap suc (length_replicate n)

same_some : (m n : ℕ) (o : Option ℕ) → o ≡ Some m → o ≡ Some n → m ≡ n
same_some m n o e q = let p : Some m ≡ Some n = sym e ∙ q in cc

-- the next node goes to the end of its chain
pub linked_next : (nodes : List Node) (before ends : List ℕ) (k b e : ℕ) (n : Node) → IsLinked nodes before ends k → slice_get nodes k ≡ Some n → b ≡ node_hash n % length ends → b < length ends → k < length before → slice_get ends b ≡ Some e → IsLinked nodes (set before k e) (set ends b (suc k)) (suc k)
linked_next nodes before ends k b e n l is chain within room end = record { last = ends_are; each = before_are }
  where
    at : ℕ → ℕ
    at = chain_at (length ends) nodes

    here : chain_at (length ends) nodes k ≡ b
    here = chain_of_node (length ends) nodes k n is ∙ sym chain

    old : (t : ℕ) → t < length before → (x : ℕ) × (slice_get before t ≡ Some x)
    old t h = get_there before t h

    end_at : (c : ℕ) → c < length ends → (d : Bool) → eqb (chain_at (length ends) nodes k) c ≡ d → slice_get (set ends b (suc k)) c ≡ Some (cond d (suc k) (chain_end (chain_at (length ends) nodes) c k))
    end_at c h true q =
        let same : c ≡ b = sym (eqb-true (chain_at (length ends) nodes k) c q) ∙ here in
        ap (slice_get (set ends b (suc k))) same ∙ get_set_same ends b e (suc k) end
    end_at c h false q = get_set_other ends b c (suc k) (λ same. true≢false (sym (eq-eqb (chain_at (length ends) nodes k) c (here ∙ sym same)) ∙ q)) ∙ l.last c h

    ends_are : (c : ℕ) → c < length (set ends b (suc k)) → slice_get (set ends b (suc k)) c ≡ Some (chain_end (chain_at (length (set ends b (suc k))) nodes) c (suc k))
    ends_are c h =
        subst (λ m. slice_get (set ends b (suc k)) c ≡ Some (chain_end (chain_at m nodes) c (suc k))) (sym (length-set ends b (suc k)))
        (end_at c (omega (arith, length-set ends b (suc k))) (eqb (chain_at (length ends) nodes k) c) refl)

    before_at : (t : ℕ) → t < suc k → (d : Bool) → eqb t k ≡ d → slice_get (set before k e) t ≡ Some (chain_end (chain_at (length ends) nodes) (chain_at (length ends) nodes t) t)
    before_at t h true q =
        let same : t ≡ k = eqb-true t k q in
        let x = get_there before k room in
        ap (slice_get (set before k e)) same ∙ get_set_same before k x.0 e x.1
        ∙ ap Some (same_some e (chain_end (chain_at (length ends) nodes) b k) (slice_get ends b) end (l.last b within))
        ∙ ap (λ c. Some (chain_end (chain_at (length ends) nodes) c k)) (sym here)
        ∙ ap (λ s. Some (chain_end (chain_at (length ends) nodes) (chain_at (length ends) nodes s) s)) (sym same)
    before_at t h false q =
        let other : t ≢ k = λ same. true≢false (sym (eq-eqb t k same) ∙ q) in
        get_set_other before k t e other ∙ l.each t (omega (arith, other))

    before_are : (t : ℕ) → t < suc k → slice_get (set before k e) t ≡ Some (chain_end (chain_at (length (set ends b (suc k))) nodes) (chain_at (length (set ends b (suc k))) nodes t) t)
    before_are t h =
        subst (λ m. slice_get (set before k e) t ≡ Some (chain_end (chain_at m nodes) (chain_at m nodes t) t)) (sym (length-set ends b (suc k)))
        (before_at t h (eqb t k) refl)

-- a node is looked for from the end of its chain on
pub ahead_start : (c : Chains) (nodes : List Node) (b e : ℕ) (n : Node) → IsChained c nodes → b ≡ node_hash n % length c.ends.items → b < length c.ends.items → slice_get c.ends.items b ≡ Some e → IsAhead nodes (length c.ends.items) b n e
ahead_start c nodes b e n h chain within end =
    let is : e ≡ chain_end (chain_at (length c.ends.items) nodes) b (length nodes) = same_some e _ (slice_get c.ends.items b) end (h.linked.last b within) in
    subst (λ m. IsAhead nodes (length c.ends.items) b n m) (sym is) (record {
      within = end_within (chain_at (length c.ends.items) nodes) b (length nodes);
      chain = end_is (chain_at (length c.ends.items) nodes) b (length nodes);
      rest = λ s q. end_behind (chain_at (length c.ends.items) nodes) b (length nodes) s (slice_get_within nodes s n q) (chain_of_node (length c.ends.items) nodes s n q ∙ sym chain);
    })

pub ahead_first : (c : Chains) (nodes : List Node) (b e count : ℕ) (n : Node) → IsChained c nodes → count ≡ length c.ends.items → b ≡ node_hash n % count → b < count → slice_get c.ends.items b ≡ Some e → IsAhead nodes (length c.ends.items) (node_hash n % length c.ends.items) n e
ahead_first c nodes b e count n h q chain within end =
    let p : b ≡ node_hash n % length c.ends.items = chain ∙ ap (λ m. node_hash n % m) q in
    ahead_start c nodes (node_hash n % length c.ends.items) e n h refl (subst (λ m. m < length c.ends.items) p (subst (λ m. b < m) q within)) (ap (slice_get c.ends.items) (sym p) ∙ end)

-- and from there along what stands before each place
pub ahead_next : (c : Chains) (nodes : List Node) (b end i e : ℕ) (n x : Node) → IsChained c nodes → b ≡ node_hash n % length c.ends.items → IsAhead nodes (length c.ends.items) b n end → suc i ≡ end → slice_get nodes i ≡ Some x → (x ≡ n → ⊥) → slice_get c.before.items i ≡ Some e → IsAhead nodes (length c.ends.items) b n e × (e < end)
ahead_next c nodes b end i e n x h chain a next is other before = (
  subst (λ m. IsAhead nodes (length c.ends.items) b n m) (sym less) (record {
    within = omega (arith, end_within at b i, inside);
    chain = end_is at b i;
    rest = λ s q. end_behind at b i s (omega (arith, a.rest s q, next, apart s q)) (chain_of_node (length c.ends.items) nodes s n q ∙ sym chain);
  }),
  omega (arith, less, end_within at b i, next),
)
  where
    at : ℕ → ℕ
    at = chain_at (length c.ends.items) nodes

    inside : i < length nodes
    inside = slice_get_within nodes i x is

    here : chain_at (length c.ends.items) nodes i ≡ b
    here = elim a.chain [ inl z ↦ absurd (omega (arith, z, next)) | inr q ↦ ap (chain_at (length c.ends.items) nodes) (let p : i ≡ end - 1 = omega (arith, next) in p) ∙ q ]

    less : e ≡ chain_end (chain_at (length c.ends.items) nodes) b i
    less = same_some e _ (slice_get c.before.items i) before (h.linked.each i inside) ∙ ap (λ d. chain_end (chain_at (length c.ends.items) nodes) d i) here

    apart : (s : ℕ) → slice_get nodes s ≡ Some n → s ≢ i
    apart s q same = other (let p : Some x ≡ Some n = sym is ∙ ap (slice_get nodes) (sym same) ∙ q in cc)

-- the same where the node there was compared and is another, with places read
pub ahead_behind : (c : Chains) (nodes : List Node) (end e : ℕ) (n x : Node) (b : Bool) → IsChained c nodes → IsAhead nodes (length c.ends.items) (node_hash n % length c.ends.items) n end → 0 < end → x ≡ get_or nodes (end - 1) x → b ≡ ghosts.eq x n → b ≡ false → e ≡ get_or c.before.items (end - 1) e → IsAhead nodes (length c.ends.items) (node_hash n % length c.ends.items) n e × (e < end)
ahead_behind c nodes end e n x b h a more is tells differ before =
    let within : end - 1 < length nodes = omega (arith, a.within, more) in
    ahead_next c nodes _ end (end - 1) e n x h refl a (omega (arith, more))
    (slice_get_read nodes (length nodes) (end - 1) x refl within is)
    (λ same. true≢false (sym (eq_same n) ∙ ap (λ (y : Node). ghosts.eq y n) (sym same) ∙ sym tells ∙ differ))
    (slice_get_read c.before.items (length c.before.items) (end - 1) e refl (omega (arith, within, h.room)) before)

pub ahead_none : (nodes : List Node) (count b : ℕ) (n : Node) (end : ℕ) → end ≡ 0 → IsAhead nodes count b n end → (s : ℕ) → slice_get nodes s ≡ Some n → ⊥
ahead_none nodes count b n end z a s q = omega (arith, a.rest s q, z)

pub no_chains : (c : Chains) (nodes : List Node) → IsChained c nodes → length c.ends.items ≡ 0 → (n : Node) (s : ℕ) → slice_get nodes s ≡ Some n → ⊥
no_chains c nodes h z n s q = omega (arith, slice_get_within nodes s n q, h.load, z)

-- behind those before it the last node is the next
pub had_linked : (c : Chains) (nodes : List Node) → HadRoom c nodes → IsLinked nodes c.before.items c.ends.items (length nodes - 1)
had_linked c nodes h =
    let k : length h.others ≡ length (h.others ++ h.last ∷ []) - 1 = omega (arith, length-append h.others (h.last ∷ [])) in
    subst (λ (ns : List Node). IsLinked ns c.before.items c.ends.items (length ns - 1)) (sym h.are)
    (subst (IsLinked (h.others ++ h.last ∷ []) c.before.items c.ends.items) k (linked_more h.others (h.last ∷ []) c.before.items c.ends.items (length h.others) (omega arith) h.room.chained.linked))

pub had_length : (c : Chains) (nodes : List Node) → HadRoom c nodes → (0 < length nodes) × (length nodes ≤ length c.before.items) × (length nodes ≤ 4 * length c.ends.items) × (0 < length c.ends.items)
had_length c nodes h =
    let k : length nodes ≡ length h.others + 1 = ap (λ (ns : List Node). length ns) h.are ∙ length-append h.others (h.last ∷ []) in
    (omega (arith, k), omega (arith, k, h.room.room), omega (arith, k, h.room.load), omega (arith, k, h.room.load))
