-- Device: each step of an arena leaves an arena.
use Rattle.std.proofs.Common.{◌≡◌, ◌≢◌, ℕ, zero, suc, ◌+◌, ◌^◌, ◌<◌, ◌≤◌, Bool, true, false, cond, ◌&&◌, ◌||◌, nat_eq, List, [], ◌∷◌, ◌++◌, length, slice_get, is_some, Option, Some, None, MatchOption, ◌⊎◌, inl, inr, refl, sym, ap, ◌∙◌, subst, true≢false, add-one, arith, length-append}
use Rattle.std.proofs.lemmas.Bool.Decides.{eqb_tells}
use Rattle.std.proofs.Math.ListN.{set, length-set}
use Rattle.std.specs.Option.{option_and_then}
use Rattle.std.proofs.lemmas.Option.{slice_get_within}
use Rattle.cil_base.specs.declared.numbers.AggId.{AggId}
use Rattle.type_graph.specs.declared.aggregates.AggKind.{AggKind}
use Rattle.type_graph.specs.declared.aggregates.Member.{Member}
use Rattle.type_graph.specs.declared.aggregates.Aggregate.{Aggregate}
use Rattle.type_graph.specs.declared.nodes.Node.{Node}
use Rattle.type_graph.specs.declared.nodes.Node.TheVariants.{Void, Int, Ptr, Array, Func, Agg}
use Rattle.type_graph.specs.Shapes.{Shape, VoidType, IntType, PtrType, ArrayType, FuncType, AggType, shape}
use Rattle.type_graph.specs.Arena.{Graph, IsArena, NamesBelow, HasKind, members_of, complete, complete_shape, flexible_shape, members_fit, is_struct, is_last, held, rank, HeldBelow, EachBelow, EachFits, has_room, defined_count}
use Rattle.type_graph.specs.Growth.{with_agg, with_members}
use Rattle.type_graph.proofs.Lists.{get_push, get_set_same, get_set_other}
use Rattle.type_graph.proofs.ShapeLaws.{shape_append, shape_past}

NamesBelow-more : (n m k : ℕ) (x : Node) → m ≤ k → NamesBelow n m x → NamesBelow n k x
NamesBelow-more n m k Void l h = tt
NamesBelow-more n m k (Int kind) l h = tt
NamesBelow-more n m k (Ptr q) l h = h
NamesBelow-more n m k (Array q bound) l h = h
NamesBelow-more n m k (Func proto variadic ret params) l h = h
NamesBelow-more n m k (Agg a) l h = omega arith

EachBelow-nodes : (ns more : List Node) (order : List AggId) (r : ℕ) (ms : List Member) → EachBelow ns order r ms → EachBelow (ns ++ more) order r ms
EachBelow-nodes ns more order r [] h = tt
EachBelow-nodes ns more order r (m ∷ ms) (within, below, rest) =
    (omega (arith, length-append ns more), subst (HeldBelow order r) (sym (shape_append ns more m.ty.of.0 within)) below, EachBelow-nodes ns more order r ms rest)

-- complete types stay complete when aggregates get members
pub complete_stays : (xs ys : List Aggregate) (s : Shape) → ((a : ℕ) → is_some (members_of xs a) ≡ true → is_some (members_of ys a) ≡ true) → complete_shape xs s ≡ true → complete_shape ys s ≡ true
complete_stays xs ys VoidType k h = cc
complete_stays xs ys (IntType kind) k h = refl
complete_stays xs ys (PtrType quals s) k h = refl
complete_stays xs ys (ArrayType quals s None) k h = cc
complete_stays xs ys (ArrayType quals s (Some n)) k h = complete_stays xs ys s k h
complete_stays xs ys (FuncType ret params proto variadic) k h = cc
complete_stays xs ys (AggType a) k h = k a h

flexible_stays : (xs ys : List Aggregate) (s : Shape) → ((a : ℕ) → is_some (members_of xs a) ≡ true → is_some (members_of ys a) ≡ true) → flexible_shape xs s ≡ true → flexible_shape ys s ≡ true
flexible_stays xs ys VoidType k h = cc
flexible_stays xs ys (IntType kind) k h = cc
flexible_stays xs ys (PtrType quals s) k h = cc
flexible_stays xs ys (ArrayType quals s None) k h = complete_stays xs ys s k h
flexible_stays xs ys (ArrayType quals s (Some n)) k h = cc
flexible_stays xs ys (FuncType ret params proto variadic) k h = cc
flexible_stays xs ys (AggType a) k h = cc

fits_one : (p q r : Bool) → ((p || q) && r) ≡ true → ((p ≡ true) ⊎ (q ≡ true)) × (r ≡ true)
fits_one true q true h = (inl refl, refl)
fits_one true q false h = cc
fits_one false true true h = (inr refl, refl)
fits_one false true false h = cc
fits_one false false r h = cc

fits_both : (p q r : Bool) → (p ≡ true) ⊎ (q ≡ true) → r ≡ true → ((p || q) && r) ≡ true
fits_both p q r (inl h) e = ap (λ b. (b || q) && r) h ∙ e
fits_both true q r (inr h) e = e
fits_both false q r (inr h) e = ap (λ b. b && r) h ∙ e

flexible_kept : (p q r s t : Bool) → (s ≡ true → t ≡ true) → (p && (q && (r && s))) ≡ true → (p && (q && (r && t))) ≡ true
flexible_kept true true true s t k h = k h
flexible_kept true true false s t k h = cc
flexible_kept true false r s t k h = cc
flexible_kept false q r s t k h = cc

-- members that fit still fit where types that were complete, or flexible, are
pub fit_stays : (g h : Graph) (kind : AggKind) (behind : Bool) (ms : List Member) → ((t : ℕ) → complete g t ≡ true → complete h t ≡ true) → ((t : ℕ) → flexible_shape g.aggs (shape g.nodes t) ≡ true → flexible_shape h.aggs (shape h.nodes t) ≡ true) → members_fit g kind behind ms ≡ true → members_fit h kind behind ms ≡ true
fit_stays g h kind behind [] k f e = refl
fit_stays g h kind behind (m ∷ ms) k f e =
    let parts = fits_one (complete g m.ty.of.0) (is_struct kind && (behind && (is_last ms && flexible_shape g.aggs (shape g.nodes m.ty.of.0)))) (members_fit g kind true ms) e in
    fits_both (complete h m.ty.of.0) (is_struct kind && (behind && (is_last ms && flexible_shape h.aggs (shape h.nodes m.ty.of.0)))) (members_fit h kind true ms) (one parts.0) (fit_stays g h kind true ms k f parts.1)
  where
    one : (complete g m.ty.of.0 ≡ true) ⊎ ((is_struct kind && (behind && (is_last ms && flexible_shape g.aggs (shape g.nodes m.ty.of.0)))) ≡ true) → (complete h m.ty.of.0 ≡ true) ⊎ ((is_struct kind && (behind && (is_last ms && flexible_shape h.aggs (shape h.nodes m.ty.of.0)))) ≡ true)
    one (inl p) = inl (k m.ty.of.0 p)
    one (inr p) = inr (flexible_kept (is_struct kind) behind (is_last ms) (flexible_shape g.aggs (shape g.nodes m.ty.of.0)) (flexible_shape h.aggs (shape h.nodes m.ty.of.0)) (f m.ty.of.0) p)

-- members that fit still fit when aggregates are added or get members
pub fit_defined : (g : Graph) (ys : List Aggregate) (kind : AggKind) (ms : List Member) → ((a : ℕ) → is_some (members_of g.aggs a) ≡ true → is_some (members_of ys a) ≡ true) → (h : Graph) → h.aggs ≡ ys → h.nodes ≡ g.nodes → members_fit g kind false ms ≡ true → members_fit h kind false ms ≡ true
fit_defined g ys kind ms k h e q fit =
    fit_stays g h kind false ms
    (λ t c. ap (λ (xs : List Aggregate). complete_shape xs (shape h.nodes t)) e ∙ ap (λ (ns : List Node). complete_shape ys (shape ns t)) q ∙ complete_stays g.aggs ys (shape g.nodes t) k c)
    (λ t c. ap (λ (xs : List Aggregate). flexible_shape xs (shape h.nodes t)) e ∙ ap (λ (ns : List Node). flexible_shape ys (shape ns t)) q ∙ flexible_stays g.aggs ys (shape g.nodes t) k c)
    fit

count_undefined : (xs : List Aggregate) (x : Aggregate) → x.members ≡ None → defined_count (xs ++ x ∷ []) ≡ defined_count xs
count_undefined [] x e = ap (λ (o : Option (List Member)). elim o [ None ↦ 0 | Some ms ↦ suc 0 ]) e
count_undefined (y ∷ xs) x e = ap (λ n. elim y.members [ None ↦ n | Some ms ↦ suc n ]) (count_undefined xs x e)

count_defined : (xs : List Aggregate) (a : ℕ) (x y : Aggregate) (ms : List Member) → slice_get xs a ≡ Some x → x.members ≡ None → y.members ≡ Some ms → defined_count (set xs a y) ≡ suc (defined_count xs)
count_defined [] a x y ms at none some = cc
count_defined (z ∷ xs) zero x y ms at none some =
    let same : z ≡ x = cc in
    ap (λ (o : Option (List Member)). elim o [ None ↦ defined_count xs | Some bs ↦ suc (defined_count xs) ]) some
    ∙ ap suc (sym (ap (λ (o : Option (List Member)). elim o [ None ↦ defined_count xs | Some bs ↦ suc (defined_count xs) ]) (ap (λ (v : Aggregate). v.members) same ∙ none)))
count_defined (z ∷ xs) (suc a) x y ms at none some = by z.members (count_defined xs a x y ms at none some)
  where
    by : (o : Option (List Member)) → defined_count (set xs a y) ≡ suc (defined_count xs) → (elim o [ None ↦ defined_count (set xs a y) | Some bs ↦ suc (defined_count (set xs a y)) ]) ≡ suc (elim o [ None ↦ defined_count xs | Some bs ↦ suc (defined_count xs) ])
    by None e = e
    by (Some bs) e = ap suc e

pub count_within : (xs : List Aggregate) → defined_count xs ≤ length xs
count_within [] = omega arith
count_within (x ∷ xs) = by x.members (count_within xs)
  where
    by : (o : Option (List Member)) → defined_count xs ≤ length xs → (elim o [ None ↦ defined_count xs | Some ms ↦ suc (defined_count xs) ]) ≤ suc (length xs)
    by None h = omega arith
    by (Some ms) h = omega arith

-- a type that fits as a member is there
complete_within : (g : Graph) (t : ℕ) → complete g t ≡ true → t < length g.nodes
complete_within g t h = elim (cases t (length g.nodes)) [ inl l ↦ l | inr l ↦ absurd (true≢false (sym h ∙ ap (complete_shape g.aggs) (shape_past g.nodes t l))) ]
  where
    cases : (m n : ℕ) → (m < n) ⊎ (n ≤ m)
    cases m n = grind arith

flexible_within : (g : Graph) (t : ℕ) → flexible_shape g.aggs (shape g.nodes t) ≡ true → t < length g.nodes
flexible_within g t h = elim (cases t (length g.nodes)) [ inl l ↦ l | inr l ↦ absurd (true≢false (sym h ∙ ap (flexible_shape g.aggs) (shape_past g.nodes t l))) ]
  where
    cases : (m n : ℕ) → (m < n) ⊎ (n ≤ m)
    cases m n = grind arith

pub IsArena-empty : (g : Graph) → g.nodes ≡ [] → g.aggs ≡ [] → g.completed ≡ [] → IsArena g
IsArena-empty g ns xs order = record {
  few_nodes = omega (arith, ap length ns);
  few_aggs = omega (arith, ap length xs);
  grounded = λ t n e. absurd (no_node t n e);
  kinds = λ t n e. absurd (no_node t n e);
  once = λ s t n p q. absurd (no_node s n p);
  nested = λ a ms e. absurd (no_members a ms e);
  fitting = λ a x ms e q. absurd (no_agg a x e);
  counted = ap length order ∙ ap defined_count (sym xs);
  ordered = λ i a e. absurd (no_order i a e);
}
  where
    no_node : (t : ℕ) (n : Node) → slice_get g.nodes t ≡ Some n → ⊥
    no_node t n e = let l : t < length g.nodes = slice_get_within g.nodes t n e in omega (arith, ap length ns)

    no_agg : (a : ℕ) (x : Aggregate) → slice_get g.aggs a ≡ Some x → ⊥
    no_agg a x e = let l : a < length g.aggs = slice_get_within g.aggs a x e in omega (arith, ap length xs)

    no_order : (i : ℕ) (a : AggId) → slice_get g.completed i ≡ Some a → ⊥
    no_order i a e = let l : i < length g.completed = slice_get_within g.completed i a e in omega (arith, ap length order)

    no_members : (a : ℕ) (ms : List Member) → members_of g.aggs a ≡ Some ms → ⊥
    no_members a ms e = let none : members_of [] a ≡ Some ms = subst (λ (aggs : List Aggregate). members_of aggs a ≡ Some ms) xs e in cc

pub IsArena-node : (g : Graph) (n : Node) → IsArena g → NamesBelow (length g.nodes) (length g.aggs) n → HasKind g.abi n → ((s : ℕ) → slice_get g.nodes s ≡ Some n → ⊥) → length g.nodes + 1 < 2 ^ 32 → IsArena (record g { nodes = g.nodes ++ n ∷ [] })
IsArena-node g n w names kind absent room = record {
  few_nodes = omega (arith, length-append g.nodes (n ∷ []));
  few_aggs = w.few_aggs;
  grounded = λ t x e. grounded t x (get_push g.nodes n t x e);
  kinds = λ t x e. kinds t x (get_push g.nodes n t x e);
  once = λ s t x p q. once s t x (get_push g.nodes n s x p) (get_push g.nodes n t x q);
  nested = λ a ms e. ((w.nested a ms e).0, EachBelow-nodes g.nodes (n ∷ []) g.completed (rank g.completed a) ms (w.nested a ms e).1);
  fitting = λ a x ms e q. fit_stays g (record g { nodes = g.nodes ++ n ∷ [] }) x.kind false ms still_complete still_flexible (w.fitting a x ms e q);
  counted = w.counted;
  ordered = w.ordered;
}
  where
    still_complete : (t : ℕ) → complete g t ≡ true → complete_shape g.aggs (shape (g.nodes ++ n ∷ []) t) ≡ true
    still_complete t c = ap (complete_shape g.aggs) (shape_append g.nodes (n ∷ []) t (complete_within g t c)) ∙ c

    still_flexible : (t : ℕ) → flexible_shape g.aggs (shape g.nodes t) ≡ true → flexible_shape g.aggs (shape (g.nodes ++ n ∷ []) t) ≡ true
    still_flexible t c = ap (flexible_shape g.aggs) (shape_append g.nodes (n ∷ []) t (flexible_within g t c)) ∙ c

    grounded : (t : ℕ) (x : Node) → (slice_get g.nodes t ≡ Some x) ⊎ ((t ≡ length g.nodes) × (n ≡ x)) → NamesBelow t (length g.aggs) x
    grounded t x (inl h) = w.grounded t x h
    grounded t x (inr (place, same)) = subst (λ k. NamesBelow k (length g.aggs) x) (sym place) (subst (NamesBelow (length g.nodes) (length g.aggs)) same names)

    kinds : (t : ℕ) (x : Node) → (slice_get g.nodes t ≡ Some x) ⊎ ((t ≡ length g.nodes) × (n ≡ x)) → HasKind g.abi x
    kinds t x (inl h) = w.kinds t x h
    kinds t x (inr (place, same)) = subst (HasKind g.abi) same kind

    once : (s t : ℕ) (x : Node) → (slice_get g.nodes s ≡ Some x) ⊎ ((s ≡ length g.nodes) × (n ≡ x)) → (slice_get g.nodes t ≡ Some x) ⊎ ((t ≡ length g.nodes) × (n ≡ x)) → s ≡ t
    once s t x (inl p) (inl q) = w.once s t x p q
    once s t x (inl p) (inr q) = absurd (absent s (p ∙ ap Some (sym q.1)))
    once s t x (inr p) (inl q) = absurd (absent t (q ∙ ap Some (sym p.1)))
    once s t x (inr p) (inr q) = p.0 ∙ sym q.0

-- the members that an aggregate has stay when another is added
members_stay : (aggs more : List Aggregate) (a : ℕ) (ms : List Member) → members_of aggs a ≡ Some ms → members_of (aggs ++ more) a ≡ Some ms
members_stay [] more a ms e = cc
members_stay (x ∷ aggs) more zero ms e = e
members_stay (x ∷ aggs) more (suc a) ms e = members_stay aggs more a ms e

members_before : (aggs : List Aggregate) (x : Aggregate) (a : ℕ) (ms : List Member) → x.members ≡ None → members_of (aggs ++ x ∷ []) a ≡ Some ms → members_of aggs a ≡ Some ms
members_before [] x zero ms none e = cc
members_before [] x (suc a) ms none e = e
members_before (y ∷ aggs) x zero ms none e = e
members_before (y ∷ aggs) x (suc a) ms none e = members_before aggs x a ms none e

pub some_there : {T : Type 0} (o : Option T) → is_some o ≡ true → (x : T) × (o ≡ Some x)
some_there None h = cc
some_there (Some x) h = (x, refl)

pub is_some_from : {T : Type 0} (o : Option T) (x : T) → o ≡ Some x → is_some o ≡ true
is_some_from None x e = cc
is_some_from (Some y) x e = refl

pub IsArena-agg : (g : Graph) (x : Aggregate) → IsArena g → x.members ≡ None → length g.aggs + 1 < 2 ^ 32 → IsArena (with_agg g x)
IsArena-agg g x w none room = record {
  few_nodes = w.few_nodes;
  few_aggs = omega (arith, length-append g.aggs (x ∷ []));
  grounded = λ t n e. NamesBelow-more t (length g.aggs) (length (g.aggs ++ x ∷ [])) n (omega (arith, length-append g.aggs (x ∷ []))) (w.grounded t n e);
  kinds = w.kinds;
  once = w.once;
  nested = λ a ms e. w.nested a ms (members_before g.aggs x a ms none e);
  fitting = λ a y ms e q. fitting a y ms (get_push g.aggs x a y e) q;
  counted = w.counted ∙ sym (count_undefined g.aggs x none);
  ordered = λ i a e. (defined a.0 (w.ordered i a e).0, (w.ordered i a e).1);
}
  where
    defined : (a : ℕ) → is_some (members_of g.aggs a) ≡ true → is_some (members_of (g.aggs ++ x ∷ []) a) ≡ true
    defined a d =
        let there = some_there (members_of g.aggs a) d in
        is_some_from (members_of (g.aggs ++ x ∷ []) a) there.0 (members_stay g.aggs (x ∷ []) a there.0 there.1)

    fitting : (a : ℕ) (y : Aggregate) (ms : List Member) → (slice_get g.aggs a ≡ Some y) ⊎ ((a ≡ length g.aggs) × (x ≡ y)) → y.members ≡ Some ms → members_fit (with_agg g x) y.kind false ms ≡ true
    fitting a y ms (inl e) q = fit_defined g (g.aggs ++ x ∷ []) y.kind ms defined (with_agg g x) refl refl (w.fitting a y ms e q)
    fitting a y ms (inr e) q = let some : None ≡ Some ms = sym none ∙ ap (λ (z : Aggregate). z.members) e.1 ∙ q in cc

pub rank_within : (order : List AggId) (b : ℕ) → rank order b ≤ length order
rank_within [] b = omega arith
rank_within (a ∷ order) b = by (nat_eq a.0 b) (rank_within order b)
  where
    by : (v : Bool) → rank order b ≤ length order → cond v 0 (suc (rank order b)) ≤ suc (length order)
    by true h = omega arith
    by false h = omega arith

-- places in the order of completion stay
pub rank_stays : (order more : List AggId) (b : ℕ) → rank order b < length order → rank (order ++ more) b ≡ rank order b
rank_stays [] more b h = absurd (omega arith)
rank_stays (a ∷ order) more b h = by (nat_eq a.0 b) h (rank_stays order more b)
  where
    by : (v : Bool) → cond v 0 (suc (rank order b)) < suc (length order) → (rank order b < length order → rank (order ++ more) b ≡ rank order b) → cond v 0 (suc (rank (order ++ more) b)) ≡ cond v 0 (suc (rank order b))
    by true q rest = refl
    by false q rest = ap suc (rest (omega arith))

rank_new : (order : List AggId) (a : AggId) → ((i : ℕ) (c : AggId) → slice_get order i ≡ Some c → c.0 ≡ a.0 → ⊥) → rank (order ++ a ∷ []) a.0 ≡ length order
rank_new [] a absent = elim (eqb_tells a.0 a.0) [ inl h ↦ ap (λ v. cond v 0 1) h.0 | inr h ↦ absurd (h.1 refl) ]
rank_new (c ∷ order) a absent = by (eqb_tells c.0 a.0) (rank_new order a (λ i d e. absent (suc i) d e))
  where
    by : ((nat_eq c.0 a.0 ≡ true) × (c.0 ≡ a.0)) ⊎ ((nat_eq c.0 a.0 ≡ false) × (c.0 ≢ a.0)) → rank (order ++ a ∷ []) a.0 ≡ length order → cond (nat_eq c.0 a.0) 0 (suc (rank (order ++ a ∷ []) a.0)) ≡ suc (length order)
    by (inl h) rest = absurd (absent 0 c refl h.1)
    by (inr h) rest = ap (λ v. cond v 0 (suc (rank (order ++ a ∷ []) a.0))) h.0 ∙ ap suc rest

-- what a complete type has within itself is complete
held_defined : (aggs : List Aggregate) (s : Shape) (b : ℕ) → complete_shape aggs s ≡ true → held s ≡ Some b → is_some (members_of aggs b) ≡ true
held_defined aggs VoidType b h e = cc
held_defined aggs (IntType kind) b h e = cc
held_defined aggs (PtrType quals s) b h e = cc
held_defined aggs (ArrayType quals s None) b h e = cc
held_defined aggs (ArrayType quals s (Some n)) b h e = held_defined aggs s b h e
held_defined aggs (FuncType ret params proto variadic) b h e = cc
held_defined aggs (AggType a) b h e = let same : a ≡ b = cc in subst (λ k. is_some (members_of aggs k) ≡ true) same h

held_flexible : (aggs : List Aggregate) (s : Shape) (b : ℕ) → flexible_shape aggs s ≡ true → held s ≡ Some b → is_some (members_of aggs b) ≡ true
held_flexible aggs VoidType b h e = cc
held_flexible aggs (IntType kind) b h e = cc
held_flexible aggs (PtrType quals s) b h e = cc
held_flexible aggs (ArrayType quals s None) b h e = held_defined aggs s b h e
held_flexible aggs (ArrayType quals s (Some n)) b h e = cc
held_flexible aggs (FuncType ret params proto variadic) b h e = cc
held_flexible aggs (AggType a) b h e = cc

flexible_last : (p q r s : Bool) → (p && (q && (r && s))) ≡ true → s ≡ true
flexible_last true true true s h = h
flexible_last true true false s h = cc
flexible_last true false r s h = cc
flexible_last false q r s h = cc

HeldBelow-from : (order : List AggId) (r : ℕ) (s : Shape) → ((b : ℕ) → held s ≡ Some b → rank order b < r) → HeldBelow order r s
HeldBelow-from order r s h = by (held s) h
  where
    by : (o : Option ℕ) → ((b : ℕ) → o ≡ Some b → rank order b < r) → MatchOption o (Unit {0}) (λ b. rank order b < r)
    by None q = tt
    by (Some b) q = q b refl

pub HeldBelow-at : (order : List AggId) (r : ℕ) (s : Shape) (b : ℕ) → HeldBelow order r s → held s ≡ Some b → rank order b < r
HeldBelow-at order r s b h e = subst (λ (o : Option ℕ). MatchOption o (Unit {0}) (λ b. rank order b < r)) e h

-- members that fit have within themselves what was completed before
EachBelow-fit : (g : Graph) (kind : AggKind) (a : AggId) → IsArena g → (behind : Bool) (ms : List Member) → members_fit g kind behind ms ≡ true → EachBelow g.nodes (g.completed ++ a ∷ []) (length g.completed) ms
EachBelow-fit g kind a w behind [] h = tt
EachBelow-fit g kind a w behind (m ∷ ms) h =
    let parts = fits_one (complete g m.ty.of.0) (is_struct kind && (behind && (is_last ms && flexible_shape g.aggs (shape g.nodes m.ty.of.0)))) (members_fit g kind true ms) h in
    (within parts.0, HeldBelow-from (g.completed ++ a ∷ []) (length g.completed) (shape g.nodes m.ty.of.0) (λ b e. before b (defined parts.0 b e)), EachBelow-fit g kind a w true ms parts.1)
  where
    within : (complete g m.ty.of.0 ≡ true) ⊎ ((is_struct kind && (behind && (is_last ms && flexible_shape g.aggs (shape g.nodes m.ty.of.0)))) ≡ true) → m.ty.of.0 < length g.nodes
    within (inl p) = complete_within g m.ty.of.0 p
    within (inr p) = flexible_within g m.ty.of.0 (flexible_last (is_struct kind) behind (is_last ms) (flexible_shape g.aggs (shape g.nodes m.ty.of.0)) p)

    defined : (complete g m.ty.of.0 ≡ true) ⊎ ((is_struct kind && (behind && (is_last ms && flexible_shape g.aggs (shape g.nodes m.ty.of.0)))) ≡ true) → (b : ℕ) → held (shape g.nodes m.ty.of.0) ≡ Some b → is_some (members_of g.aggs b) ≡ true
    defined (inl p) b e = held_defined g.aggs (shape g.nodes m.ty.of.0) b p e
    defined (inr p) b e = held_flexible g.aggs (shape g.nodes m.ty.of.0) b (flexible_last (is_struct kind) behind (is_last ms) (flexible_shape g.aggs (shape g.nodes m.ty.of.0)) p) e

    before : (b : ℕ) → is_some (members_of g.aggs b) ≡ true → rank (g.completed ++ a ∷ []) b < length g.completed
    before b d =
        let there = some_there (members_of g.aggs b) d in
        let l : rank g.completed b < length g.completed = (w.nested b there.0 there.1).0 in
        subst (λ k. k < length g.completed) (sym (rank_stays g.completed (a ∷ []) b l)) l

-- members that fit have room
EachFits-fit : (g : Graph) (kind : AggKind) (behind : Bool) (ms : List Member) → members_fit g kind behind ms ≡ true → EachFits g.aggs g.nodes ms
EachFits-fit g kind behind [] h = tt
EachFits-fit g kind behind (m ∷ ms) h =
    let parts = fits_one (complete g m.ty.of.0) (is_struct kind && (behind && (is_last ms && flexible_shape g.aggs (shape g.nodes m.ty.of.0)))) (members_fit g kind true ms) h in
    (one parts.0, EachFits-fit g kind true ms parts.1)
  where
    left : (p q : Bool) → p ≡ true → (p || q) ≡ true
    left p q e = ap (λ b. b || q) e

    right : (p q : Bool) → q ≡ true → (p || q) ≡ true
    right true q e = refl
    right false q e = e

    one : (complete g m.ty.of.0 ≡ true) ⊎ ((is_struct kind && (behind && (is_last ms && flexible_shape g.aggs (shape g.nodes m.ty.of.0)))) ≡ true) → has_room g.aggs (shape g.nodes m.ty.of.0) ≡ true
    one (inl p) = left (complete_shape g.aggs (shape g.nodes m.ty.of.0)) (flexible_shape g.aggs (shape g.nodes m.ty.of.0)) p
    one (inr p) = right (complete_shape g.aggs (shape g.nodes m.ty.of.0)) (flexible_shape g.aggs (shape g.nodes m.ty.of.0)) (flexible_last (is_struct kind) behind (is_last ms) (flexible_shape g.aggs (shape g.nodes m.ty.of.0)) p)

EachBelow-order : (ns : List Node) (order more : List AggId) (r : ℕ) (ms : List Member) → r ≤ length order → EachBelow ns order r ms → EachBelow ns (order ++ more) r ms
EachBelow-order ns order more r [] l h = tt
EachBelow-order ns order more r (m ∷ ms) l (within, below, rest) =
    (within, HeldBelow-from (order ++ more) r (shape ns m.ty.of.0) (λ b e. one b (HeldBelow-at order r (shape ns m.ty.of.0) b below e)), EachBelow-order ns order more r ms l rest)
  where
    one : (b : ℕ) → rank order b < r → rank (order ++ more) b < r
    one b q = let same : rank (order ++ more) b ≡ rank order b = rank_stays order more b (omega arith) in omega arith

members_at : (aggs : List Aggregate) (a : ℕ) (x : Aggregate) → slice_get aggs a ≡ Some x → members_of aggs a ≡ x.members
members_at aggs a x e = ap (option_and_then (λ (y : Aggregate). y.members)) e

pub IsArena-complete : (g : Graph) (a : AggId) (x : Aggregate) (ms : List Member) → IsArena g → slice_get g.aggs a.0 ≡ Some x → members_of g.aggs a.0 ≡ None → members_fit g x.kind false ms ≡ true → IsArena (with_members g a x ms)
IsArena-complete g a x ms w at none fit = record {
  few_nodes = w.few_nodes;
  few_aggs = subst (λ k. k < 2 ^ 32) (sym same_length) w.few_aggs;
  grounded = λ t n e. subst (λ k. NamesBelow t k n) (sym same_length) (w.grounded t n e);
  kinds = w.kinds;
  once = w.once;
  nested = λ b bs e. nested b bs (eqb_tells b a.0) e;
  fitting = λ b y bs e q. fitting b y bs (eqb_tells b a.0) e q;
  counted = length-append g.completed (a ∷ []) ∙ add-one (length g.completed) ∙ ap suc w.counted ∙ sym (count_defined g.aggs a.0 x (record x { members = Some ms }) ms at (sym (members_at g.aggs a.0 x at) ∙ none) refl);
  ordered = λ i b e. ordered i b (get_push g.completed a i b e);
}
  where
    y : Aggregate
    y = record x { members = Some ms }

    same_length : length (set g.aggs a.0 (record x { members = Some ms })) ≡ length g.aggs
    same_length = length-set g.aggs a.0 (record x { members = Some ms })

    now : members_of (set g.aggs a.0 (record x { members = Some ms })) a.0 ≡ Some ms
    now = members_at (set g.aggs a.0 (record x { members = Some ms })) a.0 (record x { members = Some ms }) (get_set_same g.aggs a.0 x (record x { members = Some ms }) at)

    others : (b : ℕ) → b ≢ a.0 → members_of (set g.aggs a.0 (record x { members = Some ms })) b ≡ members_of g.aggs b
    others b differ = ap (option_and_then (λ (z : Aggregate). z.members)) (get_set_other g.aggs a.0 b (record x { members = Some ms }) differ)

    unlisted : (i : ℕ) (c : AggId) → slice_get g.completed i ≡ Some c → c.0 ≡ a.0 → ⊥
    unlisted i c e same = true≢false (sym (w.ordered i c e).0 ∙ ap (λ k. is_some (members_of g.aggs k)) same ∙ ap is_some none)

    last : rank (g.completed ++ a ∷ []) a.0 ≡ length g.completed
    last = rank_new g.completed a unlisted

    nested : (b : ℕ) (bs : List Member) → ((nat_eq b a.0 ≡ true) × (b ≡ a.0)) ⊎ ((nat_eq b a.0 ≡ false) × (b ≢ a.0)) → members_of (set g.aggs a.0 (record x { members = Some ms })) b ≡ Some bs → (rank (g.completed ++ a ∷ []) b < length (g.completed ++ a ∷ [])) × EachBelow g.nodes (g.completed ++ a ∷ []) (rank (g.completed ++ a ∷ []) b) bs
    nested b bs (inl h) e =
        let same : ms ≡ bs = let p : Some ms ≡ Some bs = sym now ∙ ap (members_of (set g.aggs a.0 (record x { members = Some ms }))) (sym h.1) ∙ e in cc in
        let place : rank (g.completed ++ a ∷ []) b ≡ length g.completed = ap (rank (g.completed ++ a ∷ [])) h.1 ∙ last in
        (omega (arith, length-append g.completed (a ∷ [])), subst (λ r. EachBelow g.nodes (g.completed ++ a ∷ []) r bs) (sym place) (subst (EachBelow g.nodes (g.completed ++ a ∷ []) (length g.completed)) same (EachBelow-fit g x.kind a w false ms fit)))
    nested b bs (inr h) e =
        let old = w.nested b bs (sym (others b h.1) ∙ e) in
        let place : rank (g.completed ++ a ∷ []) b ≡ rank g.completed b = rank_stays g.completed (a ∷ []) b old.0 in
        let l : rank g.completed b < length g.completed = old.0 in
        (omega (arith, length-append g.completed (a ∷ [])), subst (λ r. EachBelow g.nodes (g.completed ++ a ∷ []) r bs) (sym place) (EachBelow-order g.nodes g.completed (a ∷ []) (rank g.completed b) bs (omega arith) old.1))

    stays : (b : ℕ) → is_some (members_of g.aggs b) ≡ true → is_some (members_of (set g.aggs a.0 (record x { members = Some ms })) b) ≡ true
    stays b d = one (eqb_tells b a.0)
      where
        one : ((nat_eq b a.0 ≡ true) × (b ≡ a.0)) ⊎ ((nat_eq b a.0 ≡ false) × (b ≢ a.0)) → is_some (members_of (set g.aggs a.0 (record x { members = Some ms })) b) ≡ true
        one (inl h) = ap (λ k. is_some (members_of (set g.aggs a.0 (record x { members = Some ms })) k)) h.1 ∙ ap is_some now
        one (inr h) = ap is_some (others b h.1) ∙ d

    fitting : (b : ℕ) (z : Aggregate) (bs : List Member) → ((nat_eq b a.0 ≡ true) × (b ≡ a.0)) ⊎ ((nat_eq b a.0 ≡ false) × (b ≢ a.0)) → slice_get (set g.aggs a.0 (record x { members = Some ms })) b ≡ Some z → z.members ≡ Some bs → members_fit (with_members g a x ms) z.kind false bs ≡ true
    fitting b z bs (inl h) e q =
        let same : record x { members = Some ms } ≡ z = let p : Some (record x { members = Some ms }) ≡ Some z = sym (get_set_same g.aggs a.0 x (record x { members = Some ms }) at) ∙ ap (slice_get (set g.aggs a.0 (record x { members = Some ms }))) (sym h.1) ∙ e in cc in
        let members : ms ≡ bs = let p : Some ms ≡ Some bs = ap (λ (v : Aggregate). v.members) same ∙ q in cc in
        subst (λ (v : Aggregate). members_fit (with_members g a x ms) v.kind false bs ≡ true) same
        (subst (λ (l : List Member). members_fit (with_members g a x ms) x.kind false l ≡ true) members
        (fit_defined g (set g.aggs a.0 (record x { members = Some ms })) x.kind ms stays (with_members g a x ms) refl refl fit))
    fitting b z bs (inr h) e q = fit_defined g (set g.aggs a.0 (record x { members = Some ms })) z.kind bs stays (with_members g a x ms) refl refl (w.fitting b z bs (sym (get_set_other g.aggs a.0 b (record x { members = Some ms }) h.1) ∙ e) q)

    ordered : (i : ℕ) (b : AggId) → (slice_get g.completed i ≡ Some b) ⊎ ((i ≡ length g.completed) × (a ≡ b)) → (is_some (members_of (set g.aggs a.0 (record x { members = Some ms })) b.0) ≡ true) × (rank (g.completed ++ a ∷ []) b.0 ≡ i)
    ordered i b (inl e) =
        let old = w.ordered i b e in
        let within : i < length g.completed = slice_get_within g.completed i b e in
        (ap is_some (others b.0 (unlisted i b e)) ∙ old.0, rank_stays g.completed (a ∷ []) b.0 (subst (λ k. k < length g.completed) (sym old.1) within) ∙ old.1)
    ordered i b (inr (place, same)) =
        (ap (λ (c : AggId). is_some (members_of (set g.aggs a.0 (record x { members = Some ms })) c.0)) (sym same) ∙ ap is_some now, ap (λ (c : AggId). rank (g.completed ++ a ∷ []) c.0) (sym same) ∙ last ∙ sym place)

pub agg_there : (aggs : List Aggregate) (a : ℕ) (ms : List Member) → members_of aggs a ≡ Some ms → (x : Aggregate) × (slice_get aggs a ≡ Some x) × (x.members ≡ Some ms)
agg_there aggs a ms e = by (slice_get aggs a) e
  where
    by : (o : Option Aggregate) → option_and_then (λ (x : Aggregate). x.members) o ≡ Some ms → (x : Aggregate) × (o ≡ Some x) × (x.members ≡ Some ms)
    by None q = cc
    by (Some x) q = (x, refl, q)

-- each member of an arena's aggregate has room
pub each_has_room : (g : Graph) → IsArena g → (a : ℕ) (ms : List Member) → members_of g.aggs a ≡ Some ms → EachFits g.aggs g.nodes ms
each_has_room g w a ms e =
    let x = agg_there g.aggs a ms e in
    EachFits-fit g x.0.kind false ms (w.fitting a x.0 ms x.1 x.2)
