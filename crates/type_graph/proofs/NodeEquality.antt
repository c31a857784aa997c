-- Device: the derived comparison of nodes tells whether they are equal.
use Rattle.std.proofs.Common.{◌≡◌, ℕ, suc, Bool, true, false, ◌&&◌, ◌||◌, Option, Some, None, List, [], ◌∷◌, slice_get, refl, sym, ap, ◌∙◌, true≢false, eqb, eqb-true, eq-eqb, rules}
use mathlib.Core.Bool.{beq}
use Rattle.std.specs.List.{list_any, position}
use Rattle.std.proofs.lemmas.Map.Keys.{any_passes_from_place}
use Rattle.std.specs.Cmp.{booleans_Decides}
use Rattle.std.specs.Cmp.Lexicographic.{pointwise}
use Rattle.std.specs.Option.{option_eq}
use Rattle.std.specs.Ordering.{on}
use denote.Enum.Bare.{same_true, true_same}
use Rattle.cil_base.specs.contracts.kinds.IntKind.{the_type}
use Rattle.cil_base.specs.declared.numbers.TypeId.{TypeId}
use Rattle.cil_base.specs.declared.numbers.AggId.{AggId}
use Rattle.type_graph.proofs.Lists.{position_passes}
use Rattle.type_graph.specs.declared.nodes.Quals.{Quals}
use Rattle.type_graph.specs.declared.nodes.QualType.{QualType}
use Rattle.type_graph.specs.declared.nodes.Node.{Node}
use Rattle.type_graph.specs.declared.nodes.Node.TheVariants.{Void, Int, Ptr, Array, Func, Agg}
use Rattle.type_graph.specs.contracts.nodes.NodePartialEq.TheImpl.{ghosts}

joined : (p q : Bool) → p ≡ true → q ≡ true → p && q ≡ true
joined p q e f = ap (λ b. b && q) e ∙ f

both : (p q : Bool) → p && q ≡ true → (p ≡ true) × (q ≡ true)
both true q h = (refl, h)
both false q h = cc

same_quals : (p q : Quals) → p.constant ≡ q.constant → p.restricted ≡ q.restricted → p ≡ q
same_quals p q e f = ap (λ (b : Bool). record p { constant = b }) e ∙ ap (λ (b : Bool). record q { restricted = b }) f

same_id : (s t : TypeId) → s.0 ≡ t.0 → s ≡ t
same_id s t e = let f : ℕ → TypeId = λ k. record { 0 = k } in ap f e

same_agg : (a b : AggId) → a.0 ≡ b.0 → a ≡ b
same_agg a b e = let f : ℕ → AggId = λ k. record { 0 = k } in ap f e

same_type : (q r : QualType) → q.quals.constant ≡ r.quals.constant → q.quals.restricted ≡ r.quals.restricted → q.of.0 ≡ r.of.0 → q ≡ r
same_type q r c d o =
    ap (λ (p : Quals). record q { quals = p }) (same_quals q.quals r.quals c d) ∙ ap (λ (t : TypeId). record r { of = t }) (same_id q.of r.of o)

same_bound : (m n : Option ℕ) → option_eq eqb m n ≡ true → m ≡ n
same_bound None None e = refl
same_bound None (Some n) e = cc
same_bound (Some m) None e = cc
same_bound (Some m) (Some n) e = ap Some (eqb-true m n e)

same_list : (p q : List TypeId) → pointwise (on (λ (t : TypeId). t.0) eqb) p q ≡ true → p ≡ q
same_list [] [] e = refl
same_list [] (t ∷ q) e = cc
same_list (s ∷ p) [] e = cc
same_list (s ∷ p) (t ∷ q) e =
    let h = both (eqb s.0 t.0) (pointwise (on (λ (u : TypeId). u.0) eqb) p q) e in
    ap (λ (u : TypeId). u ∷ p) (same_id s t (eqb-true s.0 t.0 h.0)) ∙ ap (λ (ts : List TypeId). t ∷ ts) (same_list p q h.1)

pub eq_tells : (x y : Node) → ghosts.eq x y ≡ true → x ≡ y
eq_tells Void Void e = refl
eq_tells (Int a) (Int b) e = ap Int (same_true the_type (search rules) a b e)
eq_tells (Ptr q) (Ptr r) e =
    let h = both _ _ e in
    let k = both _ _ h.0 in
    ap Ptr (same_type q r ((booleans_Decides _ _).0 k.0) ((booleans_Decides _ _).0 k.1) (eqb-true _ _ h.1))
eq_tells (Array q m) (Array r n) e =
    let l = both _ _ e in
    let h = both _ _ l.0 in
    let k = both _ _ h.0 in
    ap (λ (p : QualType). Array p m) (same_type q r ((booleans_Decides _ _).0 k.0) ((booleans_Decides _ _).0 k.1) (eqb-true _ _ h.1)) ∙ ap (Array r) (same_bound m n l.1)
eq_tells (Func v w r p) (Func x y s q) e =
    let h = both _ _ e in
    let k = both _ _ h.1 in
    let l = both _ _ k.1 in
    ap (λ (b : Bool). Func b w r p) ((booleans_Decides v x).0 h.0) ∙ ap (λ (b : Bool). Func x b r p) ((booleans_Decides w y).0 k.0)
    ∙ ap (λ (t : TypeId). Func x y t p) (same_id r s (eqb-true _ _ l.0)) ∙ ap (λ (ts : List TypeId). Func x y s ts) (same_list p q l.1)
eq_tells (Agg a) (Agg b) e = ap Agg (same_agg a b (eqb-true _ _ e))
eq_tells x y e = cc

same_list_same : (p : List TypeId) → pointwise (on (λ (t : TypeId). t.0) eqb) p p ≡ true
same_list_same [] = refl
same_list_same (t ∷ p) = joined (eqb t.0 t.0) (pointwise (on (λ (u : TypeId). u.0) eqb) p p) (eq-eqb t.0 t.0 refl) (same_list_same p)

same_bound_same : (m : Option ℕ) → option_eq eqb m m ≡ true
same_bound_same None = refl
same_bound_same (Some m) = eq-eqb m m refl

same_quals_same : (p : Quals) (k : ℕ) → beq p.constant p.constant && beq p.restricted p.restricted && eqb k k ≡ true
same_quals_same p k = joined _ _ (joined _ _ ((booleans_Decides _ _).1 refl) ((booleans_Decides _ _).1 refl)) (eq-eqb k k refl)

pub eq_same : (x : Node) → ghosts.eq x x ≡ true
eq_same Void = refl
eq_same (Int k) = true_same the_type k k refl
eq_same (Ptr q) = same_quals_same q.quals q.of.0
eq_same (Array q m) = joined _ _ (same_quals_same q.quals q.of.0) (same_bound_same m)
eq_same (Func v w r p) = joined _ _ ((booleans_Decides v v).1 refl) (joined _ _ ((booleans_Decides w w).1 refl) (joined _ _ (eq-eqb r.0 r.0 refl) (same_list_same p)))
eq_same (Agg a) = eq-eqb a.0 a.0 refl

-- a node that stands nowhere is not found, and one that is not found stands nowhere
pub none_any : (n : Node) (keys : List Node) → ((s : ℕ) → slice_get keys s ≡ Some n → ⊥) → list_any (ghosts.eq n) keys ≡ false
none_any n [] h = refl
none_any n (k ∷ keys) h = by (ghosts.eq n k) refl (none_any n keys (λ s e. h (suc s) e))
  where
    by : (b : Bool) → ghosts.eq n k ≡ b → list_any (ghosts.eq n) keys ≡ false → (b || list_any (ghosts.eq n) keys) ≡ false
    by true q rest = absurd (h 0 (ap Some (sym (eq_tells n k q))))
    by false q rest = rest

pub any_none : (n : Node) (keys : List Node) → list_any (ghosts.eq n) keys ≡ false → (s : ℕ) → slice_get keys s ≡ Some n → ⊥
any_none n keys h s e = true≢false (sym (any_passes_from_place (ghosts.eq n) keys s n e (eq_same n)) ∙ h)

-- what the set answers as a node's place has the node
pub found_node : (n : Node) (keys : List Node) (i : ℕ) → Some i ≡ position (ghosts.eq n) keys → slice_get keys i ≡ Some n
found_node n keys i e =
    let found = position_passes (ghosts.eq n) keys i e in
    found.1 ∙ ap Some (sym (eq_tells n found.0 found.2))
