-- Device: the derived comparisons tell whether heads and labels are equal.
use Rattle.std.proofs.Common.{◌≡◌, ℕ, ℤ, Bool, true, false, ◌&&◌, Option, Some, None, refl, ap, ◌∙◌, eqb, eqb-true, eq-eqb, rules}
use Rattle.std.specs.Cmp.{booleans_Decides, signed_Decides}
use Rattle.std.specs.Option.{option_eq}
use denote.Enum.Bare.{same_true, true_same}
use Rattle.cil_base.specs.contracts.kinds.IntKind.{the_type}
use Rattle.type_graph.specs.contracts.aggregates.AggKind.{the_type as agg_type}
use Rattle.type_things.specs.declared.stems.StemId.{StemId}
use Rattle.type_things.specs.declared.web.Head.{Head}
use Rattle.type_things.specs.declared.web.Head.TheVariants.{Void, Int, Ptr, Array, Func, Agg, Tagged}
use Rattle.type_things.specs.declared.web.Label.{Label}
use Rattle.type_things.specs.contracts.web.HeadPartialEq.TheImpl.{ghosts}
use Rattle.type_things.specs.contracts.web.LabelPartialEq.TheImpl.{ghosts as label_ghosts}

pub joined : (p q : Bool) → p ≡ true → q ≡ true → p && q ≡ true
joined p q e f = ap (λ b. b && q) e ∙ f

pub both : (p q : Bool) → p && q ≡ true → (p ≡ true) × (q ≡ true)
both true q h = (refl, h)
both false q h = cc

same_bound : (m n : Option ℕ) → option_eq eqb m n ≡ true → m ≡ n
same_bound None None e = refl
same_bound None (Some n) e = cc
same_bound (Some m) None e = cc
same_bound (Some m) (Some n) e = ap Some (eqb-true m n e)

same_bound_same : (m : Option ℕ) → option_eq eqb m m ≡ true
same_bound_same None = refl
same_bound_same (Some m) = eq-eqb m m refl

same_stem : (s t : StemId) → s.0 ≡ t.0 → s ≡ t
same_stem s t e = let f : ℕ → StemId = λ k. record { 0 = k } in ap f e

pub eq_tells : (x y : Head) → ghosts.eq x y ≡ true → x ≡ y
eq_tells Void Void e = refl
eq_tells (Int a) (Int b) e = ap Int (same_true the_type (search rules) a b e)
eq_tells Ptr Ptr e = refl
eq_tells (Array m) (Array n) e = ap Array (same_bound m n e)
eq_tells (Func v w) (Func x y) e =
    let h = both _ _ e in
    ap (λ (b : Bool). Func b w) ((booleans_Decides v x).0 h.0) ∙ ap (λ (b : Bool). Func x b) ((booleans_Decides w y).0 h.1)
eq_tells Agg Agg e = refl
eq_tells (Tagged k s) (Tagged l t) e =
    let h = both _ _ e in
    ap (λ m. Tagged m s) (same_true agg_type (search rules) k l h.0) ∙ ap (Tagged l) (same_stem s t (eqb-true _ _ h.1))
eq_tells x y e = cc

pub eq_same : (x : Head) → ghosts.eq x x ≡ true
eq_same Void = refl
eq_same (Int k) = true_same the_type k k refl
eq_same Ptr = refl
eq_same (Array m) = same_bound_same m
eq_same (Func v w) = joined _ _ ((booleans_Decides v v).1 refl) ((booleans_Decides w w).1 refl)
eq_same Agg = refl
eq_same (Tagged k s) = joined _ _ (true_same agg_type k k refl) (eq-eqb s.0 s.0 refl)

same_label : (x y : Label) → x.name ≡ y.name → x.value ≡ y.value → x ≡ y
same_label x y e f = ap (λ (n : ℕ). record x { name = n }) e ∙ ap (λ (v : ℤ). record y { value = v }) f

pub label_tells : (x y : Label) → label_ghosts.eq x y ≡ true → x ≡ y
label_tells x y e = (let h = both _ _ e in same_label x y (eqb-true _ _ h.0) ((signed_Decides _ _).0 h.1))

pub label_same : (x : Label) → label_ghosts.eq x x ≡ true
label_same x = joined _ _ (eq-eqb x.name x.name refl) ((signed_Decides x.value x.value).1 refl)
