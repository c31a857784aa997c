-- Device: the test of equal types tells equality.
use Rattle.std.proofs.Common.{◌≡◌, ◌↔◌, ℕ, Bool, true, false, ◌&&◌, Option, Some, None, List, [], ◌∷◌, slice_index_or, refl, sym, ap, ◌∙◌, eq-eqb, eqb-true}
use Rattle.cil_base.specs.declared.kinds.IntKind.{IntKind}
use Rattle.cil_base.specs.declared.kinds.IntKind.TheVariants as kind
use Rattle.cil_base.specs.Kinds.{same_kind}
use Rattle.cil_base.proofs.KindLaws.{kind_told, kind_itself}
use Rattle.type_graph.specs.declared.nodes.Quals.{Quals}
use Rattle.type_graph.specs.Shapes.{Shape, Shapes, VoidType, IntType, PtrType, ArrayType, FuncType, AggType, NoTypes, MoreTypes}
use Rattle.cil_tree.specs.Typing.{same_truth, same_quals, same_bound, same_shape, same_shapes}

both : (p q : Bool) → p && q ≡ true → (p ≡ true) × (q ≡ true)
both true q e = (refl, e)
both false q e = cc

joined : (p q : Bool) → p ≡ true → q ≡ true → p && q ≡ true
joined p q e f = ap (λ b. b && q) e ∙ f

truth_told : (a b : Bool) → same_truth a b ≡ true → a ≡ b
truth_told true true e = refl
truth_told true false e = cc
truth_told false true e = cc
truth_told false false e = refl

truth_itself : (a : Bool) → same_truth a a ≡ true
truth_itself true = refl
truth_itself false = refl

quals_told : (p q : Quals) → same_quals p q ≡ true → p ≡ q
quals_told p q e =
    let h = both (same_truth p.constant q.constant) (same_truth p.restricted q.restricted) e in
    ap (λ (b : Bool). record p { constant = b }) (truth_told p.constant q.constant h.0) ∙ ap (λ (b : Bool). record q { restricted = b }) (truth_told p.restricted q.restricted h.1)

quals_itself : (p : Quals) → same_quals p p ≡ true
quals_itself p = joined (same_truth p.constant p.constant) (same_truth p.restricted p.restricted) (truth_itself p.constant) (truth_itself p.restricted)

bound_told : (m n : Option ℕ) → same_bound m n ≡ true → m ≡ n
bound_told None None e = refl
bound_told None (Some n) e = cc
bound_told (Some m) None e = cc
bound_told (Some m) (Some n) e = ap Some (eqb-true m n e)

bound_itself : (m : Option ℕ) → same_bound m m ≡ true
bound_itself None = refl
bound_itself (Some m) = eq-eqb m m refl

mutual
  pub shape_told : (s t : Shape) → same_shape s t ≡ true → s ≡ t
  shape_told VoidType VoidType e = refl
  shape_told (IntType k) (IntType l) e = ap IntType (kind_told k l e)
  shape_told (PtrType p s) (PtrType q t) e =
      let h = both (same_quals p q) (same_shape s t) e in
      ap (λ (x : Quals). PtrType x s) (quals_told p q h.0) ∙ ap (PtrType q) (shape_told s t h.1)
  shape_told (ArrayType p s m) (ArrayType q t n) e =
      let h = both (same_quals p q) (same_bound m n && same_shape s t) e in
      let k = both (same_bound m n) (same_shape s t) h.1 in
      ap (λ (x : Quals). ArrayType x s m) (quals_told p q h.0) ∙ ap (λ (x : Shape). ArrayType q x m) (shape_told s t k.1) ∙ ap (ArrayType q t) (bound_told m n k.0)
  shape_told (FuncType r ss p v) (FuncType s ts q w) e =
      let h = both (same_shape r s) (same_shapes ss ts && (same_truth p q && same_truth v w)) e in
      let k = both (same_shapes ss ts) (same_truth p q && same_truth v w) h.1 in
      let l = both (same_truth p q) (same_truth v w) k.1 in
      ap (λ (x : Shape). FuncType x ss p v) (shape_told r s h.0) ∙ ap (λ (x : Shapes). FuncType s x p v) (shapes_told ss ts k.0)
      ∙ ap (λ (b : Bool). FuncType s ts b v) (truth_told p q l.0) ∙ ap (FuncType s ts q) (truth_told v w l.1)
  shape_told (AggType a) (AggType b) e = ap AggType (eqb-true a b e)
  shape_told s t e = cc

  shapes_told : (ss ts : Shapes) → same_shapes ss ts ≡ true → ss ≡ ts
  shapes_told NoTypes NoTypes e = refl
  shapes_told NoTypes (MoreTypes t ts) e = cc
  shapes_told (MoreTypes s ss) NoTypes e = cc
  shapes_told (MoreTypes s ss) (MoreTypes t ts) e =
      let h = both (same_shape s t) (same_shapes ss ts) e in
      ap (λ (x : Shape). MoreTypes x ss) (shape_told s t h.0) ∙ ap (MoreTypes t) (shapes_told ss ts h.1)

mutual
  pub shape_itself : (s : Shape) → same_shape s s ≡ true
  shape_itself VoidType = refl
  shape_itself (IntType k) = kind_itself k
  shape_itself (PtrType p s) = joined (same_quals p p) (same_shape s s) (quals_itself p) (shape_itself s)
  shape_itself (ArrayType p s m) = joined (same_quals p p) (same_bound m m && same_shape s s) (quals_itself p) (joined (same_bound m m) (same_shape s s) (bound_itself m) (shape_itself s))
  shape_itself (FuncType r ss p v) =
      joined (same_shape r r) (same_shapes ss ss && (same_truth p p && same_truth v v)) (shape_itself r)
      (joined (same_shapes ss ss) (same_truth p p && same_truth v v) (shapes_itself ss) (joined (same_truth p p) (same_truth v v) (truth_itself p) (truth_itself v)))
  shape_itself (AggType a) = eq-eqb a a refl

  shapes_itself : (ss : Shapes) → same_shapes ss ss ≡ true
  shapes_itself NoTypes = refl
  shapes_itself (MoreTypes s ss) = joined (same_shape s s) (same_shapes ss ss) (shape_itself s) (shapes_itself ss)

pub same_is_equal : (s t : Shape) → same_shape s t ≡ true ↔ s ≡ t
same_is_equal s t = (shape_told s t, λ e. ap (λ (x : Shape). same_shape s x) (sym e) ∙ shape_itself s)
