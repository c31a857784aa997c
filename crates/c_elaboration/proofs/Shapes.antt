-- Device: the test of one type tells equality, and a conversion that is no node is one between two types that differ in the qualifiers of what they point to alone.
use Rattle.std.proofs.Common.{◌≡◌, ◌⊎◌, inl, inr, ℕ, Bool, true, false, ◌&&◌, Option, Some, None, refl, sym, ap, ◌∙◌, eqb-true, eq-eqb}
use Rattle.std.specs.Bool.{beq}
use Rattle.cil_base.proofs.KindLaws.{kind_told, kind_itself}
use Rattle.type_graph.specs.declared.nodes.Quals.{Quals}
use Rattle.type_graph.specs.Shapes.{Shape, Shapes, VoidType, IntType, PtrType, ArrayType, FuncType, AggType, NoTypes, MoreTypes}
use Rattle.type_compat.specs.Compatible.{same_quals}
use Rattle.c_rules.specs.Conversions.{same_bound, same_shape, same_shapes, alike}

both : (p q : Bool) → p && q ≡ true → (p ≡ true) × (q ≡ true)
both true q e = (refl, e)
both false q e = cc

joined : (p q : Bool) → p ≡ true → q ≡ true → p && q ≡ true
joined p q e f = ap (λ b. b && q) e ∙ f

truth_told : (a b : Bool) → beq a b ≡ true → a ≡ b
truth_told true true e = refl
truth_told true false e = cc
truth_told false true e = cc
truth_told false false e = refl

truth_itself : (a : Bool) → beq a a ≡ true
truth_itself true = refl
truth_itself false = refl

quals_told : (p q : Quals) → same_quals p q ≡ true → p ≡ q
quals_told p q e =
    let h = both (beq p.constant q.constant) (beq p.restricted q.restricted) e in
    ap (λ (b : Bool). record p { constant = b }) (truth_told p.constant q.constant h.0) ∙ ap (λ (b : Bool). record q { restricted = b }) (truth_told p.restricted q.restricted h.1)

quals_itself : (p : Quals) → same_quals p p ≡ true
quals_itself p = joined (beq p.constant p.constant) (beq p.restricted p.restricted) (truth_itself p.constant) (truth_itself p.restricted)

bound_told : (m n : Option ℕ) → same_bound m n ≡ true → m ≡ n
bound_told None None e = refl
bound_told None (Some n) e = cc
bound_told (Some m) None e = cc
bound_told (Some m) (Some n) e = ap Some (eqb-true m n e)

bound_itself : (m : Option ℕ) → same_bound m m ≡ true
bound_itself None = refl
bound_itself (Some m) = eq-eqb m m refl

mutual
  pub shape_told : (s t : Shape) → same_shape s t ≡ true → s ≡ t
  shape_told VoidType VoidType e = refl
  shape_told (IntType k) (IntType l) e = ap IntType (kind_told k l e)
  shape_told (PtrType p s) (PtrType q t) e =
      let h = both (same_quals p q) (same_shape s t) e in
      ap (λ (x : Quals). PtrType x s) (quals_told p q h.0) ∙ ap (PtrType q) (shape_told s t h.1)
  shape_told (ArrayType p s m) (ArrayType q t n) e =
      let h = both (same_quals p q) (same_bound m n && same_shape s t) e in
      let k = both (same_bound m n) (same_shape s t) h.1 in
      ap (λ (x : Quals). ArrayType x s m) (quals_told p q h.0) ∙ ap (λ (x : Shape). ArrayType q x m) (shape_told s t k.1) ∙ ap (ArrayType q t) (bound_told m n k.0)
  shape_told (FuncType r ss p v) (FuncType u ts q w) e =
      let h = both (same_shape r u) (beq p q && (beq v w && same_shapes ss ts)) e in
      let k = both (beq p q) (beq v w && same_shapes ss ts) h.1 in
      let l = both (beq v w) (same_shapes ss ts) k.1 in
      ap (λ (x : Shape). FuncType x ss p v) (shape_told r u h.0) ∙ ap (λ (x : Shapes). FuncType u x p v) (shapes_told ss ts l.1) ∙ ap (λ (b : Bool). FuncType u ts b v) (truth_told p q k.0) ∙ ap (FuncType u ts q) (truth_told v w l.0)
  shape_told (AggType a) (AggType b) e = ap AggType (eqb-true a b e)
  shape_told s t e = cc

  shapes_told : (ss ts : Shapes) → same_shapes ss ts ≡ true → ss ≡ ts
  shapes_told NoTypes NoTypes e = refl
  shapes_told NoTypes (MoreTypes t ts) e = cc
  shapes_told (MoreTypes s ss) NoTypes e = cc
  shapes_told (MoreTypes s ss) (MoreTypes t ts) e =
      let h = both (same_shape s t) (same_shapes ss ts) e in
      ap (λ (x : Shape). MoreTypes x ss) (shape_told s t h.0) ∙ ap (MoreTypes t) (shapes_told ss ts h.1)

mutual
  pub shape_itself : (s : Shape) → same_shape s s ≡ true
  shape_itself VoidType = refl
  shape_itself (IntType k) = kind_itself k
  shape_itself (PtrType p s) = joined (same_quals p p) (same_shape s s) (quals_itself p) (shape_itself s)
  shape_itself (ArrayType p s m) = joined (same_quals p p) (same_bound m m && same_shape s s) (quals_itself p) (joined (same_bound m m) (same_shape s s) (bound_itself m) (shape_itself s))
  shape_itself (FuncType r ss p v) =
      joined (same_shape r r) (beq p p && (beq v v && same_shapes ss ss)) (shape_itself r)
      (joined (beq p p) (beq v v && same_shapes ss ss) (truth_itself p) (joined (beq v v) (same_shapes ss ss) (truth_itself v) (shapes_itself ss)))
  shape_itself (AggType a) = eq-eqb a a refl

  shapes_itself : (ss : Shapes) → same_shapes ss ss ≡ true
  shapes_itself NoTypes = refl
  shapes_itself (MoreTypes s ss) = joined (same_shape s s) (same_shapes ss ss) (shape_itself s) (shapes_itself ss)

-- one type, or pointers to one type that is qualified in two ways
abbrev pub Near : Shape → Shape → Type 0
Near s t = (s ≡ t) ⊎ ((x : Quals × Quals × Shape) × (s ≡ PtrType x.0 x.2) × (t ≡ PtrType x.1 x.2))

pub near : (s t : Shape) → alike s t ≡ true → Near s t
near VoidType t e = inl (shape_told VoidType t e)
near (IntType k) t e = inl (shape_told (IntType k) t e)
near (PtrType p s) VoidType e = cc
near (PtrType p s) (IntType k) e = cc
near (PtrType p s) (PtrType q t) e = inr ((p, q, t), ap (PtrType p) (shape_told s t e), refl)
near (PtrType p s) (ArrayType q t n) e = cc
near (PtrType p s) (FuncType r ss q v) e = cc
near (PtrType p s) (AggType a) e = cc
near (ArrayType p s m) t e = inl (shape_told (ArrayType p s m) t e)
near (FuncType r ss p v) t e = inl (shape_told (FuncType r ss p v) t e)
near (AggType a) t e = inl (shape_told (AggType a) t e)

pub alike_itself : (s : Shape) → alike s s ≡ true
alike_itself VoidType = refl
alike_itself (IntType k) = shape_itself (IntType k)
alike_itself (PtrType p s) = shape_itself s
alike_itself (ArrayType p s m) = shape_itself (ArrayType p s m)
alike_itself (FuncType r ss p v) = shape_itself (FuncType r ss p v)
alike_itself (AggType a) = shape_itself (AggType a)

-- what does not look at the qualifiers of what is pointed to is the same of both
pub near_same : {C : Type 0} (f : Shape → C) → ((p q : Quals) (u : Shape) → f (PtrType p u) ≡ f (PtrType q u)) → (s t : Shape) → Near s t → f s ≡ f t
near_same f h s t (inl e) = ap f e
near_same f h s t (inr x) = ap f x.1 ∙ (h x.0.0 x.0.1 x.0.2 ∙ sym (ap f x.2))
