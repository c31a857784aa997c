-- Device: the composite of a type with itself is that type.
use Rattle.std.proofs.Common.{◌≡◌, ℕ, true, false, Option, Some, None, List, refl, sym, ap, ◌∙◌, eqb, eqb-true}
use Rattle.type_graph.specs.declared.nodes.Node.{Node}
use Rattle.type_graph.specs.Shapes.{Shape, Shapes, VoidType, IntType, PtrType, ArrayType, FuncType, AggType, NoTypes, MoreTypes, shape}
use Rattle.type_compat.specs.Composed.{known_bound, composite_shape, composite_shapes}

bound_itself : (m : Option ℕ) → known_bound m m ≡ m
bound_itself None = refl
bound_itself (Some m) = refl

mutual
  pub composite_itself : (s : Shape) → composite_shape s s ≡ s
  composite_itself VoidType = refl
  composite_itself (IntType k) = refl
  composite_itself (PtrType q s) = ap (PtrType q) (composite_itself s)
  composite_itself (ArrayType q s m) = ap (λ (x : Shape). ArrayType q x (known_bound m m)) (composite_itself s) ∙ ap (ArrayType q s) (bound_itself m)
  composite_itself (FuncType r ps true v) = ap (λ (x : Shape). FuncType x (composite_shapes ps ps) true v) (composite_itself r) ∙ ap (λ (xs : Shapes). FuncType r xs true v) (each_itself ps)
  composite_itself (FuncType r ps false v) = ap (λ (x : Shape). FuncType x ps false v) (composite_itself r)
  composite_itself (AggType a) = refl

  each_itself : (ss : Shapes) → composite_shapes ss ss ≡ ss
  each_itself NoTypes = refl
  each_itself (MoreTypes s ss) = ap (λ (x : Shape). MoreTypes x (composite_shapes ss ss)) (composite_itself s) ∙ ap (MoreTypes s) (each_itself ss)

pub same_is_composed : (ns : List Node) (a b : ℕ) → eqb a b ≡ true → shape ns a ≡ composite_shape (shape ns a) (shape ns b)
same_is_composed ns a b e = sym (ap (λ k. composite_shape (shape ns a) (shape ns k)) (sym (eqb-true a b e)) ∙ composite_itself (shape ns a))
