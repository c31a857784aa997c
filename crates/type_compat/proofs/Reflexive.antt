-- Device: each type is compatible with itself.
use Rattle.std.proofs.Common.{◌≡◌, ℕ, Bool, true, false, ◌&&◌, Option, Some, None, List, refl, sym, ap, ◌∙◌, eqb, eqb-true, eq-eqb}
use Rattle.std.specs.Cmp.{booleans_Decides}
use mathlib.Core.Bool.{beq}
use denote.Enum.Bare.{true_same}
use Rattle.cil_base.specs.contracts.kinds.IntKind.{the_type}
use Rattle.type_graph.specs.declared.aggregates.Aggregate.{Aggregate}
use Rattle.type_graph.specs.declared.nodes.Node.{Node}
use Rattle.type_graph.specs.declared.nodes.Quals.{Quals}
use Rattle.type_graph.specs.Shapes.{Shape, Shapes, VoidType, IntType, PtrType, ArrayType, FuncType, AggType, NoTypes, MoreTypes, shape}
use Rattle.type_compat.specs.Compatible.{same_quals, same_bounds, compatible_shape, compatible_shapes}

joined : (p q : Bool) → p ≡ true → q ≡ true → p && q ≡ true
joined p q e f = ap (λ b. b && q) e ∙ f

bool_itself : (b : Bool) → beq b b ≡ true
bool_itself b = (booleans_Decides b b).1 refl

quals_itself : (q : Quals) → same_quals q q ≡ true
quals_itself q = joined (beq q.constant q.constant) (beq q.restricted q.restricted) (bool_itself q.constant) (bool_itself q.restricted)

bounds_itself : (m : Option ℕ) → same_bounds m m ≡ true
bounds_itself None = refl
bounds_itself (Some m) = eq-eqb m m refl

mutual
  pub itself : (aggs : List Aggregate) (s : Shape) → compatible_shape aggs s s ≡ true
  itself aggs VoidType = refl
  itself aggs (IntType k) = true_same the_type k k refl
  itself aggs (PtrType q s) = joined (same_quals q q) (compatible_shape aggs s s) (quals_itself q) (itself aggs s)
  itself aggs (ArrayType q s m) = joined (same_quals q q) (same_bounds m m && compatible_shape aggs s s) (quals_itself q) (joined (same_bounds m m) (compatible_shape aggs s s) (bounds_itself m) (itself aggs s))
  itself aggs (FuncType r ps true v) = joined (compatible_shape aggs r r) (beq v v && compatible_shapes aggs ps ps) (itself aggs r) (joined (beq v v) (compatible_shapes aggs ps ps) (bool_itself v) (all_itself aggs ps))
  itself aggs (FuncType r ps false v) = itself aggs r
  itself aggs (AggType a) = eq-eqb a a refl

  all_itself : (aggs : List Aggregate) (ss : Shapes) → compatible_shapes aggs ss ss ≡ true
  all_itself aggs NoTypes = refl
  all_itself aggs (MoreTypes s ss) = joined (compatible_shape aggs s s) (compatible_shapes aggs ss ss) (itself aggs s) (all_itself aggs ss)

pub same_number : (aggs : List Aggregate) (ns : List Node) (a b : ℕ) → eqb a b ≡ true → true ≡ compatible_shape aggs (shape ns a) (shape ns b)
same_number aggs ns a b e = sym (ap (λ k. compatible_shape aggs (shape ns a) (shape ns k)) (sym (eqb-true a b e)) ∙ itself aggs (shape ns a))
