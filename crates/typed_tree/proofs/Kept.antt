-- Device: a tree whose types stand in a graph is seen the same in a graph that grew from it.
use Rattle.std.proofs.Common.{◌≡◌, ℕ, suc, ◌≤◌, max, Bool, List, [], ◌∷◌, length, refl, ap, ◌∙◌}
use Rattle.std.proofs.Math.Nat.{le-max_left, le-max_right, le_trans}
use Rattle.type_graph.specs.Arena.{Graph}
use Rattle.type_graph.specs.Growth.{Grows}
use Rattle.type_graph.specs.Shapes.{shape}
use Rattle.type_graph.specs.declared.nodes.QualType.{QualType}
use Rattle.type_graph.proofs.ShapeLaws.{kept as shape_kept}
use Rattle.typed_tree.specs.declared.expressions.TypedExp.{TypedExp}
use Rattle.typed_tree.specs.declared.expressions.TypedNode.{TypedNode}
use Rattle.typed_tree.specs.declared.expressions.TypedNode.TheVariants.{Integer, Local, Literal', Entity, Load', Decay', Address', Indirect', Subscript', Member', Convert', Unary', Binary', Logical', Conditional', Comma', Assign', Compute', Step', Call'}
use Rattle.typed_tree.specs.declared.expressions.TypedNode.TheBlock.{Row_of-TypedExp, end_of-TypedExp, more_of-TypedExp, Row_of-InitStep, end_of-InitStep, more_of-InitStep}
use Rattle.typed_tree.specs.declared.initialisers.InitStep.{InitStep}
use Rattle.typed_tree.specs.declared.initialisers.InitStep.TheVariants.{Zero, Scalar', Constant, Aggregate', Bytes}
use Rattle.typed_tree.specs.Tree as plain
use Rattle.typed_tree.specs.View.{having, form_of, arguments_row, init_of, inits_row, typed_of, arguments_of, inits_of}
use Rattle.typed_tree.specs.Top.{over, top_in, top_row, top_step, top_steps, top_of, top_list, top_inits}

pub in_left : (m n k : ℕ) → max m n ≤ k → m ≤ k
in_left m n k below = le_trans (le-max_left m n) below

pub in_right : (m n k : ℕ) → max m n ≤ k → n ≤ k
in_right m n k below = le_trans (le-max_right m n) below

shape_is : (g h : Graph) → Grows g h → (t : ℕ) → suc t ≤ length g.nodes → shape h.nodes t ≡ shape g.nodes t
shape_is g h grows t there = shape_kept g h t grows there

-- one operand: where its form is seen the same, it is
one : (g h : Graph) → Grows g h → (ty : QualType) (effect : Bool) (n : ℕ) (x y : plain.Form) → over ty n ≤ length g.nodes → (n ≤ length g.nodes → x ≡ y) → having h.nodes ty effect x ≡ having g.nodes ty effect y
one g h grows ty effect n x y below same =
    ap (λ s. plain.Has ty.quals s effect x) (shape_is g h grows ty.of.0 (in_left (suc ty.of.0) n (length g.nodes) below)) ∙ ap (having g.nodes ty effect) (same (in_right (suc ty.of.0) n (length g.nodes) below))

pub two : {X Y Z : Type 0} (f : X → Y → Z) {x x' : X} {y y' : Y} → x ≡ x' → y ≡ y' → f x y ≡ f x' y'
two f {x} {x'} {y} {y'} p q = ap (λ z. f z y) p ∙ ap (f x') q

mutual
  pub form_kept : (g h : Graph) → Grows g h → (n : TypedNode) → top_in n ≤ length g.nodes → form_of h.nodes n ≡ form_of g.nodes n
  form_kept g h grows (Integer n) below = refl
  form_kept g h grows (Local n) below = refl
  form_kept g h grows (Literal' n ns steps) below = ap (plain.Literal n) (inits_kept g h grows steps below)
  form_kept g h grows (Entity n) below = refl
  form_kept g h grows (Load' t a p e) below = ap plain.Load (one g h grows t a (top_in e) _ _ below (form_kept g h grows e))
  form_kept g h grows (Decay' t a p e) below = ap plain.Decay (one g h grows t a (top_in e) _ _ below (form_kept g h grows e))
  form_kept g h grows (Address' t a p e) below = ap plain.Address (one g h grows t a (top_in e) _ _ below (form_kept g h grows e))
  form_kept g h grows (Indirect' t a p e) below = ap plain.Indirect (one g h grows t a (top_in e) _ _ below (form_kept g h grows e))
  form_kept g h grows (Subscript' t a p e u b q f) below = two plain.Subscript (one g h grows t a (top_in e) _ _ (in_left (over t (top_in e)) (over u (top_in f)) _ below) (form_kept g h grows e)) (one g h grows u b (top_in f) _ _ (in_right (over t (top_in e)) (over u (top_in f)) _ below) (form_kept g h grows f))
  form_kept g h grows (Member' t a p e x i) below = ap (λ z. plain.Member z x.0 i) (one g h grows t a (top_in e) _ _ below (form_kept g h grows e))
  form_kept g h grows (Convert' t a p e) below = ap plain.Convert (one g h grows t a (top_in e) _ _ below (form_kept g h grows e))
  form_kept g h grows (Unary' op t a p e) below = ap (plain.Unary op) (one g h grows t a (top_in e) _ _ below (form_kept g h grows e))
  form_kept g h grows (Binary' op t a p e u b q f) below = two (plain.Binary op) (one g h grows t a (top_in e) _ _ (in_left (over t (top_in e)) (over u (top_in f)) _ below) (form_kept g h grows e)) (one g h grows u b (top_in f) _ _ (in_right (over t (top_in e)) (over u (top_in f)) _ below) (form_kept g h grows f))
  form_kept g h grows (Logical' op t a p e u b q f) below = two (plain.Logical op) (one g h grows t a (top_in e) _ _ (in_left (over t (top_in e)) (over u (top_in f)) _ below) (form_kept g h grows e)) (one g h grows u b (top_in f) _ _ (in_right (over t (top_in e)) (over u (top_in f)) _ below) (form_kept g h grows f))
  form_kept g h grows (Conditional' t a p e s u b q f v c r k) below =
      let rest : max (over u (top_in f)) (over v (top_in k)) ≤ length g.nodes = in_right (over t (top_in e)) (max (over u (top_in f)) (over v (top_in k))) _ below in
      two (λ x (y : plain.Typed × plain.Typed). plain.Conditional x y.0 y.1) (one g h grows t a (top_in e) _ _ (in_left (over t (top_in e)) (max (over u (top_in f)) (over v (top_in k))) _ below) (form_kept g h grows e)) (two (λ x y. (x, y)) (one g h grows u b (top_in f) _ _ (in_left (over u (top_in f)) (over v (top_in k)) _ rest) (form_kept g h grows f)) (one g h grows v c (top_in k) _ _ (in_right (over u (top_in f)) (over v (top_in k)) _ rest) (form_kept g h grows k)))
  form_kept g h grows (Comma' t a p e u b q f) below = two plain.Comma (one g h grows t a (top_in e) _ _ (in_left (over t (top_in e)) (over u (top_in f)) _ below) (form_kept g h grows e)) (one g h grows u b (top_in f) _ _ (in_right (over t (top_in e)) (over u (top_in f)) _ below) (form_kept g h grows f))
  form_kept g h grows (Assign' t a p e u b q f) below = two plain.Assign (one g h grows t a (top_in e) _ _ (in_left (over t (top_in e)) (over u (top_in f)) _ below) (form_kept g h grows e)) (one g h grows u b (top_in f) _ _ (in_right (over t (top_in e)) (over u (top_in f)) _ below) (form_kept g h grows f))
  form_kept g h grows (Compute' op at t a p e u b q f) below =
      let rest : max (over t (top_in e)) (over u (top_in f)) ≤ length g.nodes = in_right (suc at.0) (max (over t (top_in e)) (over u (top_in f))) _ below in
      ap (λ s. plain.Compute op s (having h.nodes t a (form_of h.nodes e)) (having h.nodes u b (form_of h.nodes f))) (shape_is g h grows at.0 (in_left (suc at.0) (max (over t (top_in e)) (over u (top_in f))) _ below)) ∙ two (plain.Compute op (shape g.nodes at.0)) (one g h grows t a (top_in e) _ _ (in_left (over t (top_in e)) (over u (top_in f)) _ rest) (form_kept g h grows e)) (one g h grows u b (top_in f) _ _ (in_right (over t (top_in e)) (over u (top_in f)) _ rest) (form_kept g h grows f))
  form_kept g h grows (Step' form at t a p e) below = two (plain.Step form) (shape_is g h grows at.0 (in_left (suc at.0) (over t (top_in e)) _ below)) (one g h grows t a (top_in e) _ _ (in_right (suc at.0) (over t (top_in e)) _ below) (form_kept g h grows e))
  form_kept g h grows (Call' t a p e ns es) below = two plain.Call (one g h grows t a (top_in e) _ _ (in_left (over t (top_in e)) (top_row es) _ below) (form_kept g h grows e)) (arguments_kept g h grows es (in_right (over t (top_in e)) (top_row es) _ below))

  arguments_kept : {m : _} (g h : Graph) → Grows g h → (k : Row_of-TypedExp m) → top_row k ≤ length g.nodes → arguments_row h.nodes k ≡ arguments_row g.nodes k
  arguments_kept g h grows end_of-TypedExp below = refl
  arguments_kept g h grows (more_of-TypedExp t a p e rest) below = two plain.MoreArguments (one g h grows t a (top_in e) _ _ (in_left (over t (top_in e)) (top_row rest) _ below) (form_kept g h grows e)) (arguments_kept g h grows rest (in_right (over t (top_in e)) (top_row rest) _ below))

  init_kept : (g h : Graph) → Grows g h → (s : InitStep) → top_step s ≤ length g.nodes → init_of h.nodes s ≡ init_of g.nodes s
  init_kept g h grows (Zero path) below = refl
  init_kept g h grows (Scalar' path t a p e) below = ap (plain.Scalar path.items) (one g h grows t a (top_in e) _ _ below (form_kept g h grows e))
  init_kept g h grows (Constant path value) below = refl
  init_kept g h grows (Aggregate' path t a p e) below = ap (plain.Aggregate path.items) (one g h grows t a (top_in e) _ _ below (form_kept g h grows e))
  init_kept g h grows (Bytes path bytes) below = refl

  inits_kept : {m : _} (g h : Graph) → Grows g h → (k : Row_of-InitStep m) → top_steps k ≤ length g.nodes → inits_row h.nodes k ≡ inits_row g.nodes k
  inits_kept g h grows end_of-InitStep below = refl
  inits_kept g h grows (more_of-InitStep s rest) below = two plain.MoreInits (init_kept g h grows s (in_left (top_step s) (top_steps rest) _ below)) (inits_kept g h grows rest (in_right (top_step s) (top_steps rest) _ below))

pub kept : (g h : Graph) → Grows g h → (e : TypedExp) → top_of e ≤ length g.nodes → typed_of h.nodes e ≡ typed_of g.nodes e
kept g h grows e below = one g h grows e.ty e.effect (top_in e.node.value) _ _ below (form_kept g h grows e.node.value)

pub arguments_are_kept : (g h : Graph) → Grows g h → (es : List TypedExp) → top_list es ≤ length g.nodes → arguments_of h.nodes es ≡ arguments_of g.nodes es
arguments_are_kept g h grows [] below = refl
arguments_are_kept g h grows (e ∷ es) below = two plain.MoreArguments (kept g h grows e (in_left (top_of e) (top_list es) _ below)) (arguments_are_kept g h grows es (in_right (top_of e) (top_list es) _ below))

pub inits_are_kept : (g h : Graph) → Grows g h → (ss : List InitStep) → top_inits ss ≤ length g.nodes → inits_of h.nodes ss ≡ inits_of g.nodes ss
inits_are_kept g h grows [] below = refl
inits_are_kept g h grows (s ∷ ss) below = two plain.MoreInits (init_kept g h grows s (in_left (top_step s) (top_inits ss) _ below)) (inits_are_kept g h grows ss (in_right (top_step s) (top_inits ss) _ below))
