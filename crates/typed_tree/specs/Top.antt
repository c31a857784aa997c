-- Definition: the greatest number of a type in a typed tree of the code, and one more: where it is at most the number of a graph's types, each number is one of them.
use Rattle.std.specs.Prelude.{ℕ, suc, List, [], ◌∷◌, max}
use Rattle.type_graph.specs.declared.nodes.QualType.{QualType}
use Rattle.typed_tree.specs.declared.expressions.TypedExp.{TypedExp}
use Rattle.typed_tree.specs.declared.expressions.TypedNode.{TypedNode}
use Rattle.typed_tree.specs.declared.expressions.TypedNode.TheVariants.{Integer, Local, Literal', Entity, Load', Decay', Address', Indirect', Subscript', Member', Convert', Unary', Binary', Logical', Conditional', Comma', Assign', Compute', Step', Call'}
use Rattle.typed_tree.specs.declared.expressions.TypedNode.TheBlock.{Row_of-TypedExp, end_of-TypedExp, more_of-TypedExp, Row_of-InitStep, end_of-InitStep, more_of-InitStep}
use Rattle.typed_tree.specs.declared.initialisers.InitStep.{InitStep}
use Rattle.typed_tree.specs.declared.initialisers.InitStep.TheVariants.{Zero, Scalar', Constant, Aggregate', Bytes}
use Rattle.typed_tree.specs.declared.initialisers.TypedInit.{TypedInit}

-- of a type over what stands in its expression
abbrev pub over : QualType → ℕ → ℕ
over ty n = max (suc ty.of.0) n

abbrev mutual
  pub top_in : TypedNode → ℕ
  top_in (Integer n) = 0
  top_in (Local n) = 0
  top_in (Literal' n ns steps) = top_steps steps
  top_in (Entity n) = 0
  top_in (Load' t a p e) = over t (top_in e)
  top_in (Decay' t a p e) = over t (top_in e)
  top_in (Address' t a p e) = over t (top_in e)
  top_in (Indirect' t a p e) = over t (top_in e)
  top_in (Subscript' t a p e u b q f) = max (over t (top_in e)) (over u (top_in f))
  top_in (Member' t a p e g i) = over t (top_in e)
  top_in (Convert' t a p e) = over t (top_in e)
  top_in (Unary' op t a p e) = over t (top_in e)
  top_in (Binary' op t a p e u b q f) = max (over t (top_in e)) (over u (top_in f))
  top_in (Logical' op t a p e u b q f) = max (over t (top_in e)) (over u (top_in f))
  top_in (Conditional' t a p e s u b q f v c r g) = max (over t (top_in e)) (max (over u (top_in f)) (over v (top_in g)))
  top_in (Comma' t a p e u b q f) = max (over t (top_in e)) (over u (top_in f))
  top_in (Assign' t a p e u b q f) = max (over t (top_in e)) (over u (top_in f))
  top_in (Compute' op at t a p e u b q f) = max (suc at.0) (max (over t (top_in e)) (over u (top_in f)))
  top_in (Step' form at t a p e) = max (suc at.0) (over t (top_in e))
  top_in (Call' t a p e ns es) = max (over t (top_in e)) (top_row es)

  pub top_row : {m : _} → Row_of-TypedExp m → ℕ
  top_row end_of-TypedExp = 0
  top_row (more_of-TypedExp t a p e rest) = max (over t (top_in e)) (top_row rest)

  pub top_step : InitStep → ℕ
  top_step (Zero path) = 0
  top_step (Scalar' path t a p e) = over t (top_in e)
  top_step (Constant path value) = 0
  top_step (Aggregate' path t a p e) = over t (top_in e)
  top_step (Bytes path bytes) = 0

  pub top_steps : {m : _} → Row_of-InitStep m → ℕ
  top_steps end_of-InitStep = 0
  top_steps (more_of-InitStep s rest) = max (top_step s) (top_steps rest)

abbrev pub top_of : TypedExp → ℕ
top_of e = over e.ty (top_in e.node.value)

abbrev pub top_list : List TypedExp → ℕ
top_list [] = 0
top_list (e ∷ es) = max (top_of e) (top_list es)

abbrev pub top_inits : List InitStep → ℕ
top_inits [] = 0
top_inits (s ∷ ss) = max (top_step s) (top_inits ss)

abbrev pub top_init : TypedInit → ℕ
top_init init = top_inits init.steps.items
