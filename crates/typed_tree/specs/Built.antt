-- Definition: what is built: an expression that is seen, at each graph, as a form at a type, or a step of an initialiser that is seen as one, whose numbers of types are no greater than these.
use Rattle.std.specs.Prelude.{◌≡◌, ℕ, Bool, List}
use Rattle.type_graph.specs.declared.nodes.Node.{Node}
use Rattle.type_graph.specs.declared.nodes.QualType.{QualType}
use Rattle.typed_tree.specs.declared.expressions.TypedExp.{TypedExp}
use Rattle.typed_tree.specs.declared.initialisers.InitStep.{InitStep}
use Rattle.typed_tree.specs.Tree.{Form, Init}
use Rattle.typed_tree.specs.View.{having, typed_of, init_of}
use Rattle.typed_tree.specs.Top.{over, top_of, top_step}

-- an expression of a type, with an effect in it or without, of a form
pub record IsBuilt (ty : QualType) (effect : Bool) (form : List Node → Form) (top : ℕ) (e : TypedExp) : Type 0 where
  pub made : (nodes : List Node) → typed_of nodes e ≡ having nodes ty effect (form nodes)
  pub greatest : top_of e ≡ over ty top

-- what an initialiser does to a part of its object
pub record IsInitStep (is : List Node → Init) (top : ℕ) (s : InitStep) : Type 0 where
  pub made : (nodes : List Node) → init_of nodes s ≡ is nodes
  pub greatest : top_step s ≡ top
