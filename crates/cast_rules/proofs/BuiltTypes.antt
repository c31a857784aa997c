-- Device: the type of what is built, in each graph.
use Rattle.std.proofs.Common.{◌≡◌, ℕ, Bool, List, ap}
use Rattle.type_graph.specs.declared.nodes.Node.{Node}
use Rattle.type_graph.specs.declared.nodes.QualType.{QualType}
use Rattle.type_graph.specs.Shapes.{shape}
use Rattle.typed_tree.specs.declared.expressions.TypedExp.{TypedExp}
use Rattle.typed_tree.specs.Built.{IsBuilt}
use Rattle.typed_tree.specs.Tree.{Form, shape_in}

pub shape_built : (ty : QualType) (effect : Bool) (form : List Node → Form) (top : ℕ) (e : TypedExp) (nodes : List Node) → IsBuilt ty effect form top e → shape nodes e.ty.of.0 ≡ shape nodes ty.of.0
shape_built ty effect form top e nodes built = ap shape_in (built.made nodes)
