-- Definition: a use of an object or function at another type (C11 6.5.3.2, 6.5.4): what its address points to, cast to a pointer to that type.
use Rattle.std.specs.Prelude.{◌≡◌, ℕ, List, Option}
use Rattle.cil_base.specs.declared.numbers.TypeId.{TypeId}
use Rattle.type_graph.specs.declared.nodes.Node.{Node}
use Rattle.type_graph.specs.Shapes.{Shape}
use Rattle.cil_tree.specs.declared.expressions.Exp.{Exp as SeenExp}
use Rattle.cil_tree.specs.declared.expressions.Host.{Host as SeenHost}
use Rattle.cil_tree.specs.Tree.{Exp, Cast, AddrOf, Place, Global, Here, At}
use Rattle.cil_tree.specs.View.{exp_of, host_of, type_at}

-- `( P ) ( & x )`
abbrev pub retyped_pointer : Option Shape → ℕ → Exp
retyped_pointer pointer entity = Cast pointer (AddrOf (Place (Global entity) Here))

pub record IsRetypedPointer (to : TypeId) (entity : ℕ) (e : SeenExp) : Type 0 where
  pub at : (nodes : List Node) → exp_of nodes e ≡ retyped_pointer (type_at nodes to) entity

-- `* ( P ) ( & x )`
pub record IsRetyped (to : TypeId) (entity : ℕ) (h : SeenHost) : Type 0 where
  pub at : (nodes : List Node) → host_of nodes h ≡ At (retyped_pointer (type_at nodes to) entity)
