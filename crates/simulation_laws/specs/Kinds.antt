-- Device: a type whose values are read has a kind, the size of the kind, and is read as itself (C11 6.2.5p1, 6.2.6.1, 6.3.2.1p2).
use Rattle.std.specs.Prelude.{◌≡◌, ℕ, true, false, Some}
use Rattle.cil_base.specs.declared.kinds.Abi.{Abi}
use Rattle.byte_mem.specs.Scalar.{scalar_size}
use Rattle.type_graph.specs.Shapes.{Shape}
use Rattle.type_graph.specs.Arena.{Graph, IsArena, complete_shape}
use Rattle.execution.specs.Data.{Kind, OfVoid, OfScalar, OfAggregate}
use Rattle.cil_tree.specs.Typing.{Scope, is_array, read_type}
use Rattle.cil_semantics.specs.Values.{kind_in, size_in}

abbrev pub kind_size : Abi → Kind → ℕ
kind_size abi OfVoid = 0
kind_size abi (OfScalar s) = scalar_size abi s
kind_size abi (OfAggregate size) = size

pub record IsStored (g : Graph) (s : Shape) : Type 0 where
  pub kind : Kind
  pub kind_is : kind_in g s ≡ Some kind
  pub size_is : size_in g s ≡ Some (kind_size g.abi kind)
  pub read : (c : Scope) → c.program.graph ≡ g → read_type c s ≡ Some s

-- complete types but for arrays
abbrev pub TypesAreStored : Type 0
TypesAreStored = (g : Graph) (s : Shape) → IsArena g → complete_shape g.aggs s ≡ true → is_array s ≡ false → IsStored g s
