-- Device: the function type that the code's own account of a called function tells.
use Rattle.std.specs.Prelude.{◌≡◌, Option, Some, None}
use Rattle.type_graph.specs.Arena.{Graph}
use Rattle.type_graph.specs.Shapes.{FuncType, shape}
use Rattle.cast_rules.specs.declared.calls.Callee.{Callee}
use Rattle.cast_rules.specs.Calls.{Function, count_shapes}

pub record IsFunction (g : Graph) (f : Function) (c : Callee) : Type 0 where
  pub of : shape g.nodes c.of.0 ≡ FuncType f.ret f.params f.proto f.variadic
  pub ret : shape g.nodes c.ret.0 ≡ f.ret
  pub count : count_shapes f.params ≡ c.count
  pub proto : f.proto ≡ c.proto
  pub variadic : f.variadic ≡ c.variadic

abbrev pub IsCallee : Graph → Option Function → Option Callee → Type 0
IsCallee g None None = Unit {0}
IsCallee g None (Some c) = ⊥
IsCallee g (Some f) None = ⊥
IsCallee g (Some f) (Some c) = IsFunction g f c
