-- Device: what the parts of a loaded function are those of.
use Rattle.std.specs.Prelude.{◌≡◌, ℕ, ◌<◌, Bool, List, length, map, Option}
use Rattle.cil_base.specs.declared.numbers.TypeId.{TypeId}
use Rattle.byte_mem.specs.Steps.{◌>>=◌}
use Rattle.type_graph.specs.Shapes.{Shape, Shapes}
use Rattle.type_graph.specs.Arena.{Graph}
use Rattle.execution.specs.Calls.{value_at_end}
use Rattle.cil_tree.specs.Tree.{Body}
use Rattle.cil_tree.specs.Typing.{Scope}
use Rattle.cil_tree.specs.View.{type_at}
use Rattle.cil_semantics.specs.Values.{size_in, kind_in}
use Rattle.cil_semantics.specs.Runs.{kinds_of, body_objects}
use Rattle.cil_code.specs.Calling.{kind_from}
use Rattle.cil_code.specs.Doing.{AreSteps}
use Rattle.cil_code.specs.Taking.{datum_of}
use Rattle.cil_code.specs.Running.{steps_of}
use Rattle.cil_frames.specs.declared.frames.Function.{Function}
use Rattle.cil_frames.specs.Entering.{objects_of}
use Rattle.cil_code.specs.Leading.{LeadOn}

-- the size of a type, if the graph has it and it is complete
abbrev pub size_at : Graph → TypeId → Option ℕ
size_at g t = type_at g.nodes t >>= size_in g

-- the parts of a loaded function are those of a body, where the function has that result and those parameters
pub record HasParts (c : Scope) (entities : List ℕ) (main : Bool) (b : Body) (ret : Shape) (params : Shapes) (f : Function) : Type 0 where
  pub steps : AreSteps c entities (steps_of b.stmts) f.code.items
  pub end : datum_of f.end ≡ value_at_end main (kind_in c.program.graph ret)
  pub parameters : map kind_from f.parameters.items ≡ kinds_of c.program.graph params
  pub result : kind_from f.result ≡ kind_in c.program.graph ret
  pub objects : objects_of f.objects.items ≡ body_objects c.program.graph b
  pub leads : LeadOn f.code.items
  pub there : 0 < length f.code.items
