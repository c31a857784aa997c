-- Device: what makes a loaded function one of a CIL program.
use Rattle.std.specs.Prelude.{◌≡◌, ℕ, ◌<◌, Bool, List, length, map, Some}
use Rattle.type_graph.specs.Shapes.{Shape, Shapes, FuncType}
use Rattle.execution.specs.Calls as meaning
use Rattle.execution.specs.Calls.{Code, value_at_end}
use Rattle.cil_tree.specs.Tree.{Program, Body}
use Rattle.cil_tree.specs.Typing.{scope_of}
use Rattle.cil_semantics.specs.Values.{kind_in}
use Rattle.cil_semantics.specs.Runs.{kinds_of, body_objects, function_meaning}
use Rattle.cil_semantics.specs.Laws.{calls_in}
use Rattle.cil_code.specs.Calling.{kind_from}
use Rattle.cil_code.specs.Leading.{LeadOn}
use Rattle.cil_code.specs.Taking.{datum_of}
use Rattle.cil_code.specs.Running.{Runs, remains_at}
use Rattle.cil_frames.specs.declared.frames.Function.{Function}
use Rattle.cil_frames.specs.Entering.{objects_of}
use Rattle.cil_frames.specs.Frames.{IsFunction}

-- a function of a program, with those parameters and that result, loaded: its body runs from step to step, and its kinds and objects are the program's
pub record IsLoaded (programs : List Program) (p : Program) (entities : List ℕ) (main : Bool) (b : Body) (ret : Shape) (params : Shapes) (g : Function) : Type 0 where
  pub runs : Runs programs (scope_of p b) entities (datum_of g.end) b.stmts g.code.items
  pub end : datum_of g.end ≡ value_at_end main (kind_in p.graph ret)
  pub parameters : map kind_from g.parameters.items ≡ kinds_of p.graph params
  pub result : kind_from g.result ≡ kind_in p.graph ret
  pub objects : objects_of g.objects.items ≡ body_objects p.graph b
  pub leads : LeadOn g.code.items
  pub there : 0 < length g.code.items

-- a loaded function means what the program's does
abbrev pub LoadedFunctionsAreMeant : Type 0
LoadedFunctionsAreMeant =
    (programs : List Program) (p : Program) (entities : List ℕ) (main : Bool) (b : Body) (ret : Shape) (params : Shapes) (proto variadic : Bool) (f : meaning.Function) (g : Function)
    → function_meaning p entities main b (FuncType ret params proto variadic) ≡ Some (Code f) → IsLoaded programs p entities main b ret params g
    → IsFunction p.graph.abi (calls_in programs) (λ act. remains_at programs (scope_of p b) entities act (datum_of g.end) b.stmts) f g
