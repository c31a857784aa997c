-- Device: what remains at each place of the functions of linked programs.
use Rattle.std.specs.Prelude.{ℕ, Bool, List, Option, Some, None, slice_get}
use Rattle.cil_base.specs.declared.numbers.EntityId.{EntityId}
use Rattle.type_graph.specs.Shapes.{Shape, FuncType}
use Rattle.execution.specs.States.{Undefined}
use Rattle.execution.specs.Calls.{value_at_end}
use Rattle.cil_tree.specs.Tree.{Definition, Function, GlobalDecl, Program}
use Rattle.cil_tree.specs.Typing.{scope_of, global_at}
use Rattle.cil_semantics.specs.Values.{kind_in}
use Rattle.cil_semantics.specs.Runs.{is_main}
use Rattle.cil_control.specs.Remains.{Remains}
use Rattle.cil_code.specs.Running.{remains_at}
use Rattle.cil_frames.specs.Frames.{Courses}
use Rattle.cil_link.specs.declared.entities.Definer.{Definer}
use Rattle.cil_link.specs.declared.entities.Definer.TheVariants.{Nothing, Global, Host}
use Rattle.cil_link.specs.Entities.{InRun, in_run}

-- what is no function has no places
abbrev pub nowhere : ℕ → ℕ → Remains
nowhere act place s = Undefined s

-- what remains in a function of that type of one of the programs, main or another
abbrev pub function_course : List Program → InRun → Bool → Option Shape → Definition → ℕ → ℕ → Remains
function_course programs u main (Some (FuncType ret params proto variadic)) (Function b) =
    λ act. remains_at programs (scope_of u.program b) u.entities act (value_at_end main (kind_in u.program.graph ret)) b.stmts
function_course programs u main _ _ = nowhere

-- in a global
abbrev pub global_course : List Program → InRun → Option GlobalDecl → ℕ → ℕ → Remains
global_course programs u None = nowhere
global_course programs u (Some x) = function_course programs u (is_main x) x.type x.definition

abbrev pub unit_course : List Program → Option InRun → EntityId → ℕ → ℕ → Remains
unit_course programs None e = nowhere
unit_course programs (Some u) e = global_course programs u (global_at u.program e.0)

-- in an entity, by what it is
abbrev pub entity_course : List Program → Option Definer → ℕ → ℕ → Remains
entity_course programs None = nowhere
entity_course programs (Some Nothing) = nowhere
entity_course programs (Some (Global unit e)) = unit_course programs (slice_get (in_run programs) unit.0) e
entity_course programs (Some (Host name)) = nowhere

-- in each entity of a run, by the table of what they are
abbrev pub courses_in : List Program → List Definer → Courses
courses_in programs definers n = entity_course programs (slice_get definers n)
