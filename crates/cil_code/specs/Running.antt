-- Device: the run of a loaded body.
use Rattle.std.specs.Prelude.{◌≡◌, ℕ, List, [], ◌∷◌, Some, None, slice_get}
use Rattle.execution.specs.States.{State}
use Rattle.execution.specs.Data.{Datum}
use Rattle.execution.specs.Calls.{returns}
use Rattle.cil_tree.specs.Tree.{Block, Stmts, Body, Function, GlobalDecl, Program}
use Rattle.cil_tree.specs.Typing.{Scope, scope_of, global_at}
use Rattle.cil_tree.specs.Bodies.{labels_of, numbers_from}
use Rattle.cil_semantics.specs.Units.{IsUnit}
use Rattle.cil_semantics.specs.Statements.{statement}
use Rattle.cil_semantics.specs.Laws.{calls_in}
use Rattle.cil_control.specs.Remains.{Remains}
use Rattle.cil_control.specs.Flat as flat
use Rattle.cil_control.specs.Flat.{body_steps, labels_from}
use Rattle.cil_control.specs.Courses.{body_at}
use Rattle.cil_machine.specs.Resolution.{activation}
use Rattle.cil_code.specs.declared.steps.Step.{Step}
use Rattle.cil_code.specs.Doing.{done, Fits, AreSteps}

-- the steps fit
abbrev pub AllFit : Scope → List flat.Step → Type 0
AllFit c [] = Unit {0}
AllFit c (x ∷ xs) = Fits c x × AllFit c xs

-- the places of a body's labels
abbrev pub steps_of : Stmts → List flat.Step
steps_of body = body_steps (slice_get (labels_from 0 body)) body

-- what remains at a place of a body, in linked programs
abbrev pub remains_at : List Program → Scope → List ℕ → ℕ → Datum → Stmts → ℕ → Remains
remains_at programs c entities act end body = body_at (activation c entities act) (calls_in programs) (statement (activation c entities act) (calls_in programs)) end body

-- a loaded body runs from its first place on, from step to step
pub record Runs (programs : List Program) (c : Scope) (entities : List ℕ) (end : Datum) (body : Stmts) (code : List Step) : Type 0 where
  pub begins : (act : ℕ) (s : State) → remains_at programs c entities act end body 0 s ≡ returns end (statement (activation c entities act) (calls_in programs) (Block body) None s)
  pub goes : (act p : ℕ) (y : Step) → slice_get code p ≡ Some y → (s : State)
      → remains_at programs c entities act end body p s ≡ done c.program.graph.abi act (calls_in programs) end (remains_at programs c entities act end body) p y s

abbrev pub LoadedBodiesRun : Type 0
LoadedBodiesRun =
    (programs : List Program) (c : Scope) (entities : List ℕ) (end : Datum) (body : Stmts) (code : List Step) → labels_of body ≡ numbers_from 0 c.labels → AllFit c (steps_of body) → AreSteps c entities (steps_of body) code
    → Runs programs c entities end body code

-- each function's body in a unit, loaded, runs from step to step
abbrev pub FittingBodiesRun : Type 0
FittingBodiesRun =
    (p : Program) → IsUnit p → (n : ℕ) (x : GlobalDecl) (b : Body) → global_at p n ≡ Some x → x.definition ≡ Function b
    → (programs : List Program) (entities : List ℕ) (end : Datum) (code : List Step) → AreSteps (scope_of p b) entities (steps_of b.stmts) code → Runs programs (scope_of p b) entities end b.stmts code
