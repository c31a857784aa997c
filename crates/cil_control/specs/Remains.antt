-- Device: what remains of a body's run at each step of its list, made from the tree: what a statement does there, in the surroundings that it stands in.
use Rattle.std.specs.Prelude.{◌≡◌, ℕ, suc, ◌+◌, Bool, true, false, List, [], ◌∷◌, ◌++◌, drop, Some, None}
use Rattle.execution.specs.States.{State, Result, Goes, bind}
use Rattle.execution.specs.Data.{Datum}
use Rattle.execution.specs.Jumps.{Target, Signal, Normal, Goer, behind, across, caught, turn_ends, turn, switch_ends}
use Rattle.execution.specs.Calls.{Enter}
use Rattle.cil_tree.specs.Tree.{Stmt, If, Switch, Loop, Block, Label, Case, Default, Stmts, Done, Seq}
use Rattle.cil_semantics.specs.Values.{Activation}
use Rattle.cil_semantics.specs.Statements.{has, has_in, stmt, stmts}

-- what comes behind a statement, by how it ends
abbrev pub Rest : Type 0
Rest = Signal → State → Result Datum

-- what remains at a step
abbrev pub Remains : Type 0
Remains = State → Result Datum

-- the first step, and what comes behind where there is none
abbrev pub first_of : List Remains → Remains → Remains
first_of [] behind = behind
first_of (at ∷ more) behind = at

-- behind a statement in a list
abbrev pub in_order : Activation → Enter → (Stmt → Goer) → Stmts → Rest → Rest
in_order a enter again rest K signal s = bind (behind (has_in rest) (Goes signal s) (stmts a enter again rest)) K

-- behind what a construct catches jumps into
abbrev pub in_construct : (Stmt → Goer) → Stmt → Rest → Rest
in_construct again x K signal s = bind (caught (has x) (Goes signal s) (again x)) K

-- behind the first side of an if
abbrev pub in_first : Activation → Enter → (Stmt → Goer) → Stmt → Stmts → Rest → Rest
in_first a enter again x fails K signal s = bind (caught (has x) (across (has_in fails) (Goes signal s) (stmts a enter again fails)) (again x)) K

-- behind the body of a switch
abbrev pub in_switch : (Stmt → Goer) → Stmt → Rest → Rest
in_switch again x K signal s = bind (caught (has x) (switch_ends (Goes signal s)) (again x)) K

-- behind a turn of a loop that began at the start of the body, and of one that was entered by a jump, which differ in nothing where the loop again is a turn
abbrev pub in_turn : (Stmt → Goer) → Stmt → (State → Result Signal) → Rest → Rest
in_turn again x next K signal s = bind (caught (has x) (turn_ends (Goes signal s) next) (again x)) K

abbrev mutual
  -- what remains at each step of a statement
  pub remains : Activation → Enter → (Stmt → Goer) → Stmt → Rest → List Remains
  remains a enter again (If e holds fails) K =
      (λ s. bind (stmt a enter again (If e holds fails) None s) K)
      ∷ (remains_in a enter again holds (in_first a enter again (If e holds fails) fails K) ++ K Normal ∷ remains_in a enter again fails (in_construct again (If e holds fails) K))
  remains a enter again (Switch e body) K = (λ s. bind (stmt a enter again (Switch e body) None s) K) ∷ remains_in a enter again body (in_switch again (Switch e body) K)
  remains a enter again (Loop body) K =
      (λ s. bind (stmt a enter again (Loop body) None s) K)
      ∷ (remains_in a enter again body (in_turn again (Loop body) (turn (again (Loop body) None) (stmts a enter again body)) K)
      ++ in_turn again (Loop body) (turn (again (Loop body) None) (stmts a enter again body)) K Normal ∷ [])
  remains a enter again (Block body) K = remains_in a enter again body (in_construct again (Block body) K)
  remains a enter again (Label n) K = []
  remains a enter again (Case kind v) K = []
  remains a enter again Default K = []
  remains a enter again x K = (λ s. bind (stmt a enter again x None s) K) ∷ []

  pub remains_in : Activation → Enter → (Stmt → Goer) → Stmts → Rest → List Remains
  remains_in a enter again Done K = []
  remains_in a enter again (Seq first rest) K = remains a enter again first (in_order a enter again rest K) ++ remains_in a enter again rest K

-- how many steps a statement has
abbrev mutual
  pub steps : Stmt → ℕ
  steps (If e holds fails) = suc (steps_in holds + suc (steps_in fails))
  steps (Switch e body) = suc (steps_in body)
  steps (Loop body) = suc (steps_in body + 1)
  steps (Block body) = steps_in body
  steps (Label n) = 0
  steps (Case kind v) = 0
  steps Default = 0
  steps x = 1

  pub steps_in : Stmts → ℕ
  steps_in Done = 0
  steps_in (Seq first rest) = steps first + steps_in rest

abbrev pub chosen_place : Bool → ℕ → ℕ → ℕ
chosen_place true a b = a
chosen_place false a b = b

abbrev mutual
  -- the step of a target in a statement: the first one behind it
  pub place_of : Target → Stmt → ℕ
  place_of t (If e holds fails) = chosen_place (has_in holds t) (suc (place_in t holds)) (suc (steps_in holds + suc (place_in t fails)))
  place_of t (Switch e body) = suc (place_in t body)
  place_of t (Loop body) = suc (place_in t body)
  place_of t (Block body) = place_in t body
  place_of t x = 0

  pub place_in : Target → Stmts → ℕ
  place_in t Done = 0
  place_in t (Seq first rest) = chosen_place (has first t) (place_of t first) (steps first + place_in t rest)

-- at its first step a statement starts
abbrev pub StartsAreFirst : Type 0
StartsAreFirst = (a : Activation) (enter : Enter) (again : Stmt → Goer) (x : Stmt) (K : Rest) (s : State) → first_of (remains a enter again x K) (K Normal) s ≡ bind (stmt a enter again x None s) K

-- at the step of a target in it, a statement is entered at the target
abbrev pub TargetsAreEntered : Type 0
TargetsAreEntered =
    (a : Activation) (enter : Enter) (again : Stmt → Goer) (t : Target) (x : Stmt) (K : Rest) (s : State) → has x t ≡ true → first_of (drop (place_of t x) (remains a enter again x K)) (K Normal) s ≡ bind (stmt a enter again x (Some t) s) K
