-- Device: the list of steps that a body becomes, over plain trees: where each leads to, and what it does. A place is a number in the list.
use Rattle.std.specs.Prelude.{ℕ, suc, ◌+◌, Bool, true, false, nat_lt, List, [], ◌∷◌, ◌++◌, Option, Some, None, ℤ}
use Rattle.std.specs.Ordering.{int_eq}
use Rattle.execution.specs.States.{Undefined, bind, spend}
use Rattle.execution.specs.Data.{Datum}
use Rattle.execution.specs.Calls.{Enter, returned}
use Rattle.cil_tree.specs.Tree.{Exp, Instr, Stmt, Do, If, Switch, Loop, Block, Label, Case, Default, Goto, Break, Return, Stmts, Done, Seq}
use Rattle.cil_semantics.specs.Values.{Activation}
use Rattle.cil_semantics.specs.Statements.{instr, test, switch_value, return}
use Rattle.cil_control.specs.Remains.{Remains, steps, steps_in}

pub data Step : Type 0 where
  -- an instruction, and then the next place
  Act : (instr : Instr) → Step
  -- the next place where the test holds, else that one
  Test : (test : Exp) (fails : ℕ) → Step
  -- the place of the value, else the other one
  Choose : (value : Exp) (table : List (ℤ × ℕ)) (other : ℕ) → Step
  -- a place further on
  Forward : (to : ℕ) → Step
  -- a place that is not further on, by a spent unit
  Back : (to : ℕ) → Step
  -- the end of the body
  Leave : (value : Option Exp) → Step
  -- nowhere
  Stuck : Step

abbrev pub jump_by : Bool → ℕ → Step
jump_by true q = Forward q
jump_by false q = Back q

-- a jump from a place to a label's
abbrev pub jump : ℕ → Option ℕ → Step
jump p None = Stuck
jump p (Some q) = jump_by (nat_lt p q) q

-- a break from a loop or switch that ends at a place
abbrev pub break_to : Option ℕ → Step
break_to None = Stuck
break_to (Some q) = Forward q

abbrev mutual
  -- the cases of a switch with this body, and their places, where the body begins at p
  pub cases_at : ℕ → Stmt → List (ℤ × ℕ)
  cases_at p (If e holds fails) = cases_from (suc p) holds ++ cases_from (suc (suc p + steps_in holds)) fails
  cases_at p (Loop body) = cases_from (suc p) body
  cases_at p (Block body) = cases_from p body
  cases_at p (Case kind v) = (v, p) ∷ []
  cases_at p x = []

  pub cases_from : ℕ → Stmts → List (ℤ × ℕ)
  cases_from p Done = []
  cases_from p (Seq first rest) = cases_at p first ++ cases_from (p + steps first) rest

-- the first of two places that is there
abbrev pub or_else : Option ℕ → Option ℕ → Option ℕ
or_else (Some p) o = Some p
or_else None o = o

abbrev mutual
  -- the place of the default of a switch with this body
  pub default_at : ℕ → Stmt → Option ℕ
  default_at p (If e holds fails) = or_else (default_from (suc p) holds) (default_from (suc (suc p + steps_in holds)) fails)
  default_at p (Loop body) = default_from (suc p) body
  default_at p (Block body) = default_from p body
  default_at p Default = Some p
  default_at p x = None

  pub default_from : ℕ → Stmts → Option ℕ
  default_from p Done = None
  default_from p (Seq first rest) = or_else (default_at p first) (default_from (p + steps first) rest)

abbrev pub place_or : ℕ → Option ℕ → ℕ
place_or q None = q
place_or q (Some p) = p

abbrev mutual
  -- the steps of a statement that begins at p and stands in a loop or switch that ends at b, with the labels' places
  pub steps_at : (ℕ → Option ℕ) → ℕ → Option ℕ → Stmt → List Step
  steps_at label p b (Do i) = Act i ∷ []
  steps_at label p b (If e holds fails) =
      Test e (suc (suc p + steps_in holds))
      ∷ (steps_from label (suc p) b holds ++ Forward (suc (suc p + steps_in holds) + steps_in fails) ∷ steps_from label (suc (suc p + steps_in holds)) b fails)
  steps_at label p b (Switch e body) = Choose e (cases_from (suc p) body) (place_or (suc p + steps_in body) (default_from (suc p) body)) ∷ steps_from label (suc p) (Some (suc p + steps_in body)) body
  steps_at label p b (Loop body) = Back (suc p) ∷ (steps_from label (suc p) (Some (suc (suc p + steps_in body))) body ++ Back (suc p) ∷ [])
  steps_at label p b (Block body) = steps_from label p b body
  steps_at label p b (Label n) = []
  steps_at label p b (Case kind v) = []
  steps_at label p b Default = []
  steps_at label p b (Goto n) = jump p (label n) ∷ []
  steps_at label p b Break = break_to b ∷ []
  steps_at label p b (Return e) = Leave e ∷ []

  pub steps_from : (ℕ → Option ℕ) → ℕ → Option ℕ → Stmts → List Step
  steps_from label p b Done = []
  steps_from label p b (Seq first rest) = steps_at label p b first ++ steps_from label (p + steps first) b rest

-- the steps of a body, which end with a return
abbrev pub body_steps : (ℕ → Option ℕ) → Stmts → List Step
body_steps label body = steps_from label 0 None body ++ Leave None ∷ []

abbrev pub place_by : Bool → ℕ → ℕ → ℕ
place_by true p q = p
place_by false p q = q

-- the place of a value in a table, else the other one
abbrev pub place_for : ℤ → List (ℤ × ℕ) → ℕ → ℕ
place_for v [] other = other
place_for v (x ∷ table) other = place_by (int_eq x.0 v) x.1 (place_for v table other)

-- what a step at p does, where `at` tells what remains at each place
abbrev pub taken : Activation → Enter → Datum → (ℕ → Remains) → ℕ → Step → Remains
taken a enter end at p (Act i) s = bind (instr a enter i s) (λ g. at (suc p))
taken a enter end at p (Test e q) s = bind (test a e s) (λ h. at (place_by h (suc p) q))
taken a enter end at p (Choose e table other) s = bind (switch_value a e s) (λ v. at (place_for v table other))
taken a enter end at p (Forward q) s = at q s
taken a enter end at p (Back q) s = spend s (at q)
taken a enter end at p (Leave e) s = bind (return a e s) (returned end)
taken a enter end at p Stuck s = Undefined s

abbrev mutual
  -- the places of the labels in a statement that begins at p, in the order of the text
  pub labels_at : ℕ → Stmt → List ℕ
  labels_at p (If e holds fails) = labels_from (suc p) holds ++ labels_from (suc (suc p + steps_in holds)) fails
  labels_at p (Switch e body) = labels_from (suc p) body
  labels_at p (Loop body) = labels_from (suc p) body
  labels_at p (Block body) = labels_from p body
  labels_at p (Label n) = p ∷ []
  labels_at p x = []

  pub labels_from : ℕ → Stmts → List ℕ
  labels_from p Done = []
  labels_from p (Seq first rest) = labels_at p first ++ labels_from (p + steps first) rest
