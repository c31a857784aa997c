-- Device: the course of a body's run through its list of steps.
use Rattle.std.specs.Prelude.{◌≡◌, ◌≤◌, ◌⊎◌, ℕ, suc, ◌+◌, false, true, List, [], ◌∷◌, drop, slice_get, Option, Some, None}
use Rattle.execution.specs.States.{State, Undefined, spend}
use Rattle.execution.specs.Data.{Datum}
use Rattle.execution.specs.Jumps.{ToLabel, Normal, Broken, Jumped, Returned, Entry, Goer, Has, IsQuiet}
use Rattle.execution.specs.Calls.{Enter, returned, returns}
use Rattle.cil_tree.specs.Tree.{Stmt, If, Switch, Loop, Block, Label, Stmts, Done, Seq, Program}
use Rattle.cil_tree.specs.Bodies.{labels_of, numbers_from}
use Rattle.cil_semantics.specs.Values.{Activation}
use Rattle.cil_semantics.specs.Statements.{has, has_in, stmt, statement}
use Rattle.cil_semantics.specs.Laws.{calls_in}
use Rattle.cil_control.specs.Remains.{Rest, Remains, first_of, in_construct, remains_in, steps, steps_in}
use Rattle.cil_control.specs.Flat.{Step, taken, body_steps, labels_from}

-- a body's run: its activation, what calls and statements do, what it gives at its end, the places of its labels, and what remains at each place
pub record Course : Type 0 where
  pub activation : Activation
  pub enter : Enter
  pub again : Stmt → Goer
  pub end : Datum
  pub label : ℕ → Option ℕ
  pub at : ℕ → Remains

-- what statements do is their step, and they follow the jumps into themselves
pub record IsSteady (c : Course) : Type 0 where
  pub fixed : (x : Stmt) (en : Entry) (s : State) → c.again x en s ≡ stmt c.activation c.enter c.again x en s
  pub quiet : (x : Stmt) (en : Entry) (s : State) → IsQuiet (has x) (c.again x en s)

-- at the places from p on these remain
abbrev pub Agrees : Course → ℕ → List Remains → Type 0
Agrees c p [] = Unit {0}
Agrees c p (r ∷ rs) = ((s : State) → c.at p s ≡ r s) × Agrees c (suc p) rs

-- at the places from p on these steps are taken
abbrev pub Takes : Course → ℕ → List Step → Type 0
Takes c p [] = Unit {0}
Takes c p (x ∷ xs) = ((s : State) → c.at p s ≡ taken c.activation c.enter c.end c.at p x s) × Takes c (suc p) xs

-- labels have their places
abbrev mutual
  pub Labelled : (ℕ → Option ℕ) → ℕ → Stmt → Type 0
  Labelled label p (If e holds fails) = LabelledIn label (suc p) holds × LabelledIn label (suc (suc p + steps_in holds)) fails
  Labelled label p (Switch e body) = LabelledIn label (suc p) body
  Labelled label p (Loop body) = LabelledIn label (suc p) body
  Labelled label p (Block body) = LabelledIn label p body
  Labelled label p (Label n) = label n ≡ Some p
  Labelled label p x = Unit {0}

  pub LabelledIn : (ℕ → Option ℕ) → ℕ → Stmts → Type 0
  LabelledIn label p Done = Unit {0}
  LabelledIn label p (Seq first rest) = Labelled label p first × LabelledIn label (p + steps first) rest

-- the labels of a body have their places, and no others
pub record AreLabels (label : ℕ → Option ℕ) (body : Stmts) : Type 0 where
  pub there : LabelledIn label 0 body
  pub others : (n : ℕ) → has_in body (ToLabel n) ≡ false → label n ≡ None

-- what remains where a break leads to
abbrev pub after_break : Course → Option ℕ → Remains
after_break c None s = Undefined s
after_break c (Some q) s = c.at q s

-- what remains where a jump leads back to
abbrev pub after_back : Course → Option ℕ → Remains
after_back c None s = Undefined s
after_back c (Some l) s = spend s (c.at l)

-- a jump from between p and q leads forward, or back by a spent unit
abbrev pub Leads : Course → Option ℕ → ℕ → ℕ → Remains → Type 0
Leads c None p q r = (s : State) → r s ≡ Undefined s
Leads c (Some l) p q r = (q ≤ l × ((s : State) → r s ≡ c.at l s)) ⊎ (l ≤ p × ((s : State) → r s ≡ spend s (c.at l)))

-- what comes behind a statement between p and q, in a loop or switch that ends at b
pub record Around (c : Course) (K : Rest) (p q : ℕ) (b : Option ℕ) (within : Has) : Type 0 where
  pub normal : (s : State) → K Normal s ≡ c.at q s
  pub broken : (s : State) → K Broken s ≡ after_break c b s
  pub gone : (v : Option Datum) (s : State) → K (Returned v) s ≡ returned c.end (Returned v) s
  pub out : (n : ℕ) → within (ToLabel n) ≡ false → Leads c (c.label n) p q (K (Jumped (ToLabel n)))

-- what jumps lead to whose labels are within: back, by a spent unit
abbrev pub Turns : Course → Rest → Has → Type 0
Turns c K within = (n : ℕ) → within (ToLabel n) ≡ true → (s : State) → K (Jumped (ToLabel n)) s ≡ after_back c (c.label n) s

-- what remains at a place of a body
abbrev pub body_at : Activation → Enter → (Stmt → Goer) → Datum → Stmts → ℕ → Remains
body_at a enter again end body p = first_of (drop p (remains_in a enter again body (in_construct again (Block body) (returned end)))) (in_construct again (Block body) (returned end) Normal)

-- at each place of a body's list what remains is what the step there does, and at the first one it is the body's run
pub record IsTaken (a : Activation) (enter : Enter) (end : Datum) (label : ℕ → Option ℕ) (body : Stmts) : Type 0 where
  pub begins : (s : State) → body_at a enter (statement a enter) end body 0 s ≡ returns end (statement a enter (Block body) None s)
  pub goes : (p : ℕ) (x : Step) → slice_get (body_steps label body) p ≡ Some x → (s : State) → body_at a enter (statement a enter) end body p s ≡ taken a enter end (body_at a enter (statement a enter) end body) p x s

-- the runs of bodies in linked programs
abbrev pub BodiesAreTaken : Type 0
BodiesAreTaken = (programs : List Program) (a : Activation) (end : Datum) (label : ℕ → Option ℕ) (body : Stmts) → AreLabels label body → IsTaken a (calls_in programs) end label body

-- where labels are numbered in the order of the text, the list of their places tells each
abbrev pub LabelsArePlaced : Type 0
LabelsArePlaced = (body : Stmts) (names : List (List ℕ)) → labels_of body ≡ numbers_from 0 names → AreLabels (slice_get (labels_from 0 body)) body
