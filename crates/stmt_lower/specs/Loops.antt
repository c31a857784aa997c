-- Definition: how a loop begins and ends, how it is left, and where its `continue` leads (C11 6.8.5, 6.8.6.2p2).
use Rattle.std.specs.Prelude.{◌≡◌, ◌++◌, List, [], ◌∷◌, Option, Some, None}
use Rattle.cil_base.specs.declared.numbers.LabelId.{LabelId}
use Rattle.typed_tree.specs.declared.expressions.TypedExp.{TypedExp}
use Rattle.cil_tree.specs.declared.expressions.Exp.{Exp}
use Rattle.cil_tree.specs.declared.statements.Stmt.{Stmt}
use Rattle.cil_tree.specs.declared.statements.Stmt.TheVariants.{Label, Goto, Break}
use Rattle.cil_nodes.specs.Built.{IsLoop}
use Rattle.lower_parts.specs.Code.{Extends, Chooses}

-- behind code, a loop is left where its condition does not hold
abbrev pub Leaves : Exp → List Stmt → List Stmt → Type 0
Leaves test old new = Chooses test [] (Break ∷ []) old new

-- behind code, a condition is evaluated, and a loop is left where it does not hold
pub record IsTest (old new : List Stmt) : Type 0 where
  pub code : List Stmt
  pub extends : Extends old code
  pub test : Exp
  pub leaves : Leaves test code new

-- the beginning of a `for`
abbrev pub IsHead : Option TypedExp → List Stmt → Type 0
IsHead None code = code ≡ []
IsHead (Some test) code = IsTest [] code

-- a loop without end behind code
pub record Loops (body old new : List Stmt) : Type 0 where
  pub loop : Stmt
  pub made : IsLoop body loop
  pub is : new ≡ old ++ loop ∷ []

-- behind the code of a body stands the label of its loop, which it has only where a `continue` names the loop
abbrev pub EndsBody : Option LabelId → List Stmt → List Stmt → Type 0
EndsBody None old new = new ≡ old
EndsBody (Some n) old new = new ≡ old ++ Label n ∷ []

-- a `continue` is a jump to the label of the loop around
abbrev pub ContinuesAt : Option LabelId → List Stmt → List Stmt → Type 0
ContinuesAt None old new = ⊥
ContinuesAt (Some n) old new = new ≡ old ++ Goto n ∷ []

-- a `while`, whose condition stands before its body: behind that stands the label
pub record EndsWhile (again : Option LabelId) (body old new : List Stmt) : Type 0 where
  pub code : List Stmt
  pub ended : EndsBody again body code
  pub loops : Loops code old new

-- a `do`: behind its body stand the label and the condition
pub record EndsDo (again : Option LabelId) (body old new : List Stmt) : Type 0 where
  pub labelled : List Stmt
  pub ended : EndsBody again body labelled
  pub code : List Stmt
  pub tested : IsTest labelled code
  pub loops : Loops code old new

-- a `for`, whose condition stands before its body: behind that stand the label and the third expression
pub record EndsFor (again : Option LabelId) (body old new : List Stmt) : Type 0 where
  pub labelled : List Stmt
  pub ended : EndsBody again body labelled
  pub code : List Stmt
  pub stepped : Extends labelled code
  pub loops : Loops code old new
