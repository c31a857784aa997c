-- Definition: the ends of loops (C11 6.8.5), in any language that has them: what stands at the end of a body, conditions, and a start; and which parts of a function may be entered again behind a spent unit.
use Rattle.std.specs.Prelude.{Bool, true, false, Option, Some, None}
use Rattle.execution.specs.States.{State, Result, Goes, bind}
use Rattle.execution.specs.Jumps.{ToLabel, ToCase, ToDefault, ToContinue, Signal, Broken, Has, Goer, behind}

-- what there is nothing of
abbrev pub nowhere : Has
nowhere t = false

-- the end of a body, where `continue` leads (C11 6.8.6.2p2)
abbrev pub is_continue : Has
is_continue (ToLabel n) = false
is_continue (ToCase v) = false
is_continue ToDefault = false
is_continue ToContinue = true

-- what stands at the end of a body is reached behind it and by `continue` (C11 6.8.6.2p2)
abbrev pub at_end : (State → Result Signal) → Goer → Goer
at_end next body en s = behind is_continue (body en s) (λ e. next)

abbrev pub while_holds : (State → Result Signal) → Bool → State → Result Signal
while_holds go true s = go s
while_holds go false s = Goes Broken s

-- C11 6.8.5p4 (of `do` 6.8.5.2): a condition that compares equal to 0 ends the loop, as a break does
abbrev pub asked : (State → Result Bool) → (State → Result Signal) → State → Result Signal
asked condition go s = bind (condition s) (while_holds go)

-- C11 6.8.5.1, 6.8.5.3p1: the condition of `while` and of `for` is evaluated before the body, if the body is not entered by a jump
abbrev pub asked_first : (State → Result Bool) → Goer → Goer
asked_first condition body None s = asked condition (body None) s
asked_first condition body (Some t) s = body (Some t) s

-- C11 6.8.5.3p1: the start of a `for` is executed once, if the loop is not entered by a jump
abbrev pub started : Goer → Goer → Goer
started start loop None s = behind nowhere (start None s) (λ en. loop None)
started start loop (Some t) s = loop (Some t) s

-- what of a function may be entered again behind a spent unit (own), at a place in it: a statement, which is entered already if it is a block; the body of another one; and a `for` behind its start, with its condition and what stands at the end of its body
pub data PartOf (S B E P : Type 0) : Type 0 where
  Entered : (statement : S) (place : P) → PartOf S B E P
  Body : (body : B) (place : P) → PartOf S B E P
  Iterations : (condition step : Option E) (body : B) (place : P) → PartOf S B E P
