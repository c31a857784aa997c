-- Definition: control within a function (C11 6.8): a statement is entered at its start, or at a label or case in it, and ends in one of a few ways. Each construct is a combinator over what its parts do.
use Rattle.std.specs.Prelude.{◌≡◌, ℕ, Bool, true, false, Option, Some, None, ℤ, if◌then◌else◌}
use Rattle.execution.specs.States.{State, Result, Goes, Exits, Running, Undefined, bind, spend}
use Rattle.execution.specs.Data.{Datum}

-- where a statement may be entered but at its start: at a label, at a case or the default of the switch around it (C11 6.8.1), or at the end of the body of the loop around it, where `continue` leads (6.8.6.2p2)
pub data Target : Type 0 where
  ToLabel : (label : ℕ) → Target
  ToCase : (value : ℤ) → Target
  ToDefault : Target
  ToContinue : Target

-- None: at its start
abbrev pub Entry : Type 0
Entry = Option Target

-- how a statement ends that goes on: behind it, by `break` (C11 6.8.6.3), by a jump whose target is not passed yet (6.8.6.1; `continue` is one, 6.8.6.2), or by `return` (6.8.6.4)
pub data Signal : Type 0 where
  Normal : Signal
  Broken : Signal
  Jumped : (target : Target) → Signal
  Returned : (value : Option Datum) → Signal

-- whether a target stands in a statement
abbrev pub Has : Type 0
Has = Target → Bool

-- what a statement does from an entry
abbrev pub Goer : Type 0
Goer = Entry → State → Result Signal

abbrev pub jumped : Bool → Target → State → Goer → Result Signal
jumped true t s go = go (Some t) s
jumped false t s go = Goes (Jumped t) s

abbrev pub after : Has → Goer → Signal → State → Result Signal
after has go Normal s = go None s
after has go Broken s = Goes Broken s
after has go (Jumped t) s = jumped (has t) t s go
after has go (Returned v) s = Goes (Returned v) s

-- C11 6.8p2: a statement behind another, which a jump may enter
abbrev pub behind : Has → Result Signal → Goer → Result Signal
behind has r go = bind r (after has go)

-- a statement that is only entered by a jump
abbrev pub jumping : Goer → Goer
jumping go None s = Goes Normal s
jumping go (Some t) s = go (Some t) s

-- the same, where the jump leads back in the text and spends a unit (own)
abbrev pub spending : Goer → Goer
spending go None s = Goes Normal s
spending go (Some t) s = spend s (go (Some t))

-- C11 6.8.6.1p2: a jump forward, from one side of an if to the other
abbrev pub across : Has → Result Signal → Goer → Result Signal
across has r go = behind has r (jumping go)

-- C11 6.8.6.1p2: what is around statements goes on at a label within them; a jump that is not caught further in leads back
abbrev pub caught : Has → Result Signal → Goer → Result Signal
caught has r again = behind has r (spending again)

abbrev pub seq_at : Bool → Has → Goer → Goer → Target → State → Result Signal
seq_at true rest a b t s = behind rest (a (Some t) s) b
seq_at false rest a b t s = b (Some t) s

-- C11 6.8.2: a statement and the ones behind it; a target that is not in the first is in the others
abbrev pub seq_from : Has → Has → Goer → Goer → Goer
seq_from first rest a b None s = behind rest (a None s) b
seq_from first rest a b (Some t) s = seq_at (first t) rest a b t s

abbrev pub chosen : Bool → Has → Goer → Goer → Entry → State → Result Signal
chosen true fails a b en s = across fails (a en s) b
chosen false fails a b en s = b en s

-- C11 6.8.4.1: the first substatement where the test compares unequal to 0, else the second
abbrev pub if_from : (State → Result Bool) → Has → Has → Goer → Goer → Goer
if_from test holds fails a b None s = bind (test s) (λ v t. chosen v fails a b None t)
if_from test holds fails a b (Some t) s = chosen (holds t) fails a b (Some t) s

-- C11 6.8.4.2p5: the case with the value, else the default if there is one
abbrev pub case_for : Has → ℤ → Entry
case_for has v = if has (ToCase v) then Some (ToCase v) else (if has ToDefault then Some ToDefault else None)

abbrev pub broken_off : Signal → State → Result Signal
broken_off Normal s = Goes Normal s
broken_off Broken s = Goes Normal s
broken_off (Jumped t) s = Goes (Jumped t) s
broken_off (Returned v) s = Goes (Returned v) s

-- C11 6.8.6.3p2: a break ends the switch
abbrev pub switch_ends : Result Signal → Result Signal
switch_ends r = bind r broken_off

abbrev pub switched : Entry → Goer → State → Result Signal
switched None body s = Goes Normal s
switched (Some t) body s = switch_ends (body (Some t) s)

-- C11 6.8.4.2: where no case has the value and there is no default, no part of the body is executed
abbrev pub switch_from : (State → Result ℤ) → Has → Goer → Goer
switch_from value has body None s = bind (value s) (λ v t. switched (case_for has v) body t)
switch_from value has body (Some t) s = switch_ends (body (Some t) s)

abbrev pub turned : (State → Result Signal) → Signal → State → Result Signal
turned next Normal s = next s
turned next Broken s = Goes Normal s
turned next (Jumped t) s = Goes (Jumped t) s
turned next (Returned v) s = Goes (Returned v) s

-- C11 6.8.5p4, 6.8.6.3p2: behind a turn comes the next one; a break ends the loop
abbrev pub turn_ends : Result Signal → (State → Result Signal) → Result Signal
turn_ends r next = bind r (turned next)

-- a turn begins: it spends a unit (own)
abbrev pub turn : (State → Result Signal) → Goer → State → Result Signal
turn next body s = spend s (λ t. turn_ends (body None t) next)

-- C11 6.8.5: a loop without an end of its own; entered by a jump it spends nothing until its next turn (own)
abbrev pub loop_from : (State → Result Signal) → Goer → Goer
loop_from next body None s = turn next body s
loop_from next body (Some t) s = turn_ends (body (Some t) s) (turn next body)

-- a result that is no jump to a target within
abbrev pub IsQuiet : Has → Result Signal → Type 0
IsQuiet has (Goes Normal s) = Unit {0}
IsQuiet has (Goes Broken s) = Unit {0}
IsQuiet has (Goes (Jumped t) s) = has t ≡ false
IsQuiet has (Goes (Returned v) s) = Unit {0}
IsQuiet has (Exits status s) = Unit {0}
IsQuiet has (Running s) = Unit {0}
IsQuiet has (Undefined s) = Unit {0}
