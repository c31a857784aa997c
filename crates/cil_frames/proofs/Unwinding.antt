-- Device: what waiting frames make of results.
use Rattle.std.proofs.Common.{◌≡◌, ℕ, suc, List, [], ◌∷◌, ◌++◌, length, map, Option, Some, None, slice_get, refl, ap, ◌∙◌}
use Rattle.cil_base.specs.declared.kinds.Abi.{Abi}
use Rattle.execution.specs.States.{State, Result, Exits, Running, Undefined}
use Rattle.execution.specs.Data as passed
use Rattle.execution.specs.Data.{Datum}
use Rattle.execution.specs.Calls as meaning
use Rattle.execution.specs.Calls.{Enter, leaves, begun, activated, numbers, number_of}
use Rattle.cil_frames.specs.declared.frames.Function.{Function}
use Rattle.cil_frames.specs.declared.frames.Frame.{Frame}
use Rattle.cil_frames.specs.declared.frames.Entity.{Entity}
use Rattle.cil_frames.specs.Entering.{objects_of}
use Rattle.cil_frames.specs.Frames.{Courses, counted, left_by, function_in, resumed_in, unwound, entered_state, IsFunction}

-- one more frame, the innermost
pub unwound_push : (abi : Abi) (at : Courses) (table : List (Option Entity)) (frames : List Frame) (frame : Frame) (r : Result Datum)
    → unwound abi at table (frames ++ frame ∷ []) r ≡ unwound abi at table frames (resumed_in abi at frame (function_in (slice_get table frame.function)) r)
unwound_push abi at table [] frame r = refl
unwound_push abi at table (f ∷ frames) frame r = ap (resumed_in abi at f (function_in (slice_get table f.function))) (unwound_push abi at table frames frame r)

resumed_running : (abi : Abi) (at : Courses) (frame : Frame) (f : Option Function) (s : State) → resumed_in abi at frame f (Running s) ≡ Running s
resumed_running abi at frame None s = refl
resumed_running abi at frame (Some f) s = refl

resumed_undefined : (abi : Abi) (at : Courses) (frame : Frame) (f : Option Function) (s : State) → resumed_in abi at frame f (Undefined s) ≡ Undefined s
resumed_undefined abi at frame None s = refl
resumed_undefined abi at frame (Some f) s = refl

resumed_exits : (abi : Abi) (at : Courses) (frame : Frame) (f : Option Function) (status : ℕ) (s : State) → resumed_in abi at frame f (Exits status s) ≡ Exits status s
resumed_exits abi at frame None status s = refl
resumed_exits abi at frame (Some f) status s = refl

-- where the run ends, no frame goes on
pub unwound_running : (abi : Abi) (at : Courses) (table : List (Option Entity)) (frames : List Frame) (s : State) → unwound abi at table frames (Running s) ≡ Running s
unwound_running abi at table [] s = refl
unwound_running abi at table (f ∷ frames) s = ap (resumed_in abi at f (function_in (slice_get table f.function))) (unwound_running abi at table frames s) ∙ resumed_running abi at f (function_in (slice_get table f.function)) s

pub unwound_undefined : (abi : Abi) (at : Courses) (table : List (Option Entity)) (frames : List Frame) (s : State) → unwound abi at table frames (Undefined s) ≡ Undefined s
unwound_undefined abi at table [] s = refl
unwound_undefined abi at table (f ∷ frames) s = ap (resumed_in abi at f (function_in (slice_get table f.function))) (unwound_undefined abi at table frames s) ∙ resumed_undefined abi at f (function_in (slice_get table f.function)) s

pub unwound_exits : (abi : Abi) (at : Courses) (table : List (Option Entity)) (frames : List Frame) (status : ℕ) (s : State) → unwound abi at table frames (Exits status s) ≡ Exits status s
unwound_exits abi at table [] status s = refl
unwound_exits abi at table (f ∷ frames) status s =
    ap (resumed_in abi at f (function_in (slice_get table f.function))) (unwound_exits abi at table frames status s) ∙ resumed_exits abi at f (function_in (slice_get table f.function)) status s

-- the numbers of arguments
pub numbers_counted : (xs : List passed.Argument) (i : ℕ) → numbers i xs ≡ counted i (length xs)
numbers_counted [] i = refl
numbers_counted (x ∷ xs) i = ap (λ z. i ∷ z) (numbers_counted xs (suc i))

-- an activation of a loaded function
pub function_entered : (abi : Abi) (enter : Enter) (at : ℕ → ℕ → _) (f : meaning.Function) (g : Function) (xs : List passed.Argument) (s : State) → IsFunction abi enter at f g → length xs ≡ length g.parameters.items
    → activated enter f xs s ≡ left_by s.next g (at s.next 0 (entered_state abi g xs s))
function_entered abi enter at f g xs s is long =
    ap (leaves s.next (numbers 0 xs)) (is.body s.next (begun f.abi xs s))
    ∙ (ap (λ (a : Abi). leaves s.next (numbers 0 xs) (leaves s.next (map number_of (objects_of g.objects.items)) (at s.next 0 (entered_state a g xs s)))) is.model
    ∙ ap (λ ns. leaves s.next ns (leaves s.next (map number_of (objects_of g.objects.items)) (at s.next 0 (entered_state abi g xs s)))) (numbers_counted xs 0 ∙ ap (counted 0) long))
