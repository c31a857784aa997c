-- Device: whole runs where a machine stands, which only grow, and what turns take from what is ahead.
use Rattle.std.proofs.Common.{◌≡◌, ℕ, zero, suc, ◌+◌, ◌*◌, ◌<◌, ◌≤◌, List, [], ◌∷◌, ◌++◌, length, Option, Some, None, slice_get, sym, ap, ◌∙◌, subst, arith, append_assoc}
use Rattle.std.proofs.lemmas.List.{append-nil}
use Rattle.std.proofs.Math.Nat.{suc-mul, mul-le-mul_right}
use Rattle.cil_base.specs.declared.kinds.Abi.{Abi}
use Rattle.cil_base.specs.Outcome.{IsPrefix}
use Rattle.byte_mem.specs.Memory.{Memory}
use Rattle.execution.specs.States.{State, Result, Goes, Exits, Running, Undefined, with_memory, bind, last}
use Rattle.execution.specs.Data.{Datum}
use Rattle.execution.specs.Calls.{Enter, Linked}
use Rattle.cil_semantics.specs.Statements.{written}
use Rattle.cil_frames.specs.declared.calling.Destination.{Destination}
use Rattle.cil_frames.specs.declared.frames.Function.{Function}
use Rattle.cil_frames.specs.declared.frames.Frame.{Frame}
use Rattle.cil_frames.specs.declared.frames.Entity.{Entity}
use Rattle.cil_frames.specs.declared.frames.Entity.TheVariants.{Program as OfProgram}
use Rattle.cil_frames.specs.Evaluating.{kept_in, keeps}
use Rattle.cil_frames.specs.Frames.{Courses, function_in, whole}
use Rattle.cil_frames.proofs.Unwinding.{unwound_running, unwound_undefined, unwound_exits}
use Rattle.cil_turns.specs.declared.runs.Stand.{Stand}
use Rattle.cil_frames.specs.Growing.{Grows, IsPlace, StandIn, OnlyGrows}
use Rattle.cil_turns.specs.Ends.{CutOff}
use Rattle.cil_turns.specs.Standing.{remains_in, remains, keeping_in, keeping, steps_at, steps_ahead, longest, waiting_ahead}

-- whole runs

pub remains_is : (abi : Abi) (at : Courses) (table : List (Option Entity)) (frames : List Frame) (x : Stand) (f : Function) (s : State) → slice_get table x.function ≡ Some (Some (OfProgram f))
    → remains abi at table frames x s ≡ whole abi at table frames x.act f (at x.function x.act x.place s)
remains_is abi at table frames x f s there = ap (λ o. remains_in abi at table frames x (function_in o) s) there

pub keeping_is : (abi : Abi) (at : Courses) (table : List (Option Entity)) (frames : List Frame) (to : Option Destination) (d : Datum) (x : Stand) (f : Function) (s : State) → slice_get table x.function ≡ Some (Some (OfProgram f))
    → keeping abi at table frames to d x s ≡ whole abi at table frames x.act f (bind (keeps abi to d s) (λ g. at x.function x.act x.place))
keeping_is abi at table frames to d x f s there = ap (λ o. keeping_in abi at table frames to d x (function_in o) s) there

pub whole_exits : (abi : Abi) (at : Courses) (table : List (Option Entity)) (frames : List Frame) (act : ℕ) (f : Function) (status : ℕ) (s : State) → whole abi at table frames act f (Exits status s) ≡ Exits status s
whole_exits abi at table frames act f status s = unwound_exits abi at table frames status s

pub whole_undefined : (abi : Abi) (at : Courses) (table : List (Option Entity)) (frames : List Frame) (act : ℕ) (f : Function) (s : State) → whole abi at table frames act f (Undefined s) ≡ Undefined s
whole_undefined abi at table frames act f s = unwound_undefined abi at table frames s

pub whole_running : (abi : Abi) (at : Courses) (table : List (Option Entity)) (frames : List Frame) (act : ℕ) (f : Function) (s : State) → whole abi at table frames act f (Running s) ≡ Running s
whole_running abi at table frames act f s = unwound_running abi at table frames s

-- they only grow

pub grows_then : (a b c : State) → Grows a b → Grows b c → Grows a c
grows_then a b c x y = record {
  left = let low : b.left ≤ a.left = x.left in let lower : c.left ≤ b.left = y.left in omega arith;
  more = x.more ++ y.more;
  out = y.out ∙ (ap (λ o. o ++ y.more) x.out ∙ append_assoc a.out x.more y.more);
  at_end = λ e. y.at_end (x.at_end e);
}

pub grows_front : (s t : State) → Grows s t → IsPrefix s.out t.out
grows_front s t g = (g.more, g.out)

-- a run that is cut off in a state from which it goes on so
pub cut_off : (r : Result Datum) (s : State) (left : ℕ) → Grows s (last r) → s.left ≤ left → CutOff r s.out left
cut_off r s left g units = record {
  written = grows_front s (last r) g;
  spent = let low : (last r).left ≤ s.left = g.left in omega arith;
}

module _ (abi : Abi) (link : Linked) (enter : Enter) (at : Courses) (table : List (Option Entity)) (grow : OnlyGrows abi link enter at table) where
  pub whole_grows : (frames : List Frame) → StandIn table frames → (act : ℕ) (f : Function) (s : State) (r : Result Datum) → Grows s (last r) → Grows s (last (whole abi at table frames act f r))
  whole_grows frames waiting act f s r g = grows_then s (last r) (last (whole abi at table frames act f r)) g (grow.wholes frames waiting act f r)

  pub remains_grows : (frames : List Frame) → StandIn table frames → (x : Stand) → IsPlace table x.function x.place → (s : State) → Grows s (last (remains abi at table frames x s))
  remains_grows frames waiting x place s =
      subst (λ r. Grows s (last r)) (sym (remains_is abi at table frames x place.code s place.running))
      (whole_grows frames waiting x.act place.code s (at x.function x.act x.place s) (grow.places x.function x.act x.place place s))

  same_grows : (s : State) → Grows s s
  same_grows s = record { left = omega arith; more = []; out = sym (append-nil s.out); at_end = λ e. e }

  -- behind a result that is kept
  kept_grows : (x : Stand) → IsPlace table x.function x.place → (s : State) (o : Option Memory) → Grows s (last (bind (written s o) (λ g. at x.function x.act x.place)))
  kept_grows x place s None = same_grows s
  kept_grows x place s (Some m) =
      let g = grow.places x.function x.act x.place place (with_memory s m) in
      record { left = g.left; more = g.more; out = g.out; at_end = g.at_end }

  pub keeping_grows : (frames : List Frame) → StandIn table frames → (to : Option Destination) (d : Datum) (x : Stand) → IsPlace table x.function x.place → (s : State) → Grows s (last (keeping abi at table frames to d x s))
  keeping_grows frames waiting to d x place s =
      subst (λ r. Grows s (last r)) (sym (keeping_is abi at table frames to d x place.code s place.running))
      (whole_grows frames waiting x.act place.code s (bind (keeps abi to d s) (λ g. at x.function x.act x.place)) (kept_grows x place s (kept_in abi to d s.memory)))

  -- behind whatever a call gives
  pub call_grows : (frames : List Frame) → StandIn table frames → (to : Option Destination) (x : Stand) (f : Function) → IsPlace table x.function x.place → (r : Result Datum)
      → Grows (last r) (last (whole abi at table frames x.act f (bind (bind r (keeps abi to)) (λ g. at x.function x.act x.place))))
  call_grows frames waiting to x f place (Goes d s) = whole_grows frames waiting x.act f s (bind (keeps abi to d s) (λ g. at x.function x.act x.place)) (kept_grows x place s (kept_in abi to d s.memory))
  call_grows frames waiting to x f place (Exits status s) = grow.wholes frames waiting x.act f (Exits status s)
  call_grows frames waiting to x f place (Running s) = grow.wholes frames waiting x.act f (Running s)
  call_grows frames waiting to x f place (Undefined s) = grow.wholes frames waiting x.act f (Undefined s)

-- activations that wait

pub stand_push : (table : List (Option Entity)) (frames : List Frame) (frame : Frame) → StandIn table frames → IsPlace table frame.function frame.place → StandIn table (frames ++ frame ∷ [])
stand_push table [] frame h place = (place, tt)
stand_push table (x ∷ frames) frame h place = (h.0, stand_push table frames frame h.1 place)

pub stand_pop : (table : List (Option Entity)) (frames : List Frame) (frame : Frame) → StandIn table (frames ++ frame ∷ []) → StandIn table frames × IsPlace table frame.function frame.place
stand_pop table [] frame h = (tt, h.0)
stand_pop table (x ∷ frames) frame h = let k = stand_pop table frames frame h.1 in ((h.0, k.0), k.1)

-- what is ahead

pub ahead_push : (table : List (Option Entity)) (frames : List Frame) (frame : Frame) → waiting_ahead table (frames ++ frame ∷ []) ≡ waiting_ahead table frames + suc (steps_ahead table frame.function frame.place)
ahead_push table [] frame = omega arith
ahead_push table (x ∷ frames) frame = let e : waiting_ahead table (frames ++ frame ∷ []) ≡ waiting_ahead table frames + suc (steps_ahead table frame.function frame.place) = ahead_push table frames frame in omega arith

steps_at_most : (table : List (Option Entity)) (n : ℕ) → steps_at (slice_get table n) ≤ longest table
steps_at_most [] n = omega arith
steps_at_most (e ∷ table) zero = omega arith
steps_at_most (e ∷ table) (suc n) = let low : steps_at (slice_get table n) ≤ longest table = steps_at_most table n in omega arith

pub ahead_at_most : (table : List (Option Entity)) (function place : ℕ) → steps_ahead table function place ≤ longest table
ahead_at_most table function place = let low : steps_at (slice_get table function) ≤ longest table = steps_at_most table function in omega arith

pub steps_there : (table : List (Option Entity)) (function : ℕ) (f : Function) → slice_get table function ≡ Some (Some (OfProgram f)) → steps_at (slice_get table function) ≡ length f.code.items
steps_there table function f there = ap steps_at there

-- a unit outweighs what a function has ahead
pub spends : (k l w x y : ℕ) → k < l → x < (w + 2) + y → k * (w + 2) + x < l * (w + 2) + y
spends k zero w x y h g = absurd (omega arith)
spends k (suc l) w x y h g = by (times k l (w + 2) (omega arith))
  where
    times : (k l c : ℕ) → k ≤ l → k * c ≤ l * c
    times k l c h = mul-le-mul_right c h

    by : k * (w + 2) ≤ l * (w + 2) → k * (w + 2) + x < suc l * (w + 2) + y
    by low = let all : suc l * (w + 2) ≡ l * (w + 2) + (w + 2) = suc-mul l (w + 2) in omega arith
