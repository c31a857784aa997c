-- Device: courses, and what comes behind them.
use Rattle.std.proofs.Common.{◌≡◌, ℕ, zero, suc, ◌+◌, ◌*◌, ◌<◌, ◌≤◌, inl, inr, List, [], ◌∷◌, length, get_or, Option, Some, None, slice_get, refl, sym, ap, ◌∙◌, subst, arith}
use Rattle.std.specs.Prelude.{◌^◌}
use Rattle.std.proofs.lemmas.Option.{slice_get_read}
use Rattle.std.proofs.Math.Nat.{mul-le-mul_right}
use Rattle.cil_base.specs.declared.kinds.Abi.{Abi}
use Rattle.byte_mem.specs.declared.stores.Store.{Store}
use Rattle.byte_mem.specs.Store.{memory}
use Rattle.execution.specs.States.{State}
use Rattle.execution.specs.Calls.{Enter, Linked}
use Rattle.cil_code.specs.declared.calls.Call.{Call}
use Rattle.cil_code.specs.declared.steps.Step.{Step}
use Rattle.cil_code.specs.declared.taking.Datum.{Datum as CodeDatum}
use Rattle.cil_code.specs.declared.steps.Step.TheVariants.{Call as CallStep}
use Rattle.cil_code.specs.Taking.{datum_of}
use Rattle.cil_frames.specs.declared.courses.Stop.{Stop}
use Rattle.cil_frames.specs.declared.courses.Stop.TheVariants as stop
use Rattle.cil_frames.specs.declared.frames.Function.{Function}
use Rattle.cil_frames.specs.declared.frames.Entity.{Entity}
use Rattle.cil_frames.specs.declared.frames.Entity.TheVariants.{Data as OfData, Program as OfProgram, Host as OfHost}
use Rattle.cil_frames.specs.Course.{GoesBy, NotBehind, IsCallAt, StopsThere, Ran, stopped, with_both}
use Rattle.cil_frames.specs.Evaluating.{Evaluates}
use Rattle.cil_frames.specs.Frames.{Courses, whole, IsMachine}
use Rattle.cil_frames.specs.Keeping.{SameHeap}
use Rattle.cil_frames.proofs.Leads.{step_leads, further_is}
use Rattle.cil_frames.proofs.Turns.{entity_meant, code_meant, frames_are_meant}
use Rattle.cil_turns.specs.declared.ends.RunEnd.TheVariants.{StillRunning, Undefined as WentUndefined}
use Rattle.cil_turns.specs.declared.runs.Run.{Run}
use Rattle.cil_turns.specs.declared.runs.Stand.{Stand}
use Rattle.cil_turns.specs.declared.runs.Turn.{Turn}
use Rattle.cil_turns.specs.declared.runs.Turn.TheVariants.{On, Stopped}
use Rattle.cil_turns.specs.Ends.{Ends}
use Rattle.cil_turns.specs.Standing.{Waits, Stands, remains, from_stand, from_stop, from_end, steps_ahead, longest, waiting_ahead, waiting_burden, burden, stop_burden, Falls}
use Rattle.cil_turns.specs.Moving.{Finishes, Turned, TurnedQuietly}
use Rattle.cil_turns.specs.Turning.{Coursed, CallsAt, StopsAt, StandsBefore}
use Rattle.cil_turns.proofs.Wholes.{remains_is, whole_running, whole_undefined, ahead_at_most, spends}
use Rattle.cil_turns.proofs.Heap.{still_counted}
use Rattle.cil_turns.proofs.Moves.{moved, same_moved, quiet_moves, quiet_comes, turned_behind}

-- what is no function of the program
abbrev pub IsNoProgram : Option Entity → Type 0
IsNoProgram None = Unit {0}
IsNoProgram (Some OfData) = Unit {0}
IsNoProgram (Some (OfProgram f)) = ⊥
IsNoProgram (Some (OfHost name)) = Unit {0}

-- a course of the code is one of a run
pub coursed : (old new : Run) (m : Store) (left : ℕ) (x : Stand) (code : List Step) (y : Stop) → Ran old.mem m x.act code x.place old.left left y → SameHeap (memory old.mem) (memory m) → new ≡ record old { mem = m; left = left } → Coursed old new x code y
coursed old new m left x code y ran heap e = subst (λ (r : Run). Coursed old r x code y) (sym e) (record { ran = ran; heap = heap; others = refl })

-- it spends units, if any
spent_by : (code : List Step) (p before after : ℕ) (y : Stop) → StopsThere code p before after y → after ≤ before
spent_by code p before after (stop.Call q) h = by h.1
  where
    by : NotBehind p before q after → after ≤ before
    by (inl k) = omega arith
    by (inr k) = let same : after ≡ before = k.0 in omega arith
spent_by code p before after stop.Running h = omega arith
spent_by code p before after (stop.Ended d) h = h
spent_by code p before after stop.Undefined h = h

pub ran_spends : (old new : Store) (act : ℕ) (code : List Step) (p before after : ℕ) (y : Stop) → Ran old new act code p before after y → after ≤ before
ran_spends old new act code p before after y h = spent_by code p before after y h.there

pub course_spends : (old new : Run) (x : Stand) (code : List Step) (y : Stop) → Coursed old new x code y → new.left ≤ old.left
course_spends old new x code y h = spent_by code x.place old.left new.left y h.ran.there

-- what waits still does
course_waits : (table : List (Option Entity)) (old new : Run) (x : Stand) (code : List Step) (y : Stop) → Coursed old new x code y → Waits table old → Waits table new
course_waits table old new x code y h w =
    let less : new.left ≤ old.left = course_spends old new x code y h in
    let fits : old.next + old.left < 2 ^ 64 = w.numbers in
    subst (Waits table) (sym h.others) (record {
      leads = w.leads;
      waiting = w.waiting;
      counted = still_counted (memory old.mem) (memory new.mem) old.streams old.streams h.heap refl w.counted;
      numbers = omega arith;
    })

calls_at : (code : List Step) (p before after : ℕ) (y : Stop) → StopsThere code p before after y → CallsAt code y
calls_at code p before after (stop.Call q) h = h.0
calls_at code p before after stop.Running h = tt
calls_at code p before after (stop.Ended d) h = tt
calls_at code p before after stop.Undefined h = tt

pub course_stops : (table : List (Option Entity)) (old mid : Run) (x : Stand) (f : Function) (y : Stop) → Stands table old x → slice_get table x.function ≡ Some (Some (OfProgram f)) → Coursed old mid x f.code.items y → StopsAt table mid x f y
course_stops table old mid x f y s there h = record {
  waits = course_waits table old mid x f.code.items y h s.waits;
  running = there;
  calls = calls_at f.code.items x.place old.left mid.left y h.ran.there;
}

-- what remains where it stops
goes_there : (abi : Abi) (link : Linked) (enter : Enter) (at : Courses) (table : List (Option Entity)) (n act : ℕ) (f : Function) → IsMachine abi link enter at table → slice_get table n ≡ Some (Some (OfProgram f)) → GoesBy abi act f.code.items enter (datum_of f.end) (at n act)
goes_there abi link enter at table n act f machine there =
    let m = entity_meant abi enter at link table 0 n n (Some (OfProgram f)) machine.entries there (omega arith) in
    let g = code_meant abi enter (at n) m.0 f m.2 in
    g.2.goes act

both_moved : (old mid : Run) (x : Stand) (code : List Step) (y : Stop) (s : State) → Coursed old mid x code y → s.next ≡ old.next → with_both s (memory mid.mem) mid.left ≡ moved s mid
both_moved old mid x code y s h next = ap (λ n. record s { memory = memory mid.mem; left = mid.left; next = n }) (next ∙ ap (λ (r : Run). r.next) (sym h.others))

pub course_turned : (table : List (Option Entity)) (old mid new : Run) (x : Stand) (f : Function) (y : Stop) (turn : Turn) (left left' taken taken' : Option (List ℕ)) → slice_get table x.function ≡ Some (Some (OfProgram f)) → Coursed old mid x f.code.items y
    → Turned table (from_stop table mid x f y) mid new turn left left' taken taken' → Turned table (from_stand table old x) old new turn left left' taken taken'
course_turned table old mid new x f y turn left left' taken taken' there h rest =
    turned_behind table (from_stand table old x) (from_stop table mid x f y) old mid new turn left left left' taken taken taken' h.ran.abi
    (λ link enter at machine grow.
    quiet_moves (from_stand table old x old.mem.abi enter at) old mid (ap (λ (r : Run). r.streams) h.others) left taken (from_stop table mid x f y old.mem.abi enter at) (λ s same units next.
    remains_is old.mem.abi at table old.frames.items x f s there
    ∙ (ap (whole old.mem.abi at table old.frames.items x.act f) (h.ran.does enter (datum_of f.end) (at x.function x.act) (goes_there old.mem.abi link enter at table x.function x.act f machine there) s same units)
    ∙ (ap (λ t. whole old.mem.abi at table old.frames.items x.act f (stopped (datum_of f.end) (at x.function x.act) y t)) (both_moved old mid x f.code.items y s h next)
    ∙ ap (λ (r : Run). whole old.mem.abi at table r.frames.items x.act f (stopped (datum_of f.end) (at x.function x.act) y (moved s mid))) (sym h.others)))))
    rest

-- and what is ahead there
same_waiting : (table : List (Option Entity)) (old mid : Run) (x : Stand) (code : List Step) (y : Stop) → Coursed old mid x code y → waiting_ahead table mid.frames.items ≡ waiting_ahead table old.frames.items
same_waiting table old mid x code y h = ap (λ (r : Run). waiting_ahead table r.frames.items) h.others

stop_by : (table : List (Option Entity)) (old mid : Run) (x : Stand) (code : List Step) (y : Stop) → Coursed old mid x code y → mid.left ≤ old.left → waiting_burden table mid ≤ waiting_burden table old
stop_by table old mid x code y h less =
    let waiting : waiting_ahead table mid.frames.items ≡ waiting_ahead table old.frames.items = same_waiting table old mid x code y h in
    let units : mid.left * (longest table + 2) ≤ old.left * (longest table + 2) = mul-le-mul_right (longest table + 2) less in
    omega arith

call_by : (table : List (Option Entity)) (old mid : Run) (x : Stand) (code : List Step) (q : ℕ) → Coursed old mid x code (stop.Call q) → NotBehind x.place old.left q mid.left → burden table mid (record x { place = q }) ≤ burden table old x
call_by table old mid x code q h (inl less) =
    let waiting : waiting_ahead table mid.frames.items ≡ waiting_ahead table old.frames.items = same_waiting table old mid x code (stop.Call q) h in
    let few : steps_ahead table x.function q ≤ longest table = ahead_at_most table x.function q in
    let all : mid.left * (longest table + 2) + (waiting_ahead table mid.frames.items + steps_ahead table x.function q) < old.left * (longest table + 2) + (waiting_ahead table old.frames.items + steps_ahead table x.function x.place) =
    spends mid.left old.left (longest table) (waiting_ahead table mid.frames.items + steps_ahead table x.function q) (waiting_ahead table old.frames.items + steps_ahead table x.function x.place) less (omega arith) in
    omega arith
call_by table old mid x code q h (inr k) =
    let less : waiting_burden table mid ≤ waiting_burden table old = stop_by table old mid x code (stop.Call q) h (let same : mid.left ≡ old.left = k.0 in omega arith) in
    let on : x.place ≤ q = k.1 in
    omega arith

stop_at_most : (table : List (Option Entity)) (old mid : Run) (x : Stand) (code : List Step) (y : Stop) → Coursed old mid x code y → stop_burden table mid x y ≤ burden table old x
stop_at_most table old mid x code (stop.Call q) h = call_by table old mid x code q h h.ran.there.1
stop_at_most table old mid x code stop.Running h = let less : waiting_burden table mid ≤ waiting_burden table old = stop_by table old mid x code stop.Running h (course_spends old mid x code stop.Running h) in omega arith
stop_at_most table old mid x code (stop.Ended d) h = let less : waiting_burden table mid ≤ waiting_burden table old = stop_by table old mid x code (stop.Ended d) h (course_spends old mid x code (stop.Ended d) h) in omega arith
stop_at_most table old mid x code stop.Undefined h = let less : waiting_burden table mid ≤ waiting_burden table old = stop_by table old mid x code stop.Undefined h (course_spends old mid x code stop.Undefined h) in omega arith

pub course_falls : (table : List (Option Entity)) (old mid new : Run) (x : Stand) (code : List Step) (y : Stop) (turn : Turn) → Coursed old mid x code y → Falls table (stop_burden table mid x y) new turn → Falls table (burden table old x) new turn
course_falls table old mid new x code y (On z) h f = let most : stop_burden table mid x y ≤ burden table old x = stop_at_most table old mid x code y h in omega arith
course_falls table old mid new x code y (Stopped end) h f = tt

-- what comes behind a course

-- a call is next
there_within : (code : List Step) (q : ℕ) (y : Step) → slice_get code q ≡ Some y → q < length code
there_within [] q y e = absurd (cc)
there_within (z ∷ code) zero y e = omega arith
there_within (z ∷ code) (suc q) y e = let low : q < length code = there_within code q y e in omega arith

pub stands_there : (table : List (Option Entity)) (run : Run) (x z : Stand) (f : Function) (q : ℕ) → StopsAt table run x f (stop.Call q) → z ≡ record x { place = q } → Stands table run z
stands_there table run x z f q h e = subst (Stands table run) (sym e) (record { waits = h.waits; place = record { code = f; running = h.running; there = there_within f.code.items q _ h.calls.there } })

pub call_turned : (table : List (Option Entity)) (old new : Run) (x z : Stand) (f : Function) (q : ℕ) (turn : Turn) (left left' taken taken' : Option (List ℕ)) → slice_get table x.function ≡ Some (Some (OfProgram f)) → z ≡ record x { place = q }
    → Turned table (from_stand table old z) old new turn left left' taken taken' → Turned table (from_stop table old x f (stop.Call q)) old new turn left left' taken taken'
call_turned table old new x z f q turn left left' taken taken' there e rest =
    turned_behind table (from_stop table old x f (stop.Call q)) (from_stand table old z) old old new turn left left left' taken taken taken' refl
    (λ link enter at machine grow.
    quiet_moves (from_stop table old x f (stop.Call q) old.mem.abi enter at) old old refl left taken (from_stand table old z old.mem.abi enter at) (λ s same units next.
    sym (remains_is old.mem.abi at table old.frames.items (record x { place = q }) f s there)
    ∙ (ap (λ (v : Stand). remains old.mem.abi at table old.frames.items v s) (sym e) ∙ ap (remains old.mem.abi at table old.frames.items z) (same_moved old s same units next))))
    rest

-- the body has ended, with a value or without
pub ended_none : (table : List (Option Entity)) (old new : Run) (x : Stand) (f : Function) (y : Stop) (z : Option CodeDatum) (turn : Turn) (left taken : Option (List ℕ)) → y ≡ stop.Ended z → z ≡ None → TurnedQuietly table (from_end table old x.act f (datum_of f.end)) old new turn
    → Turned table (from_stop table old x f y) old new turn left left taken taken
ended_none table old new x f y z turn left taken e none h =
    subst (λ (y : Stop). Turned table (from_stop table old x f y) old new turn left left taken taken) (sym (e ∙ ap stop.Ended none)) (h left taken)

pub ended_some : (table : List (Option Entity)) (old new : Run) (x : Stand) (f : Function) (y : Stop) (z : Option CodeDatum) (d : CodeDatum) (turn : Turn) (left taken : Option (List ℕ)) → y ≡ stop.Ended z → z ≡ Some d → TurnedQuietly table (from_end table old x.act f (datum_of d)) old new turn
    → Turned table (from_stop table old x f y) old new turn left left taken taken
ended_some table old new x f y z d turn left taken e some h =
    subst (λ (y : Stop). Turned table (from_stop table old x f y) old new turn left left taken taken) (sym (e ∙ ap stop.Ended some)) (h left taken)

pub ended_falls : (table : List (Option Entity)) (old new : Run) (x : Stand) (y : Stop) (z : Option CodeDatum) (turn : Turn) → y ≡ stop.Ended z → Falls table (waiting_burden table old) new turn → Falls table (stop_burden table old x y) new turn
ended_falls table old new x y z turn e h = subst (λ (y : Stop). Falls table (stop_burden table old x y) new turn) (sym e) h

-- no unit is left
pub runs_still : (table : List (Option Entity)) (run : Run) (x : Stand) (f : Function) (left taken : Option (List ℕ)) → Finishes table (from_stop table run x f stop.Running) StillRunning run run left left taken taken
runs_still table run x f left taken = record {
  means = λ link enter at machine grow.
      quiet_comes (from_stop table run x f stop.Running run.mem.abi enter at) run run refl left taken StillRunning tt (λ tail s same units next.
      subst (λ r. Ends StillRunning r s.out tail run.left) (sym (whole_running run.mem.abi at table run.frames.items x.act f s)) (refl, units));
}

-- a step is undefined
pub goes_wrong : (table : List (Option Entity)) (run : Run) (x : Stand) (f : Function) (left taken : Option (List ℕ)) → Finishes table (from_stop table run x f stop.Undefined) WentUndefined run run left left taken taken
goes_wrong table run x f left taken = record {
  means = λ link enter at machine grow.
      quiet_comes (from_stop table run x f stop.Undefined run.mem.abi enter at) run run refl left taken WentUndefined tt (λ tail s same units next.
      subst (λ r. Ends WentUndefined r s.out tail run.left) (sym (whole_undefined run.mem.abi at table run.frames.items x.act f s)) (refl, units));
}

-- a part of a call is undefined
pub parts_wrong : (table : List (Option Entity)) (run : Run) (x y : Stand) (k : Call) → StandsBefore table run x y k → Evaluates run.mem x.act k None → (left taken : Option (List ℕ)) → Finishes table (from_stand table run x) WentUndefined run run left left taken taken
parts_wrong table run x y k h parts left taken = record {
  means = λ link enter at machine grow.
      quiet_comes (from_stand table run x run.mem.abi enter at) run run refl left taken WentUndefined tt (λ tail s same units next.
      subst (λ r. Ends WentUndefined r s.out tail run.left)
      (sym (remains_is run.mem.abi at table run.frames.items x h.function s h.running
      ∙ (frames_are_meant run.mem.abi link enter at table machine).undefined run.frames.items x.function x.act x.place h.function k s (record {
        running = h.running;
        there = h.there;
        parts = λ enter. parts.does s same enter;
      })))
      (refl, units));
}

-- a call stands at a place of a function
step_there : (code : List Step) (p : ℕ) (z y : Step) → p < length code → z ≡ get_or code p z → slice_get code p ≡ Some y → z ≡ y
step_there code p z y h e there = some_same z y (sym (slice_get_read code (length code) p z refl h e) ∙ there)
  where
    some_same : (a b : Step) → Some a ≡ Some b → a ≡ b
    some_same a b e = cc

pub place_within : (code : List Step) (q : ℕ) → IsCallAt code q → q < length code
place_within code q h = there_within code q _ h.there

pub before_call : (table : List (Option Entity)) (run : Run) (x y : Stand) (f : Function) (k : Call) (z : Step) → Stands table run x → slice_get table x.function ≡ Some (Some (OfProgram f)) → IsCallAt f.code.items x.place → z ≡ get_or f.code.items x.place z → z ≡ CallStep k → y ≡ record x { place = suc x.place }
    → StandsBefore table run x y k
before_call table run x y f k z h there calls is step behind = record {
  function = f;
  stands = h;
  running = there;
  there = slice_get_read f.code.items (length f.code.items) x.place z refl (place_within f.code.items x.place calls) is ∙ ap Some step;
  behind = behind;
  within = (further_is (length f.code.items) x.place (suc x.place) (step_leads f.code.items x.place _ (h.waits.leads x.function f there).0 calls.there)).1;
}

-- and no other step
pub only_calls : (code : List Step) (p : ℕ) (z : Step) → IsCallAt code p → z ≡ get_or code p z → ((k : Call) → z ≡ CallStep k → ⊥) → ⊥
only_calls code p z h e none = none h.call (step_there code p z (CallStep h.call) (place_within code p h) e h.there)

-- a machine stands in a function
pub only_functions : (table : List (Option Entity)) (run : Run) (x : Stand) (y : Option Entity) → Stands table run x → x.function < length table → y ≡ get_or table x.function y → IsNoProgram y → ⊥
only_functions table run x y h low e none = subst IsNoProgram (some_same y (Some (OfProgram h.place.code)) (sym (slice_get_read table (length table) x.function y refl low e) ∙ h.place.running)) none
  where
    some_same : (a b : Option Entity) → Some a ≡ Some b → a ≡ b
    some_same a b e = cc

pub function_within : (table : List (Option Entity)) (n : ℕ) (y : Option Entity) → slice_get table n ≡ Some y → n < length table
function_within [] n y e = absurd (cc)
function_within (z ∷ table) zero y e = omega arith
function_within (z ∷ table) (suc n) y e = let low : n < length table = function_within table n y e in omega arith
