-- Device: calls of loaded functions.
use Rattle.std.proofs.Common.{◌≡◌, ℕ, zero, suc, ◌+◌, ◌*◌, ◌<◌, ◌≤◌, Bool, true, false, ◌&&◌, List, [], ◌∷◌, ◌++◌, length, get_or, Option, Some, None, slice_get, refl, sym, ap, ◌∙◌, subst, arith}
use Rattle.std.proofs.lemmas.Option.{slice_get_read}
use Rattle.cil_base.specs.declared.kinds.Abi.{Abi}
use Rattle.byte_mem.specs.declared.stores.Store.{Store}
use Rattle.byte_mem.specs.declared.values.Value.{Value}
use Rattle.byte_mem.specs.Steps.{◌>>=◌}
use Rattle.byte_mem.specs.Store.{memory, Becomes}
use Rattle.execution.specs.States.{State, Result, Running, Undefined, with_left, spent}
use Rattle.execution.specs.Data.{Datum, same_kind}
use Rattle.execution.specs.Calls as meaning
use Rattle.execution.specs.Calls.{Enter, Meaning, Object, Code, Host, Linked, activated, entered, matches, arguments_match, called, entity_at, meant}
use Rattle.cil_code.specs.Calling.{kind_from}
use Rattle.cil_frames.specs.declared.activations.Argument.{Argument}
use Rattle.cil_frames.specs.declared.calling.Evaluated.{Evaluated}
use Rattle.cil_frames.specs.declared.frames.Function.{Function}
use Rattle.cil_frames.specs.declared.frames.Frame.{Frame}
use Rattle.cil_frames.specs.declared.frames.Entity.{Entity}
use Rattle.cil_frames.specs.declared.frames.Entity.TheVariants.{Program as OfProgram}
use Rattle.cil_frames.specs.Entering.{arguments_of, objects_of, begun_in}
use Rattle.cil_frames.specs.Frames.{StandsAtCall as FrameCall}
use Rattle.cil_frames.specs.Frames.{Courses, whole, entered_state, entry_at, IsFunction, IsNoFunction, IsMachine}
use Rattle.cil_frames.specs.Keeping.{SameHeap}
use Rattle.cil_frames.proofs.Turns.{entity_meant, code_meant, frames_are_meant}
use Rattle.cil_frames.proofs.Unwinding.{function_entered}
use Rattle.cil_turns.specs.declared.ends.RunEnd.{RunEnd}
use Rattle.cil_turns.specs.declared.ends.RunEnd.TheVariants.{StillRunning, Undefined as WentUndefined, Memory as WantOfMemory}
use Rattle.cil_turns.specs.declared.runs.FirstCall.{FirstCall}
use Rattle.cil_turns.specs.declared.runs.Run.{Run}
use Rattle.cil_turns.specs.declared.runs.Stand.{Stand}
use Rattle.cil_frames.specs.Growing.{IsPlace, StandIn}
use Rattle.cil_turns.specs.Ends.{Ends, call_of_first}
use Rattle.cil_turns.specs.Standing.{Waits, Stands, remains, from_stand, from_first, steps_at, steps_ahead, longest, waiting_ahead, burden}
use Rattle.cil_turns.specs.Moving.{Arrives, Finishes}
use Rattle.cil_turns.specs.Turning.{StandsAtCall, kinds_agree, Begun, frame_of, FirstStands}
use Rattle.cil_turns.proofs.KindLemmas.{agree_long}
use Rattle.cil_turns.proofs.Wholes.{remains_is, remains_grows, whole_grows, cut_off, stand_push, ahead_push, ahead_at_most, steps_there, spends}
use Rattle.cil_turns.proofs.Heap.{begun_heap, still_counted}
use Rattle.cil_turns.proofs.Moves.{moved, quiet_moves, quiet_comes}

-- an activation has begun
pub begun : (old new : Run) (m : Store) (callee act left next : ℕ) (f : Function) (arguments : List Argument) → Becomes old.mem m (begun_in old.mem.abi act (arguments_of arguments) (objects_of f.objects.items) (memory old.mem)) → act ≡ old.next → suc left ≡ old.left → next ≡ suc old.next
    → new ≡ record old { mem = m; left = left; next = next } → Begun old new old.frames.items callee f arguments (record { function = callee; act = act; place = 0 })
begun old new m callee act left next f arguments h a l n e = record {
  stand = ap (λ act. record { function = callee; act = act; place = 0 }) a;
  memory = ap (λ (r : Run). memory r.mem) e ∙ (h.0 ∙ ap (λ act. begun_in old.mem.abi act (arguments_of arguments) (objects_of f.objects.items) (memory old.mem)) a);
  model = ap (λ (r : Run). r.mem.abi) e ∙ h.1;
  streams = ap (λ (r : Run). r.streams) e;
  left = ap (λ (r : Run). suc r.left) e ∙ l;
  next = ap (λ (r : Run). r.next) e ∙ n;
  frames = ap (λ (r : Run). r.frames.items) e;
}

-- and where its caller waits
pub pushed : (old mid new : Run) (frame : Frame) (callee : ℕ) (f : Function) (arguments : List Argument) (x : Stand) → mid ≡ record old { frames = mid.frames } → mid.frames.items ≡ old.frames.items ++ frame ∷ [] → Begun mid new mid.frames.items callee f arguments x
    → Begun old new (old.frames.items ++ frame ∷ []) callee f arguments x
pushed old mid new frame callee f arguments x e more h = record {
  stand = h.stand ∙ ap (λ (r : Run). record { function = callee; act = r.next; place = 0 }) e;
  memory = h.memory ∙ ap (λ (r : Run). begun_in r.mem.abi r.next (arguments_of arguments) (objects_of f.objects.items) (memory r.mem)) e;
  model = h.model ∙ ap (λ (r : Run). r.mem.abi) e;
  streams = h.streams ∙ ap (λ (r : Run). r.streams) e;
  left = h.left ∙ ap (λ (r : Run). r.left) e;
  next = h.next ∙ ap (λ (r : Run). suc r.next) e;
  frames = h.frames ∙ more;
}

-- the state in which it runs
entered_is : (old new : Run) (waiting : List Frame) (callee : ℕ) (f : Function) (arguments : List Argument) (x : Stand) (s : State) → Begun old new waiting callee f arguments x → s.memory ≡ memory old.mem → s.next ≡ old.next
    → entered_state old.mem.abi f (arguments_of arguments) (with_left s new.left) ≡ moved s new
entered_is old new waiting callee f arguments x s b same next =
    ap (λ m. record s { memory = m; left = new.left; next = suc s.next })
    (ap (λ n. begun_in old.mem.abi n (arguments_of arguments) (objects_of f.objects.items) s.memory) next
    ∙ (ap (begun_in old.mem.abi old.next (arguments_of arguments) (objects_of f.objects.items)) same ∙ sym b.memory))
    ∙ ap (λ n. record s { memory = memory new.mem; left = new.left; next = n }) (ap suc next ∙ sym b.next)

-- and the whole run then
begun_remains : (at : Courses) (table : List (Option Entity)) (old new : Run) (waiting : List Frame) (callee : ℕ) (f : Function) (arguments : List Argument) (x : Stand) (s : State) → Begun old new waiting callee f arguments x → s.memory ≡ memory old.mem → s.next ≡ old.next
    → slice_get table callee ≡ Some (Some (OfProgram f))
    → whole old.mem.abi at table waiting s.next f (at callee s.next 0 (entered_state old.mem.abi f (arguments_of arguments) (with_left s new.left))) ≡ remains old.mem.abi at table new.frames.items x (moved s new)
begun_remains at table old new waiting callee f arguments x s b same next there =
    ap (λ t. whole old.mem.abi at table waiting s.next f (at callee s.next 0 t)) (entered_is old new waiting callee f arguments x s b same next)
    ∙ (ap (λ n. whole old.mem.abi at table waiting n f (at callee n 0 (moved s new))) next
    ∙ (ap (λ ws. whole old.mem.abi at table ws old.next f (at callee old.next 0 (moved s new))) (sym b.frames)
    ∙ (sym (remains_is old.mem.abi at table new.frames.items (record { function = callee; act = old.next; place = 0 }) f (moved s new) there)
    ∙ ap (λ (y : Stand). remains old.mem.abi at table new.frames.items y (moved s new)) (sym b.stand))))

-- it stands there
begun_stands : (table : List (Option Entity)) (old new : Run) (waiting : List Frame) (callee : ℕ) (f : Function) (arguments : List Argument) (x : Stand) → Waits table old → StandIn table waiting → slice_get table callee ≡ Some (Some (OfProgram f)) → Begun old new waiting callee f arguments x
    → Stands table new x
begun_stands table old new waiting callee f arguments x w frames there b = record {
  waits = record {
    leads = w.leads;
    waiting = subst (StandIn table) (sym b.frames) frames;
    counted = still_counted (memory old.mem) (memory new.mem) old.streams new.streams (subst (SameHeap (memory old.mem)) (sym b.memory) (begun_heap old.mem.abi old.next (arguments_of arguments) (objects_of f.objects.items) (memory old.mem))) b.streams w.counted;
    numbers = let low = w.numbers in let l : suc new.left ≡ old.left = b.left in let n : new.next ≡ suc old.next = b.next in omega arith;
  };
  place = subst (λ (y : Stand). IsPlace table y.function y.place) (sym b.stand) (record { code = f; running = there; there = (w.leads callee f there).1 });
}

-- a machine that stands at a call
pub stands_at : (table : List (Option Entity)) (run : Run) (x y : Stand) (e : Evaluated) (h : StandsAtCall table run x y e) (s : State) → s.memory ≡ memory run.mem
    → FrameCall run.mem.abi table x.function x.act x.place h.before.function h.call (Some e) s
stands_at table run x y e h s same = record {
  running = h.before.running;
  there = h.before.there;
  parts = λ enter. h.parts.does s same enter;
}

-- a call of a loaded function whose kinds agree
pub enters : (table : List (Option Entity)) (old new : Run) (x y z : Stand) (callee : ℕ) (g : Function) (e : Evaluated) → StandsAtCall table old x y e → entity_at e.callee ≡ Some callee → slice_get table callee ≡ Some (Some (OfProgram g)) → kinds_agree g e.result e.arguments.items ≡ true
    → Begun old new (old.frames.items ++ frame_of y e.to ∷ []) callee g e.arguments.items z → (left taken : Option (List ℕ)) → Arrives table (from_stand table old x) old new z left left taken taken
enters table old new x y z callee g e h calls there fits b left taken = record {
  means = λ link enter at machine grow.
      quiet_moves (from_stand table old x old.mem.abi enter at) old new b.streams left taken (from_stand table new z old.mem.abi enter at) (λ s same units next.
      remains_is old.mem.abi at table old.frames.items x h.before.function s h.before.running
      ∙ ((frames_are_meant old.mem.abi link enter at table machine).enters old.frames.items x.function x.act x.place callee new.left h.before.function g h.call e s (stands_at table old x y e h s same) calls there fits (units ∙ sym b.left)
      ∙ (ap (λ (v : Stand). whole old.mem.abi at table (old.frames.items ++ frame_of v e.to ∷ []) s.next g (at callee s.next 0 (entered_state old.mem.abi g (arguments_of e.arguments.items) (with_left s new.left)))) (sym h.before.behind)
      ∙ begun_remains at table old new (old.frames.items ++ frame_of y e.to ∷ []) callee g e.arguments.items z s b same next there)));
  stands = begun_stands table old new (old.frames.items ++ frame_of y e.to ∷ []) callee g e.arguments.items z h.before.stands.waits
      (stand_push table old.frames.items (frame_of y e.to) h.before.stands.waits.waiting
      (subst (λ (v : Stand). IsPlace table v.function v.place) (sym h.before.behind) (record { code = h.before.function; running = h.before.running; there = h.before.within }))) there b;
  model = b.model;
}

-- it takes from what is ahead
pub entering_falls : (table : List (Option Entity)) (old new : Run) (x y z : Stand) (callee : ℕ) (g : Function) (e : Evaluated) → StandsAtCall table old x y e → Begun old new (old.frames.items ++ frame_of y e.to ∷ []) callee g e.arguments.items z
    → burden table new z < burden table old x
entering_falls table old new x y z callee g e h b =
    let frame : waiting_ahead table new.frames.items ≡ waiting_ahead table old.frames.items + suc (steps_ahead table x.function (suc x.place)) =
    ap (waiting_ahead table) b.frames
    ∙ (ahead_push table old.frames.items (frame_of y e.to) ∙ ap (λ (v : Stand). waiting_ahead table old.frames.items + suc (steps_ahead table v.function v.place)) h.before.behind) in
    let long : steps_at (slice_get table x.function) ≡ length h.before.function.code.items = steps_there table x.function h.before.function h.before.running in
    let within : suc x.place < length h.before.function.code.items = h.before.within in
    let few : steps_ahead table z.function z.place ≤ longest table = ahead_at_most table z.function z.place in
    let unit : suc new.left ≡ old.left = b.left in
    let rest : waiting_ahead table new.frames.items + steps_ahead table z.function z.place < (longest table + 2) + (waiting_ahead table old.frames.items + steps_ahead table x.function x.place) = omega arith in
    let all : new.left * (longest table + 2) + (waiting_ahead table new.frames.items + steps_ahead table z.function z.place) < old.left * (longest table + 2) + (waiting_ahead table old.frames.items + steps_ahead table x.function x.place) =
    spends new.left old.left (longest table) (waiting_ahead table new.frames.items + steps_ahead table z.function z.place) (waiting_ahead table old.frames.items + steps_ahead table x.function x.place) (omega arith) rest in
    omega arith

-- where the kinds differ, or no unit is left, or memory is wanting

ends_along : (end : RunEnd) (f : State → Result Datum) (r : Result Datum) (text tail : List ℕ) (left : ℕ) (s : State) → f s ≡ r → Ends end r text tail left → Ends end (f s) text tail left
ends_along end f r text tail left s e h = subst (λ r. Ends end r text tail left) (sym e) h

pub entry_of : (table : List (Option Entity)) (v : Value) (n : ℕ) (e : Option Entity) → entity_at v ≡ Some n → slice_get table n ≡ Some e → entry_at table v ≡ e
entry_of table v n e calls there = ap (λ o. o >>= λ n. slice_get table n >>= λ e. e) calls ∙ ap (λ o. o >>= λ e. e) there

pub misfits : (table : List (Option Entity)) (run : Run) (x y : Stand) (callee : ℕ) (g : Function) (e : Evaluated) → StandsAtCall table run x y e → entity_at e.callee ≡ Some callee → slice_get table callee ≡ Some (Some (OfProgram g)) → kinds_agree g e.result e.arguments.items ≡ false
    → (left taken : Option (List ℕ)) → Finishes table (from_stand table run x) WentUndefined run run left left taken taken
misfits table run x y callee g e h calls there fits left taken = record {
  means = λ link enter at machine grow.
      quiet_comes (from_stand table run x run.mem.abi enter at) run run refl left taken WentUndefined tt (λ tail s same units next.
      ends_along WentUndefined (from_stand table run x run.mem.abi enter at) (Undefined s) s.out tail run.left s
      (remains_is run.mem.abi at table run.frames.items x h.before.function s h.before.running
      ∙ (frames_are_meant run.mem.abi link enter at table machine).misfits run.frames.items x.function x.act x.place h.before.function g h.call e s (stands_at table run x y e h s same) (entry_of table e.callee callee (Some (OfProgram g)) calls there) fits)
      (refl, units));
}

pub lacks : (table : List (Option Entity)) (run : Run) (x y : Stand) (callee : ℕ) (g : Function) (e : Evaluated) → StandsAtCall table run x y e → entity_at e.callee ≡ Some callee → slice_get table callee ≡ Some (Some (OfProgram g)) → kinds_agree g e.result e.arguments.items ≡ true → run.left ≡ 0
    → (left taken : Option (List ℕ)) → Finishes table (from_stand table run x) StillRunning run run left left taken taken
lacks table run x y callee g e h calls there fits none left taken = record {
  means = λ link enter at machine grow.
      quiet_comes (from_stand table run x run.mem.abi enter at) run run refl left taken StillRunning tt (λ tail s same units next.
      ends_along StillRunning (from_stand table run x run.mem.abi enter at) (Running s) s.out tail run.left s
      (remains_is run.mem.abi at table run.frames.items x h.before.function s h.before.running
      ∙ (frames_are_meant run.mem.abi link enter at table machine).lacks run.frames.items x.function x.act x.place h.before.function g h.call e s (stands_at table run x y e h s same) (entry_of table e.callee callee (Some (OfProgram g)) calls there) fits (units ∙ none))
      (refl, units));
}

-- what is called is no function
pub no_function : (table : List (Option Entity)) (run : Run) (x y : Stand) (e : Evaluated) → StandsAtCall table run x y e → IsNoFunction (entry_at table e.callee) → (left taken : Option (List ℕ)) → Finishes table (from_stand table run x) WentUndefined run run left left taken taken
no_function table run x y e h empty left taken = record {
  means = λ link enter at machine grow.
      quiet_comes (from_stand table run x run.mem.abi enter at) run run refl left taken WentUndefined tt (λ tail s same units next.
      ends_along WentUndefined (from_stand table run x run.mem.abi enter at) (Undefined s) s.out tail run.left s
      (remains_is run.mem.abi at table run.frames.items x h.before.function s h.before.running
      ∙ (frames_are_meant run.mem.abi link enter at table machine).wrong run.frames.items x.function x.act x.place h.before.function h.call e s (stands_at table run x y e h s same) empty)
      (refl, units));
}

-- what a table has
pub entry_there : (table : List (Option Entity)) (n : ℕ) (y : Option Entity) → n < length table → y ≡ get_or table n y → slice_get table n ≡ Some y
entry_there table n y h e = slice_get_read table (length table) n y refl h e

pub nothing_named : (table : List (Option Entity)) (v : Value) → None ≡ entity_at v → IsNoFunction (entry_at table v)
nothing_named table v none = subst IsNoFunction (ap (λ o. o >>= λ n. slice_get table n >>= λ e. e) none) tt

past : (table : List (Option Entity)) (n : ℕ) → length table ≤ n → slice_get table n ≡ None
past [] n h = refl
past (e ∷ table) zero h = absurd (omega arith)
past (e ∷ table) (suc n) h = past table n (omega arith)

pub nothing_past : (table : List (Option Entity)) (v : Value) (n : ℕ) → entity_at v ≡ Some n → length table ≤ n → IsNoFunction (entry_at table v)
nothing_past table v n calls h = subst IsNoFunction (sym (ap (λ o. o >>= λ n. slice_get table n >>= λ e. e) calls ∙ ap (λ o. o >>= λ e. e) (past table n h))) tt

pub nothing_there : (table : List (Option Entity)) (v : Value) (n : ℕ) (y : Option Entity) → entity_at v ≡ Some n → slice_get table n ≡ Some y → IsNoFunction y → IsNoFunction (entry_at table v)
nothing_there table v n y calls there empty = subst IsNoFunction (sym (entry_of table v n y calls there)) empty

-- memory is wanting where a machine stands, and what was sent and what waits is the output so far
pub wants_at : (table : List (Option Entity)) (old new : Run) (x : Stand) → Stands table old x → new.streams ≡ old.streams → new.left ≡ old.left → (left taken : Option (List ℕ)) → Finishes table (from_stand table old x) WantOfMemory old new left left taken taken
wants_at table old new x h same kept left taken = record {
  means = λ link enter at machine grow.
      quiet_comes (from_stand table old x old.mem.abi enter at) old new same left taken WantOfMemory tt (λ tail s m units next.
      let low : s.left ≡ new.left = units ∙ sym kept in
      cut_off (remains old.mem.abi at table old.frames.items x s) s new.left (remains_grows old.mem.abi link enter at table grow old.frames.items h.waits.waiting x h.place s) (omega arith));
}

-- the first call

first_is : (abi : Abi) (link : Linked) (enter : Enter) (at : Courses) (table : List (Option Entity)) (c : FirstCall) (f : Function) (b : Bool) (s : State) → IsMachine abi link enter at table → slice_get table c.callee ≡ Some (Some (OfProgram f)) → kinds_agree f c.result c.arguments.items ≡ b
    → (g : meaning.Function) × IsFunction abi enter (at c.callee) g f × (enter (call_of_first abi c) s ≡ entered b enter g (arguments_of c.arguments.items) s)
first_is abi link enter at table c f b s machine there fits =
    let m = entity_meant abi enter at link table 0 c.callee c.callee (Some (OfProgram f)) machine.entries there (omega arith) in
    let g = code_meant abi enter (at c.callee) m.0 f m.2 in
    let means : meant link (call_of_first abi c).callee ≡ Some (Code g.0) = ap (λ o. o >>= λ m. m) m.1 ∙ g.1 in
    let alike : matches g.0 (call_of_first abi c) ≡ b =
    ap (λ k. same_kind k (kind_from c.result) && arguments_match g.0.parameters (arguments_of c.arguments.items)) g.2.result
    ∙ (ap (λ ks. same_kind (kind_from f.result) (kind_from c.result) && arguments_match ks (arguments_of c.arguments.items)) g.2.parameters ∙ fits) in
    (g.0, g.2, machine.step (call_of_first abi c) s ∙ (ap (λ m. called enter m (call_of_first abi c) s) means ∙ ap (λ b. entered b enter g.0 (arguments_of c.arguments.items) s) alike))

begun_first : (abi : Abi) (link : Linked) (enter : Enter) (at : Courses) (table : List (Option Entity)) (c : FirstCall) (f : Function) (left : ℕ) (s : State) → IsMachine abi link enter at table → slice_get table c.callee ≡ Some (Some (OfProgram f)) → kinds_agree f c.result c.arguments.items ≡ true → s.left ≡ suc left
    → enter (call_of_first abi c) s ≡ whole abi at table [] s.next f (at c.callee s.next 0 (entered_state abi f (arguments_of c.arguments.items) (with_left s left)))
begun_first abi link enter at table c f left s machine there fits units =
    let k = first_is abi link enter at table c f true s machine there fits in
    k.2
    ∙ (ap (λ u. spent u s (activated enter k.0 (arguments_of c.arguments.items))) units
    ∙ function_entered abi enter (at c.callee) k.0 f (arguments_of c.arguments.items) (with_left s left) k.1 (agree_long (same_kind (kind_from f.result) (kind_from c.result)) f.parameters.items c.arguments.items fits))

pub first_enters : (table : List (Option Entity)) (old new : Run) (f : Function) (c : FirstCall) (x : Stand) → FirstStands table old f c → kinds_agree f c.result c.arguments.items ≡ true → Begun old new old.frames.items c.callee f c.arguments.items x
    → (left taken : Option (List ℕ)) → Arrives table (from_first c) old new x left left taken taken
first_enters table old new f c x h fits b left taken =
    let d : Begun old new [] c.callee f c.arguments.items x = subst (λ fs. Begun old new fs c.callee f c.arguments.items x) h.frames b in
    record {
      means = λ link enter at machine grow.
          quiet_moves (from_first c old.mem.abi enter at) old new b.streams left taken (from_stand table new x old.mem.abi enter at) (λ s same units next.
          begun_first old.mem.abi link enter at table c f new.left s machine h.running fits (units ∙ sym b.left) ∙ begun_remains at table old new [] c.callee f c.arguments.items x s d same next h.running);
      stands = begun_stands table old new [] c.callee f c.arguments.items x h.waits tt h.running d;
      model = b.model;
    }

pub first_misfits : (table : List (Option Entity)) (run : Run) (f : Function) (c : FirstCall) → FirstStands table run f c → kinds_agree f c.result c.arguments.items ≡ false → (left taken : Option (List ℕ)) → Finishes table (from_first c) WentUndefined run run left left taken taken
first_misfits table run f c h fits left taken = record {
  means = λ link enter at machine grow.
      quiet_comes (from_first c run.mem.abi enter at) run run refl left taken WentUndefined tt (λ tail s same units next.
      ends_along WentUndefined (from_first c run.mem.abi enter at) (Undefined s) s.out tail run.left s (first_is run.mem.abi link enter at table c f false s machine h.running fits).2 (refl, units));
}

pub first_lacks : (table : List (Option Entity)) (run : Run) (f : Function) (c : FirstCall) → FirstStands table run f c → kinds_agree f c.result c.arguments.items ≡ true → run.left ≡ 0 → (left taken : Option (List ℕ)) → Finishes table (from_first c) StillRunning run run left left taken taken
first_lacks table run f c h fits none left taken = record {
  means = λ link enter at machine grow.
      quiet_comes (from_first c run.mem.abi enter at) run run refl left taken StillRunning tt (λ tail s same units next.
      let k = first_is run.mem.abi link enter at table c f true s machine h.running fits in
      ends_along StillRunning (from_first c run.mem.abi enter at) (Running s) s.out tail run.left s (k.2 ∙ ap (λ u. spent u s (activated enter k.0 (arguments_of c.arguments.items))) (units ∙ none)) (refl, units));
}

above : (n : ℕ) → 0 < n → (k : ℕ) × (n ≡ suc k)
above zero h = absurd (omega arith)
above (suc k) h = (k, refl)

-- memory is wanting once the first activation is to begin
pub first_wants : (table : List (Option Entity)) (old new : Run) (f : Function) (c : FirstCall) → FirstStands table old f c → kinds_agree f c.result c.arguments.items ≡ true → 0 < old.left → new.streams ≡ old.streams → new.left ≡ old.left → (left taken : Option (List ℕ)) → Finishes table (from_first c) WantOfMemory old new left left taken taken
first_wants table old new f c h fits some same kept left taken =
    let k = above old.left some in
    let one : old.left ≡ suc k.0 = k.1 in
    let low : k.0 ≤ new.left = omega (arith, kept) in
    record {
      means = λ link enter at machine grow.
          quiet_comes (from_first c old.mem.abi enter at) old new same left taken WantOfMemory tt (λ tail s m units next.
          let t = entered_state old.mem.abi f (arguments_of c.arguments.items) (with_left s k.0) in
          let place : IsPlace table c.callee 0 = record { code = f; running = h.running; there = (h.waits.leads c.callee f h.running).1 } in
          ends_along WantOfMemory (from_first c old.mem.abi enter at) (whole old.mem.abi at table [] s.next f (at c.callee s.next 0 t)) s.out tail new.left s
          (begun_first old.mem.abi link enter at table c f k.0 s machine h.running fits (units ∙ k.1))
          (cut_off (whole old.mem.abi at table [] s.next f (at c.callee s.next 0 t)) t new.left (whole_grows old.mem.abi link enter at table grow [] tt s.next f t (at c.callee s.next 0 t) (grow.places c.callee s.next 0 place t)) low));
    }
