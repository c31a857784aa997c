-- Device: activations end, and results are kept.
use Rattle.std.proofs.Common.{◌≡◌, ℕ, zero, suc, ◌+◌, ◌*◌, List, [], ◌∷◌, ◌++◌, length, map, Option, Some, None, slice_get, refl, sym, ap, ◌∙◌, subst, arith}
use Rattle.cil_base.specs.declared.kinds.Abi.{Abi}
use Rattle.byte_mem.specs.declared.stores.Store.{Store}
use Rattle.byte_mem.specs.declared.values.Value.TheVariants.{Unknown}
use Rattle.byte_mem.specs.Store.{memory, Stored, Becomes}
use Rattle.execution.specs.States.{State, Goes, with_memory, bind}
use Rattle.execution.specs.Data as passed
use Rattle.execution.specs.Data.{Datum, Single, without_objects}
use Rattle.execution.specs.Calls.{number_of}
use Rattle.cil_semantics.specs.Statements.{written}
use Rattle.cil_frames.specs.declared.activations.Automatic.{Automatic}
use Rattle.cil_frames.specs.declared.calling.Destination.{Destination}
use Rattle.cil_frames.specs.declared.frames.Function.{Function}
use Rattle.cil_frames.specs.declared.frames.Frame.{Frame}
use Rattle.cil_frames.specs.declared.frames.Entity.{Entity}
use Rattle.cil_frames.specs.declared.frames.Entity.TheVariants.{Program as OfProgram}
use Rattle.cil_frames.specs.Entering.{objects_of, ended_in}
use Rattle.cil_frames.specs.Evaluating.{kept_in}
use Rattle.cil_frames.specs.Frames.{Courses, counted, function_in, resumed_in, unwound, whole, behind_activation}
use Rattle.cil_frames.specs.Keeping.{SameHeap}
use Rattle.cil_frames.proofs.Keeping.{same_heap}
use Rattle.cil_frames.proofs.Unwinding.{numbers_counted, unwound_push}
use Rattle.cil_turns.specs.declared.ends.RunEnd.{RunEnd}
use Rattle.cil_turns.specs.declared.ends.RunEnd.TheVariants.{Exited, StillRunning, Undefined as WentUndefined, ReadFault, WriteFault, Memory as WantOfMemory}
use Rattle.cil_turns.specs.declared.runs.Run.{Run}
use Rattle.cil_turns.specs.declared.runs.Stand.{Stand}
use Rattle.cil_turns.specs.declared.runs.Turn.{Turn}
use Rattle.cil_turns.specs.declared.runs.Turn.TheVariants.{On, Stopped}
use Rattle.cil_frames.specs.Growing.{StandIn}
use Rattle.cil_turns.specs.Ends.{Ends}
use Rattle.cil_turns.specs.Standing.{Waits, Stands, keeping, from_stand, from_kept, from_end, from_result, standing_at, steps_ahead, longest, waiting_ahead, waiting_burden, Falls}
use Rattle.cil_turns.specs.Moving.{Arrives, Finishes, TurnedQuietly, IsPlainEnd}
use Rattle.cil_turns.specs.Turning.{Left, GoesTo, Status}
use Rattle.cil_turns.proofs.Wholes.{remains_is, keeping_is, whole_undefined, cut_off, stand_pop, ahead_push}
use Rattle.cil_turns.proofs.Heap.{without_heap, kept_heap, still_counted}
use Rattle.cil_turns.proofs.Moves.{moved, quiet_moves, quiet_comes, turned_behind}

-- a state in which only memory has changed
memory_moved : (old new : Run) (m : Store) (s : State) → new ≡ record old { mem = m } → s.left ≡ old.left → s.next ≡ old.next → with_memory s (memory m) ≡ moved s new
memory_moved old new m s e units next =
    ap (λ l. record s { memory = memory m; left = l }) units
    ∙ (ap (λ n. record s { memory = memory m; left = old.left; next = n }) next
    ∙ ap (λ (r : Run). record s { memory = memory r.mem; left = r.left; next = r.next }) (sym e))

-- what waits still does, where only memory has changed, and the objects of malloc are left
pub waits_still : (table : List (Option Entity)) (old new : Run) (m : Store) → new ≡ record old { mem = m } → SameHeap (memory old.mem) (memory m) → Waits table old → Waits table new
waits_still table old new m e heap w = subst (Waits table) (sym e) (record {
  leads = w.leads;
  waiting = w.waiting;
  counted = still_counted (memory old.mem) (memory m) old.streams old.streams heap refl w.counted;
  numbers = w.numbers;
})

-- a result that is kept

pub kept_on : (table : List (Option Entity)) (old new : Run) (m : Store) (to : Option Destination) (d : Datum) (x : Stand) (u : Unit {0}) → Stored (Some u) old.mem m (kept_in old.mem.abi to d (memory old.mem)) → new ≡ record old { mem = m } → Stands table old x
    → (left taken : Option (List ℕ)) → Arrives table (from_kept table old to d x) old new x left left taken taken
kept_on table old new m to d x u stored e h left taken = record {
  means = λ link enter at machine grow.
      quiet_moves (from_kept table old to d x old.mem.abi enter at) old new (ap (λ (r : Run). r.streams) e) left taken (from_stand table new x old.mem.abi enter at) (λ s same units next.
      keeping_is old.mem.abi at table old.frames.items to d x h.place.code s h.place.running
      ∙ (ap (λ o. whole old.mem.abi at table old.frames.items x.act h.place.code (bind (written s o) (λ g. at x.function x.act x.place)))
      (ap (kept_in old.mem.abi to d) same ∙ stored.0)
      ∙ (ap (λ t. whole old.mem.abi at table old.frames.items x.act h.place.code (at x.function x.act x.place t)) (memory_moved old new m s e units next)
      ∙ (ap (λ (r : Run). whole old.mem.abi at table r.frames.items x.act h.place.code (at x.function x.act x.place (moved s new))) (sym e)
      ∙ sym (remains_is old.mem.abi at table new.frames.items x h.place.code (moved s new) h.place.running)))));
  stands = record {
    waits = waits_still table old new m e (kept_heap old.mem.abi to d (memory old.mem) (memory m) stored.0) h.waits;
    place = h.place;
  };
  model = ap (λ (r : Run). r.mem.abi) e ∙ stored.1;
}

pub kept_nowhere : (table : List (Option Entity)) (old new : Run) (m : Store) (to : Option Destination) (d : Datum) (x : Stand) → Stored None old.mem m (kept_in old.mem.abi to d (memory old.mem)) → new ≡ record old { mem = m } → Stands table old x
    → (left taken : Option (List ℕ)) → Finishes table (from_kept table old to d x) WentUndefined old new left left taken taken
kept_nowhere table old new m to d x stored e h left taken = record {
  means = λ link enter at machine grow.
      quiet_comes (from_kept table old to d x old.mem.abi enter at) old new (ap (λ (r : Run). r.streams) e) left taken WentUndefined tt (λ tail s same units next.
      subst (λ r. Ends WentUndefined r s.out tail new.left)
      (sym (keeping_is old.mem.abi at table old.frames.items to d x h.place.code s h.place.running
      ∙ (ap (λ o. whole old.mem.abi at table old.frames.items x.act h.place.code (bind (written s o) (λ g. at x.function x.act x.place)))
      (ap (kept_in old.mem.abi to d) same ∙ stored.0)
      ∙ whole_undefined old.mem.abi at table old.frames.items x.act h.place.code s)))
      (refl, units ∙ ap (λ (r : Run). r.left) (sym e)));
}

-- an activation ends

-- a list of so many arguments
abbrev blanks : ℕ → List passed.Argument
blanks zero = []
blanks (suc n) = record { kind = None; datum = Single Unknown } ∷ blanks n

blanks_long : (n : ℕ) → length (blanks n) ≡ n
blanks_long zero = refl
blanks_long (suc n) = ap suc (blanks_long n)

pub left_is : (old new : Run) (m : Store) (act n : ℕ) (f : Function) (objects : List Automatic) → n ≡ length f.parameters.items → objects ≡ f.objects.items
    → ((xs : List passed.Argument) → length xs ≡ n → Becomes old.mem m (ended_in act xs (objects_of objects) (memory old.mem))) → new ≡ record old { mem = m } → Left old new act f
left_is old new m act n f objects same is h e = record {
  memory =
      ap (λ (r : Run). memory r.mem) e
      ∙ ((h (blanks n) (blanks_long n)).0
      ∙ ap (λ os. ended_in act (blanks n) (objects_of os) (memory old.mem)) is
      ∙ ap (λ ns. without_objects act ns (without_objects act (map number_of (objects_of f.objects.items)) (memory old.mem))) (numbers_counted (blanks n) 0 ∙ ap (counted 0) (blanks_long n ∙ same)));
  model = ap (λ (r : Run). r.mem.abi) e ∙ (h (blanks n) (blanks_long n)).1;
  others = e ∙ ap (λ (r : Run). record old { mem = r.mem }) (sym e);
}

left_heap : (old new : Run) (act : ℕ) (f : Function) → Left old new act f → SameHeap (memory old.mem) (memory new.mem)
left_heap old new act f h =
    subst (SameHeap (memory old.mem)) (sym h.memory)
    (same_heap (memory old.mem) (without_objects act (map number_of (objects_of f.objects.items)) (memory old.mem)) (without_objects act (counted 0 (length f.parameters.items)) (without_objects act (map number_of (objects_of f.objects.items)) (memory old.mem)))
    (without_heap act (map number_of (objects_of f.objects.items)) (memory old.mem)) (without_heap act (counted 0 (length f.parameters.items)) (without_objects act (map number_of (objects_of f.objects.items)) (memory old.mem))))

-- the state behind the activation
behind_is : (old new : Run) (act : ℕ) (f : Function) (s : State) → Left old new act f → s.memory ≡ memory old.mem → s.left ≡ old.left → s.next ≡ old.next → behind_activation act f s ≡ moved s new
behind_is old new act f s h same units next =
    ap (with_memory s) (ap (λ m. without_objects act (counted 0 (length f.parameters.items)) (without_objects act (map number_of (objects_of f.objects.items)) m)) same ∙ sym h.memory)
    ∙ memory_moved old new new.mem s h.others units next

pub left_waits : (table : List (Option Entity)) (old new : Run) (act : ℕ) (f : Function) → Left old new act f → Waits table old → Waits table new
left_waits table old new act f h w = waits_still table old new new.mem h.others (left_heap old new act f h) w

pub ends_turned : (table : List (Option Entity)) (old mid new : Run) (act : ℕ) (f : Function) (d : Datum) (turn : Turn) → Left old mid act f → Waits table old → (Waits table mid → TurnedQuietly table (from_result table mid d) mid new turn) → TurnedQuietly table (from_end table old act f d) old new turn
ends_turned table old mid new act f d turn h w rest left taken =
    turned_behind table (from_end table old act f d) (from_result table mid d) old mid new turn left left left taken taken taken h.model
    (λ link enter at machine grow.
    quiet_moves (from_end table old act f d old.mem.abi enter at) old mid (ap (λ (r : Run). r.streams) h.others) left taken (from_result table mid d old.mem.abi enter at) (λ s same units next.
    ap (λ t. unwound old.mem.abi at table old.frames.items (Goes d t)) (behind_is old mid act f s h same units next) ∙ ap (λ (r : Run). unwound old.mem.abi at table r.frames.items (Goes d (moved s mid))) (sym h.others)))
    (rest (left_waits table old mid act f h w) left taken)

-- memory is wanting there
pub wants_end : (table : List (Option Entity)) (old new : Run) (act : ℕ) (f : Function) (d : Datum) → Waits table old → new.streams ≡ old.streams → new.left ≡ old.left → (left taken : Option (List ℕ)) → Finishes table (from_end table old act f d) WantOfMemory old new left left taken taken
wants_end table old new act f d w same kept left taken = record {
  means = λ link enter at machine grow.
      quiet_comes (from_end table old act f d old.mem.abi enter at) old new same left taken WantOfMemory tt (λ tail s m units next.
      let low : s.left ≡ new.left = units ∙ sym kept in
      cut_off (whole old.mem.abi at table old.frames.items act f (Goes d s)) s new.left (grow.wholes old.frames.items w.waiting act f (Goes d s)) (omega arith));
}

-- where none waits, the run has ended
ends_with : (end : RunEnd) (d : Datum) (s : State) (tail : List ℕ) (left : ℕ) → Status d end → s.left ≡ left → Ends end (Goes d s) s.out tail left
ends_with (Exited status) d s tail left h units = (h s.out, units)
ends_with StillRunning d s tail left h units = absurd h
ends_with WentUndefined d s tail left h units = (h s.out, units)
ends_with ReadFault d s tail left h units = absurd h
ends_with WriteFault d s tail left h units = absurd h
ends_with WantOfMemory d s tail left h units = absurd h

pub status_plain : (end : RunEnd) (d : Datum) → Status d end → IsPlainEnd end
status_plain (Exited status) d h = tt
status_plain StillRunning d h = absurd h
status_plain WentUndefined d h = tt
status_plain ReadFault d h = absurd h
status_plain WriteFault d h = absurd h
status_plain WantOfMemory d h = absurd h

pub over : (table : List (Option Entity)) (old new : Run) (d : Datum) (end : RunEnd) → old.frames.items ≡ [] → new.streams ≡ old.streams → new.left ≡ old.left → Status d end → (left taken : Option (List ℕ)) → Finishes table (from_result table old d) end old new left left taken taken
over table old new d end none same l status left taken = record {
  means = λ link enter at machine grow.
      quiet_comes (from_result table old d old.mem.abi enter at) old new same left taken end (status_plain end d status) (λ tail s m units next.
      subst (λ r. Ends end r s.out tail new.left) (sym (ap (λ fs. unwound old.mem.abi at table fs (Goes d s)) none)) (ends_with end d s tail new.left status (units ∙ sym l)));
}

-- else the innermost activation that waits goes on
popped_is : (abi : Abi) (at : Courses) (table : List (Option Entity)) (frames : List Frame) (frame : Frame) (f : Function) (d : Datum) (s : State) → slice_get table frame.function ≡ Some (Some (OfProgram f))
    → unwound abi at table (frames ++ frame ∷ []) (Goes d s) ≡ keeping abi at table frames frame.to d (standing_at frame) s
popped_is abi at table frames frame f d s there =
    unwound_push abi at table frames frame (Goes d s)
    ∙ (ap (λ o. unwound abi at table frames (resumed_in abi at frame (function_in o) (Goes d s))) there ∙ sym (keeping_is abi at table frames frame.to d (standing_at frame) f s there))

popped_stands : (table : List (Option Entity)) (old mid : Run) (frame : Frame) → old.frames.items ≡ mid.frames.items ++ frame ∷ [] → mid ≡ record old { frames = mid.frames } → Waits table old → Stands table mid (standing_at frame)
popped_stands table old mid frame more e w =
    let k = stand_pop table mid.frames.items frame (subst (StandIn table) more w.waiting) in
    subst (λ (r : Run). Stands table r (standing_at frame)) (sym e) (record {
      waits = record {
        leads = w.leads;
        waiting = k.0;
        counted = w.counted;
        numbers = w.numbers;
      };
      place = k.1;
    })

same_state : (old mid : Run) (s : State) → mid ≡ record old { frames = mid.frames } → s.memory ≡ memory old.mem → s.left ≡ old.left → s.next ≡ old.next → s ≡ moved s mid
same_state old mid s e same units next =
    ap (λ m. record s { memory = m }) same
    ∙ (ap (λ l. record s { memory = memory old.mem; left = l }) units
    ∙ (ap (λ n. record s { memory = memory old.mem; left = old.left; next = n }) next ∙ ap (moved s) (sym e)))

pub popped : (table : List (Option Entity)) (old mid new : Run) (frame : Frame) (d : Datum) (turn : Turn) → old.frames.items ≡ mid.frames.items ++ frame ∷ [] → mid ≡ record old { frames = mid.frames } → Waits table old
    → (Stands table mid (standing_at frame) → TurnedQuietly table (from_kept table mid frame.to d (standing_at frame)) mid new turn) → TurnedQuietly table (from_result table old d) old new turn
popped table old mid new frame d turn more e w rest left taken =
    let stands = popped_stands table old mid frame more e w in
    turned_behind table (from_result table old d) (from_kept table mid frame.to d (standing_at frame)) old mid new turn left left left taken taken taken (ap (λ (r : Run). r.mem.abi) e)
    (λ link enter at machine grow.
    quiet_moves (from_result table old d old.mem.abi enter at) old mid (ap (λ (r : Run). r.streams) e) left taken (from_kept table mid frame.to d (standing_at frame) old.mem.abi enter at) (λ s same units next.
    ap (λ fs. unwound old.mem.abi at table fs (Goes d s)) more
    ∙ (popped_is old.mem.abi at table mid.frames.items frame stands.place.code d s stands.place.running ∙ ap (keeping old.mem.abi at table mid.frames.items frame.to d (standing_at frame)) (same_state old mid s e same units next))))
    (rest stands left taken)

pub popping_falls : (table : List (Option Entity)) (old mid new : Run) (frame : Frame) (turn : Turn) → old.frames.items ≡ mid.frames.items ++ frame ∷ [] → mid.left ≡ old.left → GoesTo (standing_at frame) mid new turn → Falls table (waiting_burden table old) new turn
popping_falls table old mid new frame (On x) more e h =
    let frames : waiting_ahead table old.frames.items ≡ waiting_ahead table new.frames.items + suc (steps_ahead table x.function x.place) =
    ap (waiting_ahead table) more
    ∙ (ahead_push table mid.frames.items frame
    ∙ (ap (λ fs. waiting_ahead table fs + suc (steps_ahead table frame.function frame.place)) (sym h.2) ∙ ap (λ (y : Stand). waiting_ahead table new.frames.items + suc (steps_ahead table y.function y.place)) (sym h.0))) in
    let units : new.left * (longest table + 2) ≡ old.left * (longest table + 2) = ap (λ k. k * (longest table + 2)) (h.1 ∙ e) in
    omega arith
popping_falls table old mid new frame (Stopped end) more e h = tt
