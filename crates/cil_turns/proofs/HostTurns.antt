-- Device: calls of the host.
use Rattle.std.proofs.Common.{◌≡◌, ◌⊎◌, inl, inr, ℕ, suc, ◌+◌, ◌*◌, ◌<◌, ◌≤◌, true, false, List, [], ◌++◌, length, Option, Some, None, slice_get, refl, sym, ap, ◌∙◌, subst, arith, negsuc}
use Rattle.std.specs.Prelude.{◌^◌}
use Rattle.std.proofs.lemmas.List.{append-nil}
use Rattle.cil_base.specs.declared.kinds.Abi.{Abi}
use Rattle.cil_base.specs.Outcome.{IsPrefix}
use Rattle.cil_base.specs.declared.runs.Outcome.TheVariants.{Exit, Undefined as OutcomeUndefined}
use Rattle.byte_mem.specs.declared.values.Scalar.{Scalar}
use Rattle.byte_mem.specs.declared.values.Value as values
use Rattle.byte_mem.specs.declared.values.Value.TheVariants.{Int}
use Rattle.byte_mem.specs.Memory.{Memory}
use Rattle.byte_mem.specs.Store.{memory}
use Rattle.host_calls.specs.declared.names.HostName.{HostName}
use Rattle.host_calls.specs.Counted.{IsCounted}
use Rattle.execution.specs.States.{State, Result, Goes, Exits, Undefined, bind, given, last, output}
use Rattle.execution.specs.Data.{Datum, Single}
use Rattle.host_calls.specs.Host.{host as host_of}
use Rattle.execution.specs.Calls.{Enter, Linked, scalar_result, scalar_arguments, host_state, host_outcome, host_called}
use Rattle.cil_streams.specs.declared.ends.HostEnd.{HostEnd}
use Rattle.cil_streams.specs.declared.ends.HostEnd.TheVariants as host_end
use Rattle.cil_streams.specs.Held.{StreamsState, host_part}
use Rattle.cil_streams.specs.Following.{Matches, Leads}
use Rattle.cil_streams.specs.HostAnswers as host
use Rattle.cil_streams.specs.HostAnswers.{Answers}
use Rattle.cil_streams.proofs.Means.{none_read, none_wrote}
use Rattle.cil_code.specs.Calling.{kind_from}
use Rattle.cil_frames.specs.declared.calling.Evaluated.{Evaluated}
use Rattle.cil_frames.specs.declared.frames.Entity.{Entity}
use Rattle.cil_frames.specs.declared.frames.Entity.TheVariants.{Program as OfProgram, Host as OfHost}
use Rattle.cil_frames.specs.Entering.{arguments_of}
use Rattle.cil_frames.specs.Evaluating.{call_of, keeps}
use Rattle.cil_frames.specs.Frames.{Courses, whole, entry_at, IsMachine}
use Rattle.cil_frames.proofs.Turns.{frames_are_meant}
use Rattle.cil_turns.specs.declared.ends.RunEnd.{RunEnd}
use Rattle.cil_turns.specs.declared.ends.RunEnd.TheVariants.{Exited, Undefined as WentUndefined, ReadFault, WriteFault, Memory as WantOfMemory}
use Rattle.cil_turns.specs.declared.runs.Run.{Run}
use Rattle.cil_turns.specs.declared.runs.Stand.{Stand}
use Rattle.cil_turns.specs.declared.runs.Turn.{Turn}
use Rattle.cil_turns.specs.declared.runs.Turn.TheVariants.{On, Stopped}
use Rattle.cil_frames.specs.Growing.{IsPlace, StandIn, OnlyGrows}
use Rattle.cil_turns.specs.Ends.{Ends, CutOff, Sends, ReadAsNeeded}
use Rattle.cil_turns.specs.Standing.{Stands, remains, keeping, from_stand, from_kept, steps_at, steps_ahead, longest, waiting_ahead, burden, Falls}
use Rattle.cil_turns.specs.Moving.{StandsFor, FindsFrom, Moves, told, Comes, Finishes, Turned}
use Rattle.cil_turns.specs.Turning.{StandsAtCall, GoesTo, HostFinds, Asked, IsOver, HostTurned}
use Rattle.cil_turns.proofs.Wholes.{remains_is, keeping_is, whole_exits, whole_undefined, remains_grows, keeping_grows, call_grows, grows_front, cut_off, steps_there}
use Rattle.cil_turns.proofs.Begins.{stands_at}
use Rattle.cil_turns.proofs.Needed.{not_both, needed_none, needed_once, needed_along}
use Rattle.cil_turns.proofs.Moves.{turned_behind}

-- what a call of the host reads it needs
call_needed : (abi : Abi) (name : HostName) (e : Evaluated) (wanted : Option Scalar) (args : List (Scalar × values.Value)) (m : Memory) (held held' : StreamsState) (got : List ℕ) → Some wanted ≡ scalar_result (kind_from e.result) → Some args ≡ scalar_arguments (arguments_of e.arguments.items)
    → ((got ≡ []) × (held'.ended ≡ held.ended)) ⊎ host.WasNeeded abi name wanted args m held held' got → ReadAsNeeded (HostFinds abi name e m held) held.ended got held'.ended
call_needed abi name e wanted args m held held' got result arguments (inl none) =
    subst (λ bytes. ReadAsNeeded (HostFinds abi name e m held) held.ended bytes held'.ended) (sym none.0) (needed_none (HostFinds abi name e m held) held.ended held'.ended none.1)
call_needed abi name e wanted args m held held' got result arguments (inr w) =
    needed_once (HostFinds abi name e m held) held.ended held'.ended got w.few w.end (λ s written x. w.finds s (call_of abi e) written refl (sym result) (sym arguments) x)

-- a call with scalars alone is one of the host
pub asked : (end : HostEnd) (abi : Abi) (name : HostName) (e : Evaluated) (wanted : Option Scalar) (args : List (Scalar × values.Value)) (m m' : Memory) (held held' : StreamsState) (left left' taken taken' : Option (List ℕ)) → Some wanted ≡ scalar_result (kind_from e.result) → Some args ≡ scalar_arguments (arguments_of e.arguments.items)
    → Answers end abi name wanted args m m' held held' left left' taken taken' → Asked end abi name e m m' held held' left left' taken taken'
asked end abi name e wanted args m m' held held' left left' taken taken' result arguments h = record {
  got = h.got;
  sent = h.sent;
  read = h.read;
  sends = h.sends;
  asked = call_needed abi name e wanted args m held held' h.got result arguments h.asked;
  stays = h.stays;
  stops = h.stops;
  finds = h.finds;
  means = λ s written tail over x. h.means s (call_of abi e) written tail refl (sym result) (sym arguments) over x;
}

-- one with others is undefined
module _ (abi : Abi) (name : HostName) (e : Evaluated) (m : Memory) (held : StreamsState) (left taken : Option (List ℕ)) where
  nothing_asked : (end : HostEnd) → (end ≡ host_end.ReadFault → ⊥) → host.Sends end taken taken [] → ((s : State) (written tail : List ℕ) → Matches s m held written tail → host.Means end (host_called name (call_of abi e) s) s m held written [] tail) → Asked end abi name e m m held held left left taken taken
  nothing_asked end well sends means = record {
    got = [];
    sent = [];
    read = none_read left left refl;
    sends = sends;
    asked = needed_none (HostFinds abi name e m held) held.ended held.ended refl;
    stays = λ e. (e, refl);
    stops = λ fault. absurd (well fault);
    finds = λ more e. absurd (not_both held.ended more e);
    means = λ s written tail over x. means s written tail x;
  }

  asks : State → Option (Option Scalar) → Option (List (Scalar × values.Value)) → Result Datum
  asks s wanted args = given s wanted (λ wanted. given s args (λ args. host_outcome name s (host_of abi name wanted args (host_state s))))

  unknown_arguments : (s : State) (wanted : Option (Option Scalar)) → asks s wanted None ≡ Undefined s
  unfolding asks
  unknown_arguments s None = refl
  unknown_arguments s (Some wanted) = refl

  same_text : (s : State) (written tail : List ℕ) → Matches s m held written tail → Matches s m held (written ++ []) tail
  same_text s written tail x = subst (λ w. Matches s m held w tail) (sym (append-nil written)) x

  pub no_result : None ≡ scalar_result (kind_from e.result) → Asked host_end.Undefined abi name e m m held held left left taken taken
  unfolding asks
  no_result none = nothing_asked host_end.Undefined (λ fault. cc) (none_wrote taken taken refl) (λ s written tail x. (ap (λ o. asks s o (scalar_arguments (arguments_of e.arguments.items))) (sym none), same_text s written tail x))

  pub no_arguments : None ≡ scalar_arguments (arguments_of e.arguments.items) → Asked host_end.Undefined abi name e m m held held left left taken taken
  unfolding asks
  no_arguments none = nothing_asked host_end.Undefined (λ fault. cc) (none_wrote taken taken refl) (λ s written tail x.
      (ap (asks s (scalar_result (kind_from e.result))) (sym none) ∙ unknown_arguments s (scalar_result (kind_from e.result)), same_text s written tail x))

  pub no_memory : Asked host_end.Memory abi name e m m held held left left taken taken
  no_memory = nothing_asked host_end.Memory (λ fault. cc) (none_wrote taken taken refl) (λ s written tail x. x.out ∙ ap (λ w. w ++ held.waiting) (sym (append-nil written)))

-- what comes behind the answer

-- the whole run at a call of the host, by what the call gives
at_host : (link : Linked) (enter : Enter) (at : Courses) (table : List (Option Entity)) (run : Run) (x y : Stand) (e : Evaluated) (name : HostName) (h : StandsAtCall table run x y e) (s : State) (r : Result Datum) → IsMachine run.mem.abi link enter at table → entry_at table e.callee ≡ Some (OfHost name)
    → s.memory ≡ memory run.mem → host_called name (call_of run.mem.abi e) s ≡ r → remains run.mem.abi at table run.frames.items x s ≡ whole run.mem.abi at table run.frames.items y.act h.before.function (bind (bind r (keeps run.mem.abi e.to)) (λ g. at y.function y.act y.place))
at_host link enter at table run x y e name h s r machine entry same gives =
    remains_is run.mem.abi at table run.frames.items x h.before.function s h.before.running
    ∙ ((frames_are_meant run.mem.abi link enter at table machine).hosts run.frames.items x.function x.act x.place h.before.function h.call e name s (stands_at table run x y e h s same) entry
    ∙ (ap (λ r. whole run.mem.abi at table run.frames.items x.act h.before.function (bind (bind r (keeps run.mem.abi e.to)) (λ g. at x.function x.act (suc x.place)))) gives
    ∙ ap (λ (v : Stand). whole run.mem.abi at table run.frames.items v.act h.before.function (bind (bind r (keeps run.mem.abi e.to)) (λ g. at v.function v.act v.place))) (sym h.before.behind)))

-- behind a call lies a place
behind_place : (table : List (Option Entity)) (run : Run) (x y : Stand) (e : Evaluated) → StandsAtCall table run x y e → IsPlace table y.function y.place
behind_place table run x y e h = subst (λ (v : Stand). IsPlace table v.function v.place) (sym h.before.behind) (record { code = h.before.function; running = h.before.running; there = h.before.within })

-- of the function that calls
behind_running : (table : List (Option Entity)) (run : Run) (x y : Stand) (e : Evaluated) (h : StandsAtCall table run x y e) → slice_get table y.function ≡ Some (Some (OfProgram h.before.function))
behind_running table run x y e h = ap (λ (v : Stand). slice_get table v.function) h.before.behind ∙ h.before.running

-- only memory and streams have changed
abbrev pub OnlyHost : Run → Run → Type 0
OnlyHost old mid = mid ≡ record old { mem = mid.mem; streams = mid.streams }

same_frames : (old mid : Run) → OnlyHost old mid → mid.frames.items ≡ old.frames.items
same_frames old mid e = ap (λ (r : Run). r.frames.items) e

same_left : (old mid : Run) → OnlyHost old mid → mid.left ≡ old.left
same_left old mid e = ap (λ (r : Run). r.left) e

leads_stands : (old mid : Run) (s t : State) (written tail : List ℕ) → OnlyHost old mid → s.left ≡ old.left → s.next ≡ old.next → Leads s t (memory mid.mem) mid.streams written tail → StandsFor mid t written tail
leads_stands old mid s t written tail e units next l = record {
  matches = l.matches;
  left = l.left ∙ (units ∙ sym (same_left old mid e));
  next = l.next ∙ (next ∙ ap (λ (r : Run). r.next) (sym e));
}

module _ (table : List (Option Entity)) (old mid : Run) (x y : Stand) (e : Evaluated) (name : HostName) (left left' taken taken' : Option (List ℕ)) (h : StandsAtCall table old x y e) (entry : entry_at table e.callee ≡ Some (OfHost name)) (others : OnlyHost old mid) where
  abbrev Answered : HostEnd → Type 0
  Answered end = Asked end old.mem.abi name e (memory old.mem) (memory mid.mem) old.streams mid.streams left left' taken taken'

  -- where the call finds the end of the input, so does the whole run
  found_there : (link : Linked) (enter : Enter) (at : Courses) → IsMachine old.mem.abi link enter at table → OnlyGrows old.mem.abi link enter at table
      → (input : List ℕ) → HostFinds old.mem.abi name e (memory old.mem) old.streams input → FindsFrom old (from_stand table old x old.mem.abi enter at) input
  found_there link enter at machine grow input found s written st =
      let r = host_called name (call_of old.mem.abi e) s in
      ap (λ (q : Result Datum). (last q).at_end) (at_host link enter at table old x y e name h s r machine entry st.matches.memory refl)
      ∙ (call_grows old.mem.abi link enter at table grow old.frames.items h.before.stands.waits.waiting e.to y h.before.function (behind_place table old x y e h) r).at_end (found s written st.matches)

  needed : (from : HostEnd) (a : Answered from) (link : Linked) (enter : Enter) (at : Courses) → IsMachine old.mem.abi link enter at table → OnlyGrows old.mem.abi link enter at table
      → ReadAsNeeded (FindsFrom old (from_stand table old x old.mem.abi enter at)) old.streams.ended a.got mid.streams.ended
  needed from a link enter at machine grow =
      needed_along (HostFinds old.mem.abi name e (memory old.mem) old.streams) (FindsFrom old (from_stand table old x old.mem.abi enter at)) old.streams.ended mid.streams.ended a.got (found_there link enter at machine grow) a.asked

  value_moves : (v : values.Value) → Answered (host_end.Value v) → (link : Linked) (enter : Enter) (at : Courses) → IsMachine old.mem.abi link enter at table → OnlyGrows old.mem.abi link enter at table
      → Moves (from_stand table old x old.mem.abi enter at) (from_kept table mid e.to (Single v) y old.mem.abi enter at) old mid left left' taken taken'
  value_moves v a link enter at machine grow = record {
    got = a.got;
    sent = a.sent;
    read = a.read;
    sends = a.sends;
    asked = needed (host_end.Value v) a link enter at machine grow;
    stays = a.stays;
    finds = a.finds;
    means = λ s written tail over st.
        let k = a.means s written tail over st.matches in (
          k.0,
          at_host link enter at table old x y e name h s (Goes (Single v) k.0) machine entry st.matches.memory k.1
              ∙ (sym (keeping_is old.mem.abi at table old.frames.items e.to (Single v) y h.before.function k.0 (behind_running table old x y e h))
              ∙ ap (λ fs. keeping old.mem.abi at table fs e.to (Single v) y k.0) (sym (same_frames old mid others))),
          leads_stands old mid s k.0 (written ++ a.sent) tail others st.left st.next k.2,
        );
  }

  -- the answers that end the run

  abbrev Ended : RunEnd → Type 0
  Ended end = (link : Linked) (enter : Enter) (at : Courses) → IsMachine old.mem.abi link enter at table → OnlyGrows old.mem.abi link enter at table → Comes end (from_stand table old x old.mem.abi enter at) old mid left left' taken taken'

  comes : (from : HostEnd) (end : RunEnd) (a : Answered from) → (end ≡ ReadFault → mid.streams.ended ≡ false) → Sends end taken taken' a.sent
      → ((link : Linked) (enter : Enter) (at : Courses) → IsMachine old.mem.abi link enter at table → OnlyGrows old.mem.abi link enter at table → (s : State) (written tail : List ℕ) → StandsFor old s written (a.got ++ tail)
      → host.Means from (host_called name (call_of old.mem.abi e) s) s (memory mid.mem) mid.streams written a.sent tail → Ends end (remains old.mem.abi at table old.frames.items x s) (told end (written ++ a.sent) mid.streams.waiting) tail mid.left)
      → Ended end
  comes from end a stops sends means link enter at machine grow = record {
    got = a.got;
    sent = a.sent;
    read = a.read;
    sends = sends;
    asked = needed from a link enter at machine grow;
    stays = a.stays;
    stops = stops;
    finds = a.finds;
    means = λ s written tail over st. means link enter at machine grow s written tail st (a.means s written tail over st.matches);
  }

  exit_comes : (status : ℕ) → Answered (host_end.Exit status) → Ended (Exited status)
  exit_comes status a = comes (host_end.Exit status) (Exited status) a (λ fault. absurd (cc)) a.sends (λ link enter at machine grow s written tail st k.
      let m = leads_stands old mid s k.0 (written ++ a.sent) tail others st.left st.next k.2 in
      subst (λ r. Ends (Exited status) r ((written ++ a.sent) ++ mid.streams.waiting) tail mid.left)
      (sym (at_host link enter at table old x y e name h s (Exits status k.0) machine entry st.matches.memory k.1 ∙ whole_exits old.mem.abi at table old.frames.items y.act h.before.function status k.0))
      (ap (Exit status) m.matches.out, m.left))

  undefined_comes : Answered host_end.Undefined → Ended WentUndefined
  undefined_comes a = comes host_end.Undefined WentUndefined a (λ fault. absurd (cc)) a.sends (λ link enter at machine grow s written tail st k.
      subst (λ r. Ends WentUndefined r ((written ++ a.sent) ++ mid.streams.waiting) tail mid.left)
      (sym (at_host link enter at table old x y e name h s (Undefined s) machine entry st.matches.memory k.0 ∙ whole_undefined old.mem.abi at table old.frames.items y.act h.before.function s))
      (ap OutcomeUndefined k.1.out, st.left ∙ sym (same_left old mid others)))

  -- a run that is cut off behind the output of the call
  cut_behind : (link : Linked) (enter : Enter) (at : Courses) → IsMachine old.mem.abi link enter at table → OnlyGrows old.mem.abi link enter at table
      → (s : State) (text : List ℕ) → s.memory ≡ memory old.mem → s.left ≡ old.left → output (host_called name (call_of old.mem.abi e) s) ≡ text → CutOff (remains old.mem.abi at table old.frames.items x s) text mid.left
  cut_behind link enter at machine grow s text same units is =
      let r = host_called name (call_of old.mem.abi e) s in
      let w = whole old.mem.abi at table old.frames.items y.act h.before.function (bind (bind r (keeps old.mem.abi e.to)) (λ g. at y.function y.act y.place)) in
      let low : (last (remains old.mem.abi at table old.frames.items x s)).left ≤ s.left = (remains_grows old.mem.abi link enter at table grow old.frames.items h.before.stands.waits.waiting x h.before.stands.place s).left in
      let kept : mid.left ≡ old.left = same_left old mid others in
      record {
        written = subst (λ q. IsPrefix text (output q)) (sym (at_host link enter at table old x y e name h s r machine entry same refl))
            (subst (λ text. IsPrefix text (output w)) is (grows_front (last r) (last w) (call_grows old.mem.abi link enter at table grow old.frames.items h.before.stands.waits.waiting e.to y h.before.function (behind_place table old x y e h) r)));
        spent = omega arith;
      }

  read_comes : Answered host_end.ReadFault → Ended ReadFault
  read_comes a = comes host_end.ReadFault ReadFault a (λ fault. a.stops refl) a.sends (λ link enter at machine grow s written tail st k. (
    cut_behind link enter at machine grow s (written ++ a.sent) st.matches.memory st.left k.0,
    λ none.
        let q = k.1 none in
        let minus = Single (Int (negsuc 0)) in
        subst (λ r. (last r).at_end ≡ true)
        (sym (at_host link enter at table old x y e name h s (Goes minus q.0) machine entry st.matches.memory q.1
        ∙ sym (keeping_is old.mem.abi at table old.frames.items e.to minus y h.before.function q.0 (behind_running table old x y e h))))
        ((keeping_grows old.mem.abi link enter at table grow old.frames.items h.before.stands.waits.waiting e.to minus y (behind_place table old x y e h) q.0).at_end q.3.matches.at_end),
  ))

  write_comes : Answered host_end.WriteFault → Ended WriteFault
  write_comes a = comes host_end.WriteFault WriteFault a (λ fault. absurd (cc)) a.sends (λ link enter at machine grow s written tail st k. cut_behind link enter at machine grow s (written ++ a.sent) st.matches.memory st.left k)

  memory_comes : Answered host_end.Memory → Ended WantOfMemory
  memory_comes a = comes host_end.Memory WantOfMemory a (λ fault. absurd (cc)) a.sends (λ link enter at machine grow s written tail st k.
      let low : s.left ≡ mid.left = st.left ∙ sym (same_left old mid others) in
      subst (λ text. CutOff (remains old.mem.abi at table old.frames.items x s) text mid.left) k
      (cut_off (remains old.mem.abi at table old.frames.items x s) s mid.left (remains_grows old.mem.abi link enter at table grow old.frames.items h.before.stands.waits.waiting x h.before.stands.place s) (omega arith)))

  over : (new : Run) (turn : Turn) (end : RunEnd) → Ended end → IsOver turn end mid new → Turned table (from_stand table old x) old new turn left left' taken taken'
  over new turn end c o = subst (λ t. Turned table (from_stand table old x) old new t left left' taken taken') (sym o.over) (subst (λ (r : Run). Finishes table (from_stand table old x) end old r left left' taken taken') (sym o.same) (record { means = c }))

  behind_stands : IsCounted (host_part (memory mid.mem) mid.streams) → Stands table mid y
  behind_stands counted = record {
    waits = record {
      leads = h.before.stands.waits.leads;
      waiting = subst (StandIn table) (sym (same_frames old mid others)) h.before.stands.waits.waiting;
      counted = counted;
      numbers = subst (λ (r : Run). r.next + r.left < 2 ^ 64) (sym others) h.before.stands.waits.numbers;
    };
    place = behind_place table old x y e h;
  }

  pub host_turns : (end : HostEnd) (new : Run) (turn : Turn) → mid.mem.abi ≡ old.mem.abi → IsCounted (host_part (memory mid.mem) mid.streams) → Answered end → HostTurned end table mid new e.to y turn → Turned table (from_stand table old x) old new turn left left' taken taken'
  host_turns (host_end.Value v) new turn model counted a t =
      turned_behind table (from_stand table old x) (from_kept table mid e.to (Single v) y) old mid new turn left left' left' taken taken' taken' model (value_moves v a) (t (behind_stands counted) left' taken')
  host_turns (host_end.Exit status) new turn model counted a t = over new turn (Exited status) (exit_comes status a) t
  host_turns host_end.Undefined new turn model counted a t = over new turn WentUndefined (undefined_comes a) t
  host_turns host_end.ReadFault new turn model counted a t = over new turn ReadFault (read_comes a) t
  host_turns host_end.WriteFault new turn model counted a t = over new turn WriteFault (write_comes a) t
  host_turns host_end.Memory new turn model counted a t = over new turn WantOfMemory (memory_comes a) t

  -- it takes from what is ahead
  pub host_falls : (new : Run) (turn : Turn) → GoesTo y mid new turn → Falls table (burden table old x) new turn
  host_falls new (On z) g =
      let frames : waiting_ahead table new.frames.items ≡ waiting_ahead table old.frames.items = ap (waiting_ahead table) (g.2 ∙ same_frames old mid others) in
      let units : new.left * (longest table + 2) ≡ old.left * (longest table + 2) = ap (λ k. k * (longest table + 2)) (g.1 ∙ same_left old mid others) in
      let place : steps_ahead table z.function z.place ≡ steps_ahead table x.function (suc x.place) = ap (λ (v : Stand). steps_ahead table v.function v.place) (g.0 ∙ h.before.behind) in
      let long : steps_at (slice_get table x.function) ≡ length h.before.function.code.items = steps_there table x.function h.before.function h.before.running in
      let within : suc x.place < length h.before.function.code.items = h.before.within in
      omega arith
  host_falls new (Stopped end) g = tt
