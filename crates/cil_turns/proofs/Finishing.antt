-- Device: whole runs from their first call to their end, and the output that waits then.
use Rattle.std.proofs.Common.{◌≡◌, ℕ, ◌⊎◌, inl, inr, List, [], ◌++◌, Option, option_map, refl, sym, ap, ◌∙◌, subst, append_assoc, arith}
use Rattle.std.proofs.lemmas.List.{append-nil}
use Rattle.cil_base.specs.declared.runs.Outcome.{Outcome}
use Rattle.cil_base.specs.declared.runs.Outcome.TheVariants as outcome
use Rattle.byte_mem.specs.declared.values.Value.TheVariants.{Int, Ptr, Unknown, Part}
use Rattle.byte_mem.specs.Store.{memory}
use Rattle.outside.specs.Moves.{Wrote, Began}
use Rattle.execution.specs.States.{Result, Goes, Exits, Running, Undefined as Broken, last, output}
use Rattle.execution.specs.Data.{Datum, Single, Bytes}
use Rattle.execution.specs.Calls.{Enter, Linked}
use Rattle.execution.specs.Runs.{status_of, outcome_of}
use Rattle.cil_frames.specs.declared.frames.Entity.{Entity}
use Rattle.cil_frames.specs.Frames.{Courses, IsMachine}
use Rattle.cil_turns.specs.declared.ends.RunEnd.{RunEnd}
use Rattle.cil_turns.specs.declared.ends.RunEnd.TheVariants.{Exited, StillRunning, Undefined, ReadFault, WriteFault, Memory as WantOfMemory}
use Rattle.cil_turns.specs.declared.runs.FirstCall.{FirstCall}
use Rattle.cil_turns.specs.declared.runs.Run.{Run}
use Rattle.cil_turns.specs.declared.runs.Stand.{Stand}
use Rattle.cil_turns.specs.declared.runs.Turn.{Turn}
use Rattle.cil_turns.specs.declared.runs.Turn.TheVariants.{Stopped}
use Rattle.cil_frames.specs.Growing.{OnlyGrows}
use Rattle.cil_turns.specs.Ends.{call_of_first, CutOff, FindsEnd, Ends, Sends, CountsReads, CountsWrites, RunsTo}
use Rattle.cil_turns.specs.Standing.{Stands, Seen, remains, from_stand, from_first}
use Rattle.cil_turns.specs.Moving.{FindsFrom, told, Arrives, Finishes, Turned, IsPlainEnd}
use Rattle.cil_turns.specs.Turning.{Writes, WritesNothing, Flushed}
use Rattle.cil_turns.proofs.Needed.{needed_along}
use Rattle.cil_turns.proofs.Moves.{same_moved, quiet_moves, turned_behind, sends_then}

-- a machine that has gone nowhere yet
pub arrives_first : (table : List (Option Entity)) (run : Run) (x : Stand) → Stands table run x → (left taken : Option (List ℕ)) → Arrives table (from_stand table run x) run run x left left taken taken
arrives_first table run x h left taken = record {
  means = λ link enter at machine grow.
      quiet_moves (from_stand table run x run.mem.abi enter at) run run refl left taken (from_stand table run x run.mem.abi enter at) (λ s same units next. ap (remains run.mem.abi at table run.frames.items x) (same_moved run s same units next));
  stands = h;
  model = refl;
}

-- and one that takes a turn
pub arrives_on : (table : List (Option Entity)) (f : Seen) (a b c : Run) (x : Stand) (turn : Turn) (l m n t u v : Option (List ℕ)) → Arrives table f a b x l m t u → Turned table (from_stand table b x) b c turn m n u v → Turned table f a c turn l n t v
arrives_on table f a b c x turn l m n t u v h k = turned_behind table f (from_stand table b x) a b c turn l m n t u v h.model h.means k

pub finishes_behind : (table : List (Option Entity)) (f : Seen) (a b c : Run) (x : Stand) (end : RunEnd) (l m n t u v : Option (List ℕ)) → Arrives table f a b x l m t u → Finishes table (from_stand table b x) end b c m n u v → Finishes table f end a c l n t v
finishes_behind table f a b c x end l m n t u v h k = turned_behind table f (from_stand table b x) a b c (Stopped end) l m n t u v h.model h.means k

-- what an outcome tells of the output

text_in : Outcome → List ℕ
text_in (outcome.Exit status text) = text
text_in (outcome.Running text) = text
text_in (outcome.Undefined text) = text

status_text : (d : Datum) (out : List ℕ) → text_in (status_of d out) ≡ out
unfolding text_in
status_text (Single (Int v)) out = refl
status_text (Single (Ptr p)) out = refl
status_text (Single Unknown) out = refl
status_text (Single (Part p k)) out = refl
status_text (Bytes bytes) out = refl

outcome_text : (r : Result Datum) → text_in (outcome_of r) ≡ output r
unfolding text_in
outcome_text (Goes d s) = status_text d s.out
outcome_text (Exits status s) = refl
outcome_text (Running s) = refl
outcome_text (Broken s) = refl

cut_at_end : (r : Result Datum) (text : List ℕ) (left : ℕ) → text_in (outcome_of r) ≡ text → (last r).left ≡ left → CutOff r text left
cut_at_end r text left told units = record {
  written = ([], (sym (outcome_text r) ∙ told) ∙ sym (append-nil text));
  spent = omega (arith, units);
}

-- a front of the output was told
fronts : (end : RunEnd) (r : Result Datum) (text tail : List ℕ) (left : ℕ) → IsPlainEnd end → Ends end r text tail left → CutOff r text left
unfolding text_in
fronts (Exited status) r text tail left plain h = cut_at_end r text left (ap text_in h.0) h.1
fronts StillRunning r text tail left plain h = cut_at_end r text left (ap text_in h.0) h.1
fronts Undefined r text tail left plain h = cut_at_end r text left (ap text_in h.0) h.1
fronts ReadFault r text tail left plain h = absurd plain
fronts WriteFault r text tail left plain h = absurd plain
fronts WantOfMemory r text tail left plain h = h

-- the output that waited is written

record Settled (end result : RunEnd) (sent waiting : List ℕ) (taken taken' : Option (List ℕ)) : Type 0 where
  more : List ℕ
  sends : Sends result taken taken' (sent ++ more)
  ends : (r : Result Datum) (written tail : List ℕ) (left : ℕ) → Ends end r (told end (written ++ sent) waiting) tail left → Ends result r (written ++ (sent ++ more)) tail left

sends_wrote : (end : RunEnd) (t u : Option (List ℕ)) (sent : List ℕ) → IsPlainEnd end → Sends end t u sent → Wrote t u sent
sends_wrote (Exited status) t u sent plain h = h
sends_wrote StillRunning t u sent plain h = h
sends_wrote Undefined t u sent plain h = h
sends_wrote ReadFault t u sent plain h = h
sends_wrote WriteFault t u sent plain h = absurd plain
sends_wrote WantOfMemory t u sent plain h = h

told_plain : (end : RunEnd) (text waiting : List ℕ) → IsPlainEnd end → told end text waiting ≡ text ++ waiting
told_plain (Exited status) text waiting plain = refl
told_plain StillRunning text waiting plain = refl
told_plain Undefined text waiting plain = refl
told_plain ReadFault text waiting plain = absurd plain
told_plain WriteFault text waiting plain = absurd plain
told_plain WantOfMemory text waiting plain = refl

settles : (end result : RunEnd) (sent waiting : List ℕ) (t u v : Option (List ℕ)) → IsPlainEnd end → Sends end t u sent → Writes end result waiting u v → Settled end result sent waiting t v
settles end result sent waiting t u v plain first h = by h.either
  where
    text : (written : List ℕ) → told end (written ++ sent) waiting ≡ written ++ (sent ++ waiting)
    text written = told_plain end (written ++ sent) waiting plain ∙ append_assoc written sent waiting

    by : (result ≡ end) ⊎ (result ≡ WriteFault) → Settled end result sent waiting t v
    by (inl e) = record {
      more = waiting;
      sends = sends_then result t u v sent waiting (sends_wrote end t u sent plain first) h.sends;
      ends = λ r written tail left k. subst (λ (x : RunEnd). Ends x r (written ++ (sent ++ waiting)) tail left) (sym e) (subst (λ w. Ends end r w tail left) (text written) k);
    }
    by (inr e) = record {
      more = waiting;
      sends = sends_then result t u v sent waiting (sends_wrote end t u sent plain first) h.sends;
      ends = λ r written tail left k. subst (λ (x : RunEnd). Ends x r (written ++ (sent ++ waiting)) tail left) (sym e) (fronts end r (written ++ (sent ++ waiting)) tail left plain (subst (λ w. Ends end r w tail left) (text written) k));
    }

settles_read : (result : RunEnd) (sent waiting : List ℕ) (t u v : Option (List ℕ)) → Wrote t u sent → WritesNothing ReadFault result u v → Settled ReadFault result sent waiting t v
settles_read result sent waiting t u v first h = record {
  more = [];
  sends = subst (λ (x : RunEnd). Sends x t v (sent ++ [])) (sym h.same) (h.untouched ∙ (first ∙ ap (λ w. option_map (λ taken. taken ++ w) t) (sym (append-nil sent))));
  ends = λ r written tail left k.
      subst (λ (x : RunEnd). Ends x r (written ++ (sent ++ [])) tail left) (sym h.same) (subst (λ w. Ends ReadFault r (written ++ w) tail left) (sym (append-nil sent)) k);
}

settles_write : (result : RunEnd) (sent waiting : List ℕ) (t u v : Option (List ℕ)) → Began t u sent → WritesNothing WriteFault result u v → Settled WriteFault result sent waiting t v
settles_write result sent waiting t u v first h = record {
  more = [];
  sends = subst (λ (x : RunEnd). Sends x t v (sent ++ [])) (sym h.same) (subst (λ o. Began t o (sent ++ [])) (sym h.untouched) (subst (Began t u) (sym (append-nil sent)) first));
  ends = λ r written tail left k.
      subst (λ (x : RunEnd). Ends x r (written ++ (sent ++ [])) tail left) (sym h.same) (subst (λ w. Ends WriteFault r (written ++ w) tail left) (sym (append-nil sent)) k);
}

settled : (end result : RunEnd) (sent waiting : List ℕ) (t u v : Option (List ℕ)) → Sends end t u sent → Flushed end result waiting u v → Settled end result sent waiting t v
settled (Exited status) result sent waiting t u v first h = settles (Exited status) result sent waiting t u v tt first h
settled StillRunning result sent waiting t u v first h = settles StillRunning result sent waiting t u v tt first h
settled Undefined result sent waiting t u v first h = settles Undefined result sent waiting t u v tt first h
settled ReadFault result sent waiting t u v first h = settles_read result sent waiting t u v first h
settled WriteFault result sent waiting t u v first h = settles_write result sent waiting t u v first h
settled WantOfMemory result sent waiting t u v first h = settles WantOfMemory result sent waiting t u v tt first h

-- writing the rest makes no read fail
plain_reads_well : (end result : RunEnd) → (result ≡ end) ⊎ (result ≡ WriteFault) → result ≡ ReadFault → end ≡ ReadFault
plain_reads_well end result (inl same) is = sym same ∙ is
plain_reads_well end result (inr fault) is = absurd (cc (fault, is))

read_failed : (end result : RunEnd) (waiting : List ℕ) (u v : Option (List ℕ)) → Flushed end result waiting u v → result ≡ ReadFault → end ≡ ReadFault
read_failed (Exited status) result waiting u v h is = plain_reads_well (Exited status) result h.either is
read_failed StillRunning result waiting u v h is = plain_reads_well StillRunning result h.either is
read_failed Undefined result waiting u v h is = plain_reads_well Undefined result h.either is
read_failed ReadFault result waiting u v h is = refl
read_failed WriteFault result waiting u v h is = sym h.same ∙ is
read_failed WantOfMemory result waiting u v h is = plain_reads_well WantOfMemory result h.either is

-- the whole run, from its first call
pub runs_to : (table : List (Option Entity)) (call : FirstCall) (end result : RunEnd) (old mid new : Run) (left left' taken between taken' : Option (List ℕ)) → Finishes table (from_first call) end old mid left left' taken between → old.next ≡ 0
    → Flushed end result mid.streams.waiting between taken' → new.streams.ended ≡ mid.streams.ended → new.left ≡ mid.left
    → (link : Linked) (enter : Enter) (at : Courses) → IsMachine old.mem.abi link enter at table → OnlyGrows old.mem.abi link enter at table
    → RunsTo result (enter (call_of_first old.mem.abi call)) (memory old.mem) old.streams old.left new.left 0 left left' taken taken'
runs_to table call end result old mid new left left' taken between taken' h none flushed ended units link enter at machine grow =
    let c = h.means link enter at machine grow in
    let k = settled end result c.sent mid.streams.waiting taken between taken' c.sends flushed in
    record {
      got = c.got;
      sent = c.sent ++ k.more;
      ended = mid.streams.ended;
      read = c.read;
      sends = k.sends;
      asked = needed_along (FindsFrom old (enter (call_of_first old.mem.abi call))) (FindsEnd (enter (call_of_first old.mem.abi call)) (memory old.mem) old.streams old.left 0) old.streams.ended mid.streams.ended c.got
          (λ input found s written x before next. found s written (record { matches = x; left = before; next = next ∙ sym none })) c.asked;
      stays = c.stays;
      stops = λ is. c.stops (read_failed end result mid.streams.waiting between taken' flushed is);
      finds = c.finds;
      means = λ s written tail over x before next.
          subst (Ends result (enter (call_of_first old.mem.abi call) s) (written ++ (c.sent ++ k.more)) tail) (sym units)
          (k.ends (enter (call_of_first old.mem.abi call) s) written tail mid.left (c.means s written tail over (record { matches = x; left = before; next = next ∙ sym none })));
    }

-- counts of faults

plain_reads_all : (end : RunEnd) (before now : ℕ) → IsPlainEnd end → CountsReads end before now → now ≡ before
plain_reads_all (Exited status) before now plain h = h
plain_reads_all StillRunning before now plain h = h
plain_reads_all Undefined before now plain h = h
plain_reads_all ReadFault before now plain h = absurd plain
plain_reads_all WriteFault before now plain h = absurd plain
plain_reads_all WantOfMemory before now plain h = h

plain_writes_all : (end : RunEnd) (before now : ℕ) → IsPlainEnd end → CountsWrites end before now → now ≡ before
plain_writes_all (Exited status) before now plain h = h
plain_writes_all StillRunning before now plain h = h
plain_writes_all Undefined before now plain h = h
plain_writes_all ReadFault before now plain h = absurd plain
plain_writes_all WriteFault before now plain h = absurd plain
plain_writes_all WantOfMemory before now plain h = h

-- writing the rest reads nothing
pub writes_read : (end result : RunEnd) (waiting : List ℕ) (t u : Option (List ℕ)) (before now : ℕ) → IsPlainEnd end → Writes end result waiting t u → CountsReads end before now → CountsReads result before now
writes_read end result waiting t u before now plain h k = by h.either
  where
    by : (result ≡ end) ⊎ (result ≡ WriteFault) → CountsReads result before now
    by (inl e) = subst (λ (x : RunEnd). CountsReads x before now) (sym e) k
    by (inr e) = subst (λ (x : RunEnd). CountsReads x before now) (sym e) (plain_reads_all end before now plain k)

-- and its faults are all that there are
pub writes_count : (end result : RunEnd) (first before now : ℕ) → IsPlainEnd end → CountsWrites end first before → CountsWrites result before now → CountsWrites result first now
writes_count end result first before now plain k h = subst (λ n. CountsWrites result n now) (plain_writes_all end first before plain k) h
