-- Device: whole runs go on and end, one part behind another.
use Rattle.std.proofs.Common.{◌≡◌, ℕ, Bool, true, false, List, [], ◌∷◌, ◌++◌, Option, Some, None, IfSome, option_map, refl, sym, ap, ◌∙◌, subst, append_assoc}
use Rattle.std.proofs.lemmas.List.{append-nil}
use Rattle.cil_base.specs.declared.kinds.Abi.{Abi}
use Rattle.outside.specs.Moves.{Wrote, Began, WasRead}
use Rattle.byte_mem.specs.Store.{memory}
use Rattle.execution.specs.States.{State, Result, last}
use Rattle.execution.specs.Data.{Datum}
use Rattle.execution.specs.Calls.{Enter, Linked}
use Rattle.cil_streams.specs.Held.{StreamsState}
use Rattle.cil_streams.proofs.Means.{none_read, none_wrote}
use Rattle.cil_frames.specs.declared.frames.Entity.{Entity}
use Rattle.cil_frames.specs.Frames.{Courses, IsMachine}
use Rattle.cil_frames.specs.Growing.{OnlyGrows}
use Rattle.cil_turns.specs.declared.ends.RunEnd.{RunEnd}
use Rattle.cil_turns.specs.declared.ends.RunEnd.TheVariants.{Exited, StillRunning, Undefined, ReadFault, WriteFault, Memory as WantOfMemory}
use Rattle.cil_turns.specs.declared.runs.Run.{Run}
use Rattle.cil_turns.specs.declared.runs.Turn.{Turn}
use Rattle.cil_turns.specs.declared.runs.Turn.TheVariants.{On, Stopped}
use Rattle.cil_turns.specs.Ends.{Ends, Sends, CountsReads, CountsWrites}
use Rattle.cil_turns.specs.Standing.{Seen, from_stand}
use Rattle.cil_turns.specs.Moving.{StandsFor, FindsFrom, Moves, told, Comes, Turned, TurnReads, TurnWrites, IsPlainEnd, IsPlain}
use Rattle.cil_turns.proofs.Needed.{not_both, needed_none, needed_then}

-- bytes that are read and written one part behind another

pub read_then : (l m n : Option (List ℕ)) (a b : List ℕ) → WasRead l m a → WasRead m n b → WasRead l n (a ++ b)
read_then l m None a b h k = h ∙ ap (option_map (λ rest. a ++ rest)) k
read_then l m (Some rest) a b h k = h ∙ (ap (option_map (λ rest. a ++ rest)) k ∙ ap Some (sym (append_assoc a b rest)))

pub wrote_then : (t u v : Option (List ℕ)) (a b : List ℕ) → Wrote t u a → Wrote u v b → Wrote t v (a ++ b)
wrote_then None u v a b h k = k ∙ ap (option_map (λ taken. taken ++ b)) h
wrote_then (Some bytes) u v a b h k = k ∙ (ap (option_map (λ taken. taken ++ b)) h ∙ ap Some (append_assoc bytes a b))

pub began_then : (t u v : Option (List ℕ)) (a b : List ℕ) → Wrote t u a → Began u v b → Began t v (a ++ b)
began_then t u v a b h k = record {
  part = a ++ k.part;
  rest = k.rest;
  split = ap (λ x. a ++ x) k.split ∙ sym (append_assoc a k.part k.rest);
  wrote = wrote_then t u v a k.part h k.wrote;
}

pub sends_then : (end : RunEnd) (t u v : Option (List ℕ)) (a b : List ℕ) → Wrote t u a → Sends end u v b → Sends end t v (a ++ b)
sends_then (Exited status) t u v a b h k = wrote_then t u v a b h k
sends_then StillRunning t u v a b h k = wrote_then t u v a b h k
sends_then Undefined t u v a b h k = wrote_then t u v a b h k
sends_then ReadFault t u v a b h k = wrote_then t u v a b h k
sends_then WriteFault t u v a b h k = began_then t u v a b h k
sends_then WantOfMemory t u v a b h k = wrote_then t u v a b h k

nothing_behind : (b rest : List ℕ) → b ++ rest ≡ [] → rest ≡ []
nothing_behind [] rest h = h
nothing_behind (x ∷ b) rest h = absurd (cc)

nothing_left : (m n : Option (List ℕ)) (b : List ℕ) → WasRead m n b → IfSome m (λ bytes. bytes ≡ []) → IfSome n (λ bytes. bytes ≡ [])
nothing_left m None b h k = tt
nothing_left m (Some rest) b h k = nothing_behind b rest (subst (λ o. IfSome o (λ bytes. bytes ≡ [])) h k)

-- the end is found in the first part, or in the second
pub finds_then : (first between last : Bool) (m n : Option (List ℕ)) (b : List ℕ) → WasRead m n b → (first ≡ false → between ≡ true → IfSome m (λ bytes. bytes ≡ [])) → (between ≡ false → last ≡ true → IfSome n (λ bytes. bytes ≡ []))
    → first ≡ false → last ≡ true → IfSome n (λ bytes. bytes ≡ [])
finds_then first true last m n b read h k e f = nothing_left m n b read (h e refl)
finds_then first false last m n b read h k e f = k refl f

pub stays_then : (first between last : Bool) (a b : List ℕ) → (first ≡ true → (between ≡ true) × (a ≡ [])) → (between ≡ true → (last ≡ true) × (b ≡ [])) → first ≡ true → (last ≡ true) × (a ++ b ≡ [])
stays_then first between last a b h k e =
    let x = h e in
    let y = k x.0 in
    (y.0, ap (λ z. z ++ b) x.1 ∙ y.1)

-- behind its end a source gives nothing
no_more : (between last : Bool) (b tail : List ℕ) → (between ≡ true → (last ≡ true) × (b ≡ [])) → (last ≡ true → tail ≡ []) → between ≡ true → b ++ tail ≡ []
no_more between last b tail h k e = let x = h e in ap (λ z. z ++ tail) x.1 ∙ k x.0

module _ (f g : State → Result Datum) (a b c : Run) (l m n t u v : Option (List ℕ)) where
  -- where the second part finds the end of the input, so does the whole
  found_behind : (x : Moves f g a b l m t u) (input : List ℕ) → (b.streams.ended ≡ true → input ≡ []) → FindsFrom b g input → FindsFrom a f (x.got ++ input)
  found_behind x input none found s written st =
      let p = x.means s written input none st in
      ap (λ (r : Result Datum). (last r).at_end) p.1 ∙ found p.0 (written ++ x.sent) p.2

  pub moves_then : (h : State → Result Datum) → Moves f g a b l m t u → Moves g h b c m n u v → Moves f h a c l n t v
  moves_then h x y = record {
    got = x.got ++ y.got;
    sent = x.sent ++ y.sent;
    read = read_then l m n x.got y.got x.read y.read;
    sends = wrote_then t u v x.sent y.sent x.sends y.sends;
    asked = needed_then (FindsFrom a f) (FindsFrom b g) a.streams.ended b.streams.ended c.streams.ended x.got y.got y.stays (found_behind x) x.asked y.asked;
    stays = stays_then a.streams.ended b.streams.ended c.streams.ended x.got y.got x.stays y.stays;
    finds = finds_then a.streams.ended b.streams.ended c.streams.ended m n y.got y.read x.finds y.finds;
    means = λ s written tail end st.
        let p = x.means s written (y.got ++ tail) (no_more b.streams.ended c.streams.ended y.got tail y.stays end) (subst (StandsFor a s written) (append_assoc x.got y.got tail) st) in
        let q = y.means p.0 (written ++ x.sent) tail end p.2 in
        (q.0, p.1 ∙ q.1, subst (λ (w : List ℕ). StandsFor c q.0 w tail) (append_assoc written x.sent y.sent) q.2);
  }

  pub comes_behind : (end : RunEnd) → Moves f g a b l m t u → Comes end g b c m n u v → Comes end f a c l n t v
  comes_behind end x y = record {
    got = x.got ++ y.got;
    sent = x.sent ++ y.sent;
    read = read_then l m n x.got y.got x.read y.read;
    sends = sends_then end t u v x.sent y.sent x.sends y.sends;
    asked = needed_then (FindsFrom a f) (FindsFrom b g) a.streams.ended b.streams.ended c.streams.ended x.got y.got y.stays (found_behind x) x.asked y.asked;
    stays = stays_then a.streams.ended b.streams.ended c.streams.ended x.got y.got x.stays y.stays;
    stops = y.stops;
    finds = finds_then a.streams.ended b.streams.ended c.streams.ended m n y.got y.read x.finds y.finds;
    means = λ s written tail over st.
        let p = x.means s written (y.got ++ tail) (no_more b.streams.ended c.streams.ended y.got tail y.stays over) (subst (StandsFor a s written) (append_assoc x.got y.got tail) st) in
        let q = y.means p.0 (written ++ x.sent) tail over p.2 in
        subst (λ r. Ends end r (told end (written ++ (x.sent ++ y.sent)) c.streams.waiting) tail c.left) (sym p.1)
        (subst (λ (w : List ℕ). Ends end (g p.0) (told end w c.streams.waiting) tail c.left) (append_assoc written x.sent y.sent) q);
  }

-- parts without input or output

abbrev pub moved : State → Run → State
moved s new = record s { memory = memory new.mem; left = new.left; next = new.next }

-- what holds in each state whose memory, units and next number are a run's
abbrev pub InStates : Run → (State → Type 0) → Type 0
InStates old P = (s : State) → s.memory ≡ memory old.mem → s.left ≡ old.left → s.next ≡ old.next → P s

-- such a state, where nothing has changed
pub same_moved : (run : Run) (s : State) → s.memory ≡ memory run.mem → s.left ≡ run.left → s.next ≡ run.next → s ≡ moved s run
same_moved run s same units next =
    ap (λ m. record s { memory = m }) same ∙ (ap (λ l. record s { memory = memory run.mem; left = l }) units ∙ ap (λ n. record s { memory = memory run.mem; left = run.left; next = n }) next)

module _ (f : State → Result Datum) (old new : Run) (same : new.streams ≡ old.streams) (left taken : Option (List ℕ)) where
  now_ended : new.streams.ended ≡ old.streams.ended
  now_ended = ap (λ (h : StreamsState). h.ended) same

  pub quiet_moves : (g : State → Result Datum) → InStates old (λ s. f s ≡ g (moved s new)) → Moves f g old new left left taken taken
  quiet_moves g does = record {
    got = [];
    sent = [];
    read = none_read left left refl;
    sends = none_wrote taken taken refl;
    asked = needed_none (FindsFrom old f) old.streams.ended new.streams.ended now_ended;
    stays = λ e. (now_ended ∙ e, refl);
    finds = λ more e. absurd (not_both new.streams.ended (now_ended ∙ more) e);
    means = λ s written tail end st. (
      moved s new,
      does s st.matches.memory st.left st.next,
      record {
        matches = record {
          memory = refl;
          input = st.matches.input ∙ ap (λ (h : StreamsState). h.unread ++ tail) (sym same);
          at_end = st.matches.at_end ∙ sym now_ended;
          out = st.matches.out ∙ (ap (λ (h : StreamsState). written ++ h.waiting) (sym same) ∙ ap (λ w. w ++ new.streams.waiting) (sym (append-nil written)));
          live = st.matches.live ∙ ap (λ (h : StreamsState). h.live) (sym same);
          heap = st.matches.heap ∙ ap (λ (h : StreamsState). h.heap) (sym same);
          no_more = λ e. end e;
        };
        left = refl;
        next = refl;
      },
    );
  }

  sends_nothing : (end : RunEnd) → IsPlainEnd end → Sends end taken taken []
  sends_nothing (Exited status) plain = none_wrote taken taken refl
  sends_nothing StillRunning plain = none_wrote taken taken refl
  sends_nothing Undefined plain = none_wrote taken taken refl
  sends_nothing ReadFault plain = absurd plain
  sends_nothing WriteFault plain = absurd plain
  sends_nothing WantOfMemory plain = none_wrote taken taken refl

  -- all output is told
  told_all : (end : RunEnd) (text waiting : List ℕ) → IsPlainEnd end → told end text waiting ≡ text ++ waiting
  told_all (Exited status) text waiting plain = refl
  told_all StillRunning text waiting plain = refl
  told_all Undefined text waiting plain = refl
  told_all ReadFault text waiting plain = absurd plain
  told_all WriteFault text waiting plain = absurd plain
  told_all WantOfMemory text waiting plain = refl

  pub quiet_comes : (end : RunEnd) → IsPlainEnd end → ((tail : List ℕ) → InStates old (λ s. Ends end (f s) s.out tail new.left)) → Comes end f old new left left taken taken
  quiet_comes end plain does = record {
    got = [];
    sent = [];
    read = none_read left left refl;
    sends = sends_nothing end plain;
    asked = needed_none (FindsFrom old f) old.streams.ended new.streams.ended now_ended;
    stays = λ e. (now_ended ∙ e, refl);
    stops = λ is. absurd (subst IsPlainEnd is plain);
    finds = λ more e. absurd (not_both new.streams.ended (now_ended ∙ more) e);
    means = λ s written tail over st.
        subst (λ text. Ends end (f s) text tail new.left)
        (st.matches.out ∙ (ap (λ (h : StreamsState). written ++ h.waiting) (sym same) ∙ (ap (λ w. w ++ new.streams.waiting) (sym (append-nil written)) ∙ sym (told_all end (written ++ []) new.streams.waiting plain))))
        (does tail s st.matches.memory st.left st.next);
  }

-- turns behind something else

pub turned_behind : (table : List (Option Entity)) (f g : Seen) (a b c : Run) (turn : Turn) (l m n t u v : Option (List ℕ)) → b.mem.abi ≡ a.mem.abi
    → ((link : Linked) (enter : Enter) (at : Courses) → IsMachine a.mem.abi link enter at table → OnlyGrows a.mem.abi link enter at table → Moves (f a.mem.abi enter at) (g a.mem.abi enter at) a b l m t u) → Turned table g b c turn m n u v → Turned table f a c turn l n t v
turned_behind table f g a b c (On x) l m n t u v model first rest = record {
  means = λ link enter at machine grow.
      moves_then (f a.mem.abi enter at) (g a.mem.abi enter at) a b c l m n t u v (from_stand table c x a.mem.abi enter at) (first link enter at machine grow)
      (subst (λ (z : Abi). IsMachine z link enter at table → OnlyGrows z link enter at table → Moves (g z enter at) (from_stand table c x z enter at) b c m n u v) model (rest.means link enter at) machine grow);
  stands = rest.stands;
  model = rest.model ∙ model;
}
turned_behind table f g a b c (Stopped end) l m n t u v model first rest = record {
  means = λ link enter at machine grow.
      comes_behind (f a.mem.abi enter at) (g a.mem.abi enter at) a b c l m n t u v end (first link enter at machine grow)
      (subst (λ (z : Abi). IsMachine z link enter at table → OnlyGrows z link enter at table → Comes end (g z enter at) b c m n u v) model (rest.means link enter at) machine grow);
}

-- without faults no count changes
plain_end_reads : (end : RunEnd) (before now : ℕ) → IsPlainEnd end → now ≡ before → CountsReads end before now
plain_end_reads (Exited status) before now plain h = h
plain_end_reads StillRunning before now plain h = h
plain_end_reads Undefined before now plain h = h
plain_end_reads ReadFault before now plain h = absurd plain
plain_end_reads WriteFault before now plain h = h
plain_end_reads WantOfMemory before now plain h = h

plain_end_writes : (end : RunEnd) (before now : ℕ) → IsPlainEnd end → now ≡ before → CountsWrites end before now
plain_end_writes (Exited status) before now plain h = h
plain_end_writes StillRunning before now plain h = h
plain_end_writes Undefined before now plain h = h
plain_end_writes ReadFault before now plain h = h
plain_end_writes WriteFault before now plain h = absurd plain
plain_end_writes WantOfMemory before now plain h = h

pub plain_reads : (turn : Turn) (before now : ℕ) → IsPlain turn → now ≡ before → TurnReads turn before now
plain_reads (On x) before now plain h = h
plain_reads (Stopped end) before now plain h = plain_end_reads end before now plain h

pub plain_writes : (turn : Turn) (before now : ℕ) → IsPlain turn → now ≡ before → TurnWrites turn before now
plain_writes (On x) before now plain h = h
plain_writes (Stopped end) before now plain h = plain_end_writes end before now plain h
