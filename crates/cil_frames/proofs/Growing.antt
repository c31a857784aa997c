-- Device: what a run never takes back, from one combinator to the next, and from one step of a list to the next.
use Rattle.std.proofs.Common.{◌≡◌, ℕ, zero, suc, ◌+◌, ◌<◌, ◌≤◌, Bool, true, false, List, [], ◌∷◌, length, map, Option, Some, None, slice_get, refl, sym, ap, subst, arith}
use Rattle.std.proofs.Math.Nat.{le_trans}
use Rattle.std.proofs.lemmas.Bool.{ltb-true}
use Rattle.cil_base.specs.declared.kinds.Abi.{Abi}
use Rattle.cil_base.specs.Outcome.{IsPrefix}
use Rattle.cil_base.proofs.OutcomeLaws.{IsPrefix-refl, IsPrefix-trans}
use Rattle.byte_mem.specs.declared.values.Scalar.TheVariants.{Int as OfKind, Ptr as OfPointer}
use Rattle.byte_mem.specs.declared.values.Value.{Value}
use Rattle.byte_mem.specs.Steps.{◌>>=◌}
use Rattle.byte_mem.specs.Memory.{Memory}
use Rattle.byte_mem.specs.Operator.{truth, number_in}
use Rattle.host_calls.specs.declared.names.HostName.{HostName}
use Rattle.host_calls.specs.declared.names.HostName.TheVariants.{Getchar, Putchar, Exit, Abort, Malloc, Free, Memset}
use Rattle.host_calls.specs.declared.calls.HostResult.{HostResult}
use Rattle.host_calls.specs.declared.calls.HostResult.TheVariants.{Value as Gives, Exit as Ends, Undefined as Breaks, NeedsInput, Memory as WantOfMemory}
use Rattle.host_calls.specs.Host.{HostState, host}
use Rattle.execution.specs.States.{State, Result, Goes, Exits, Running, Undefined, with_memory, with_left, bind, given, spent, spend, last}
use Rattle.execution.specs.Data as passed
use Rattle.execution.specs.Data.{Datum, store_datum, without_objects}
use Rattle.execution.specs.Jumps.{Normal}
use Rattle.execution.specs.Calls as meaning
use Rattle.execution.specs.Calls.{Call, Enter, Meaning, Object, Code, Host, Linked, leaves, scoped, number_of, begun, activated, numbers, matches, entered, at_end_after, after_host, host_state, host_gave, scalar_argument, scalar_arguments, scalar_result, host_called, called, entity_at, meant}
use Rattle.execution.proofs.HostOutput.{host_adds}
use Rattle.cil_semantics.specs.Statements.{written}
use Rattle.cil_control.specs.Flat.{place_by, place_for}
use Rattle.cil_machine.specs.Terms.{term_value}
use Rattle.cil_machine.specs.Instructions.{zeroed}
use Rattle.cil_code.specs.declared.calls.Call.{Call as CodeCall}
use Rattle.cil_code.specs.declared.steps.Step.{Step}
use Rattle.cil_code.specs.declared.steps.Step.TheVariants as step
use Rattle.cil_code.specs.Passing.{operand_datum}
use Rattle.cil_code.specs.Calling.{kind_from, receiving, received_kind, passing_all, kept, called_in}
use Rattle.cil_code.specs.Taking.{datum_of}
use Rattle.cil_code.specs.Doing.{assigned, done}
use Rattle.cil_frames.specs.declared.frames.Function.{Function}
use Rattle.cil_frames.specs.declared.frames.Frame.{Frame}
use Rattle.cil_frames.specs.declared.frames.Entity.{Entity}
use Rattle.cil_frames.specs.declared.frames.Entity.TheVariants.{Data as OfData, Program as OfProgram, Host as OfHost}
use Rattle.cil_control.specs.Leading.{further, table_leads}
use Rattle.cil_control.proofs.Leads.{both_of}
use Rattle.cil_code.specs.Leading.{leads}
use Rattle.cil_frames.specs.Entering.{objects_of}
use Rattle.cil_frames.specs.Evaluating.{kept_in, keeps}
use Rattle.cil_frames.specs.Frames.{Courses, counted, left_by, function_in, resumed_in, unwound, IsFunction, IsEntity, IsTable, IsMachine}
use Rattle.cil_frames.specs.Growing.{Grows, IsPlace, StandIn, RunsOnlyGrow}
use Rattle.cil_frames.proofs.Leads.{step_leads, for_leads, further_is}
use Rattle.cil_frames.proofs.Turns.{entity_meant, code_meant}

-- one state behind another

grows_refl : (s : State) → Grows s s
grows_refl s = record { left = omega arith; more = (IsPrefix-refl s.out).0; out = (IsPrefix-refl s.out).1; at_end = λ e. e }

grows_trans : (s t u : State) → Grows s t → Grows t u → Grows s u
grows_trans s t u h k =
    let w : IsPrefix s.out u.out = IsPrefix-trans s.out t.out u.out (h.more, h.out) (k.more, k.out) in
    record { left = le_trans k.left h.left; more = w.0; out = w.1; at_end = λ e. k.at_end (h.at_end e) }

memory_grows : (s : State) (m : Memory) → Grows s (with_memory s m)
memory_grows s m = record { left = omega arith; more = (IsPrefix-refl s.out).0; out = (IsPrefix-refl s.out).1; at_end = λ e. e }

begun_grows : (abi : Abi) (xs : List passed.Argument) (s : State) → Grows s (begun abi xs s)
begun_grows abi xs s = record { left = omega arith; more = (IsPrefix-refl s.out).0; out = (IsPrefix-refl s.out).1; at_end = λ e. e }

unit_grows : (s : State) (n : ℕ) → s.left ≡ suc n → Grows s (with_left s n)
unit_grows s n e = record { left = omega arith; more = (IsPrefix-refl s.out).0; out = (IsPrefix-refl s.out).1; at_end = λ e. e }

-- the combinators

bind_grows : {A B : Type 0} (s : State) (r : Result A) (to : A → State → Result B) → Grows s (last r) → ((a : A) (t : State) → Grows s t → Grows t (last (to a t))) → Grows s (last (bind r to))
bind_grows s (Goes a t) to h k = grows_trans s t (last (to a t)) h (k a t h)
bind_grows s (Exits status t) to h k = h
bind_grows s (Running t) to h k = h
bind_grows s (Undefined t) to h k = h

given_grows : {A B : Type 0} (s : State) (o : Option A) (next : A → Result B) → ((a : A) → Grows s (last (next a))) → Grows s (last (given s o next))
given_grows s (Some a) next h = h a
given_grows s None next h = grows_refl s

changed_grows : {B : Type 0} (s : State) (o : Option Memory) (next : State → Result B) → ((m : Memory) → Grows (with_memory s m) (last (next (with_memory s m)))) → Grows s (last (given s o (λ m. next (with_memory s m))))
changed_grows s o next h = given_grows s o (λ m. next (with_memory s m)) (λ m. grows_trans s (with_memory s m) (last (next (with_memory s m))) (memory_grows s m) (h m))

spend_grows : {A : Type 0} (s : State) (next : State → Result A) → ((n : ℕ) → s.left ≡ suc n → Grows (with_left s n) (last (next (with_left s n)))) → Grows s (last (spend s next))
spend_grows {A} s next h = by s.left refl
  where
    by : (n : ℕ) → s.left ≡ n → Grows s (last (spent n s next))
    by zero e = grows_refl s
    by (suc n) e = grows_trans s (with_left s n) (last (next (with_left s n))) (unit_grows s n e) (h n e)

leaves_grows : {A : Type 0} (act : ℕ) (ns : List ℕ) (s : State) (r : Result A) → Grows s (last r) → Grows s (last (leaves act ns r))
leaves_grows act ns s r h = bind_grows s r (λ a t. Goes a (with_memory t (without_objects act ns t.memory))) h (λ a t k. memory_grows t (without_objects act ns t.memory))

written_grows : (s : State) (o : Option Memory) → Grows s (last (written s o))
written_grows s o = changed_grows s o (λ t. Goes Normal t) (λ m. grows_refl (with_memory s m))

kept_grows : (abi : Abi) (kind : Option passed.Kind) (o : Option Value) (d : Datum) (s : State) → Grows s (last (kept abi kind o d s))
kept_grows abi kind None d s = grows_refl s
kept_grows abi kind (Some place) d s = written_grows s (kind >>= λ k. store_datum abi s.memory k place d)

-- a call of the host

at_end_stays : (name : HostName) (input : List ℕ) (b : Bool) → b ≡ true → at_end_after name input b ≡ true
at_end_stays Getchar [] b e = refl
at_end_stays Getchar (x ∷ input) b e = e
at_end_stays Putchar input b e = e
at_end_stays Exit input b e = e
at_end_stays Abort input b e = e
at_end_stays Malloc input b e = e
at_end_stays Free input b e = e
at_end_stays Memset input b e = e

after_grows : (name : HostName) (s : State) (h : HostState) → IsPrefix s.out h.out → Grows s (after_host name s h)
after_grows name s h w = record { left = omega arith; more = w.0; out = w.1; at_end = at_end_stays name s.input s.at_end }

gave_grows : (name : HostName) (s : State) (r : HostResult) (h : HostState) → IsPrefix s.out h.out → Grows s (last (host_gave name s r h))
gave_grows name s (Gives v) h w = after_grows name s h w
gave_grows name s (Ends status) h w = after_grows name s h w
gave_grows name s Breaks h w = grows_refl s
gave_grows name s NeedsInput h w = grows_refl s
gave_grows name s WantOfMemory h w = grows_refl s

host_grows : (name : HostName) (c : Call) (s : State) → Grows s (last (host_called name c s))
host_grows name c s =
    given_grows s (scalar_result c.result) _ (λ wanted.
    given_grows s (scalar_arguments c.arguments) _ (λ args.
    gave_grows name s (host c.abi name wanted args (host_state s)).0 (host c.abi name wanted args (host_state s)).1 (host_adds c.abi name wanted args (host_state s))))

-- what the table has of what an entity means
entity_linked : (abi : Abi) (enter : Enter) (at : Courses) (link : Linked) (table : List (Option Entity)) (i n j : ℕ) (m : Option Meaning) → IsTable abi enter at i link table → slice_get link n ≡ Some m → j ≡ i + n
    → (e : Option Entity) × (slice_get table n ≡ Some e) × IsEntity abi enter (at j) m e
entity_linked abi enter at [] [] i n j m t there k = absurd (cc)
entity_linked abi enter at [] (y ∷ table) i n j m t there k = absurd t
entity_linked abi enter at (x ∷ link) [] i n j m t there k = absurd t
entity_linked abi enter at (x ∷ link) (y ∷ table) i zero j m t there k =
    let same : x ≡ m = ap (λ o. elim o [ None ↦ x | Some z ↦ z ]) there in
    let here : i ≡ j = omega arith in
    (y, refl, subst (λ j. IsEntity abi enter (at j) m y) here (subst (λ m. IsEntity abi enter (at i) m y) same t.0))
entity_linked abi enter at (x ∷ link) (y ∷ table) i (suc n) j m t there k = entity_linked abi enter at link table (suc i) n j m t.1 there (omega arith)

step_there : (code : List Step) (p : ℕ) → p < length code → (y : Step) × (slice_get code p ≡ Some y)
step_there [] p h = absurd (omega arith)
step_there (y ∷ code) zero h = (y, refl)
step_there (y ∷ code) (suc p) h = step_there code p (omega arith)

module _ (abi : Abi) (link : Linked) (enter : Enter) (at : Courses) (table : List (Option Entity)) (machine : IsMachine abi link enter at table) where
  -- with fewer units than that, what remains at each place takes nothing back
  abbrev Below : ℕ → Type 0
  Below n = (function act place : ℕ) → IsPlace table function place → (s : State) → s.left < n → Grows s (last (at function act place s))

  -- a function of the program, which is called behind a spent unit

  body_grows : (n function act : ℕ) (f : meaning.Function) (g : Function) (s : State) → Below n → slice_get table function ≡ Some (Some (OfProgram g)) → IsFunction abi enter (at function) f g → s.left < n → Grows s (last (f.body enter act s))
  body_grows n function act f g s below there is few =
      let start = with_memory s (passed.with_objects act (objects_of g.objects.items) s.memory) in
      subst (λ r. Grows s (last r)) (sym (is.body act s))
      (leaves_grows act (map number_of (objects_of g.objects.items)) s (at function act 0 start)
      (grows_trans s start (last (at function act 0 start)) (memory_grows s (passed.with_objects act (objects_of g.objects.items) s.memory)) (below function act 0 (record { code = g; running = there; there = is.there }) start few)))

  activated_grows : (n function : ℕ) (f : meaning.Function) (g : Function) (xs : List passed.Argument) (s : State) → Below n → slice_get table function ≡ Some (Some (OfProgram g)) → IsFunction abi enter (at function) f g → s.left < n
      → Grows s (last (activated enter f xs s))
  activated_grows n function f g xs s below there is few =
      let start = begun f.abi xs s in
      leaves_grows s.next (numbers 0 xs) s (f.body enter s.next start) (grows_trans s start (last (f.body enter s.next start)) (begun_grows f.abi xs s) (body_grows n function s.next f g start below there is few))

  entered_grows : (n function : ℕ) (b : Bool) (f : meaning.Function) (g : Function) (xs : List passed.Argument) (s : State) → Below n → slice_get table function ≡ Some (Some (OfProgram g)) → IsFunction abi enter (at function) f g → s.left < suc n
      → Grows s (last (entered b enter f xs s))
  entered_grows n function false f g xs s below there is few = grows_refl s
  entered_grows n function true f g xs s below there is few = spend_grows s (activated enter f xs) (λ m e. activated_grows n function f g xs (with_left s m) below there is (omega arith))

  -- each call

  meaning_grows : (n j : ℕ) (m : Option Meaning) (y : Option Entity) (c : Call) (s : State) → Below n → slice_get table j ≡ Some y → IsEntity abi enter (at j) m y → s.left < suc n → Grows s (last (called enter m c s))
  meaning_grows n j None y c s below there is few = grows_refl s
  meaning_grows n j (Some (Object read_only bytes)) y c s below there is few = grows_refl s
  meaning_grows n j (Some (Code f)) None c s below there is few = absurd is
  meaning_grows n j (Some (Code f)) (Some OfData) c s below there is few = absurd is
  meaning_grows n j (Some (Code f)) (Some (OfProgram g)) c s below there is few = entered_grows n j (matches f c) f g c.arguments s below there is few
  meaning_grows n j (Some (Code f)) (Some (OfHost name)) c s below there is few = absurd is
  meaning_grows n j (Some (Host name)) y c s below there is few = host_grows name c s

  linked_grows : (n j : ℕ) (o : Option (Option Meaning)) (c : Call) (s : State) → Below n → slice_get link j ≡ o → s.left < suc n → Grows s (last (called enter (o >>= λ m. m) c s))
  linked_grows n j None c s below e few = grows_refl s
  linked_grows n j (Some m) c s below e few =
      let k = entity_linked abi enter at link table 0 j j m machine.entries e (omega arith) in
      meaning_grows n j m k.0 c s below k.1 k.2 few

  named_grows : (n : ℕ) (o : Option ℕ) (c : Call) (s : State) → Below n → s.left < suc n → Grows s (last (called enter (o >>= λ j. slice_get link j >>= λ m. m) c s))
  named_grows n None c s below few = grows_refl s
  named_grows n (Some j) c s below few = linked_grows n j (slice_get link j) c s below refl few

  enter_grows : (n : ℕ) (c : Call) (s : State) → Below n → s.left < suc n → Grows s (last (enter c s))
  enter_grows n c s below few = subst (λ r. Grows s (last r)) (sym (machine.step c s)) (named_grows n (entity_at c.callee) c s below few)

  call_grows : (n act : ℕ) (k : CodeCall) (s : State) → Below n → s.left < suc n → Grows s (last (called_in abi act enter k s))
  call_grows n act k s below few =
      given_grows s (receiving abi s.memory act k.to) _ (λ place.
      given_grows s (term_value abi s.memory act OfPointer k.callee) _ (λ v.
      given_grows s (passing_all abi s.memory act k.arguments.items) _ (λ xs.
      let c : Call = record { abi = abi; callee = v; result = kind_from k.result; arguments = xs } in
      bind_grows s (enter c s) (λ d t. kept abi (received_kind k.to) place d t) (enter_grows n c s below few) (λ d t h. kept_grows abi (received_kind k.to) place d t))))

  -- each step of a list, where further on in it nothing is taken back

  abbrev Further : ℕ → ℕ → ℕ → Function → ℕ → Type 0
  Further n function act f p = (q : ℕ) → (p < q) × (q < length f.code.items) → (s : State) → s.left < suc n → Grows s (last (at function act q s))

  step_grows : (n function act p : ℕ) (f : Function) (end : Datum) (y : Step) (s : State) → Below n → slice_get table function ≡ Some (Some (OfProgram f)) → Further n function act f p → leads (length f.code.items) p y ≡ true → s.left < suc n
      → Grows s (last (done abi act enter end (at function act) p y s))
  step_grows n function act p f end (step.Set place o) s below there on h few =
      changed_grows s (assigned abi s.memory act place o) (at function act (suc p)) (λ m. on (suc p) (further_is (length f.code.items) p (suc p) h) (with_memory s m) few)
  step_grows n function act p f end (step.Zero size place) s below there on h few =
      changed_grows s (zeroed abi s.memory act size place) (at function act (suc p)) (λ m. on (suc p) (further_is (length f.code.items) p (suc p) h) (with_memory s m) few)
  step_grows n function act p f end (step.Call k) s below there on h few =
      bind_grows s (called_in abi act enter k s) (λ g. at function act (suc p)) (call_grows n act k s below few)
      (λ g t l. let fewer : t.left ≤ s.left = l.left in on (suc p) (further_is (length f.code.items) p (suc p) h) t (omega arith))
  step_grows n function act p f end (step.Test t e q) s below there on h few =
      given_grows s (term_value abi s.memory act t e >>= truth s.memory t) (λ v. at function act (place_by v (suc p) q) s) (by (both_of (further (length f.code.items) p (suc p)) (further (length f.code.items) p q) h))
    where
      by : (further (length f.code.items) p (suc p) ≡ true) × (further (length f.code.items) p q ≡ true) → (v : Bool) → Grows s (last (at function act (place_by v (suc p) q) s))
      by k true = on (suc p) (further_is (length f.code.items) p (suc p) k.0) s few
      by k false = on q (further_is (length f.code.items) p q k.1) s few
  step_grows n function act p f end (step.Choose kind e cases other) s below there on h few =
      let k = both_of (table_leads (length f.code.items) p cases) (further (length f.code.items) p other) h in
      given_grows s (term_value abi s.memory act (OfKind kind) e >>= number_in) (λ v. at function act (place_for v cases other) s)
      (λ v. on (place_for v cases other) (further_is (length f.code.items) p (place_for v cases other) (for_leads (length f.code.items) p other v cases k.0 k.1)) s few)
  step_grows n function act p f end (step.Forward q) s below there on h few = on q (further_is (length f.code.items) p q h) s few
  step_grows n function act p f end (step.Back q) s below there on h few =
      spend_grows s (at function act q) (λ m e. below function act q (record { code = f; running = there; there = ltb-true q (length f.code.items) h }) (with_left s m) (omega arith))
  step_grows n function act p f end (step.Leave None) s below there on h few = grows_refl s
  step_grows n function act p f end (step.Leave (Some o)) s below there on h few = given_grows s (operand_datum abi s.memory act o) (λ d. Goes d s) (λ d. grows_refl s)
  step_grows n function act p f end step.Stuck s below there on h few = grows_refl s

  -- each place of a function's list, from its end on
  place_grows : (n function act : ℕ) (m : meaning.Function) (f : Function) → Below n → slice_get table function ≡ Some (Some (OfProgram f)) → IsFunction abi enter (at function) m f → (ahead p : ℕ) → length f.code.items ≤ p + ahead → p < length f.code.items → (s : State) → s.left < suc n
      → Grows s (last (at function act p s))
  place_grows n function act m f below there is zero p long h s few = absurd (omega arith)
  place_grows n function act m f below there is (suc ahead) p long h s few =
      let y = step_there f.code.items p h in
      subst (λ r. Grows s (last r)) (sym (is.goes act p y.0 y.1 s))
      (step_grows n function act p f (datum_of f.end) y.0 s below there
      (λ q k t less. let low : p < q = k.0 in place_grows n function act m f below there is ahead q (omega arith) k.1 t less)
      (step_leads f.code.items p y.0 is.leads y.1) few)

  -- an entry of the table is of a function of the program
  below : (n : ℕ) → Below n
  below zero function act place is s few = absurd (omega arith)
  below (suc n) function act place is s few =
      let m = entity_meant abi enter at link table 0 function function (Some (OfProgram is.code)) machine.entries is.running (omega arith) in
      let c = code_meant abi enter (at function) m.0 is.code m.2 in
      place_grows n function act c.0 is.code (below n) is.running c.2 (length is.code.code.items) place (omega arith) is.there s few

  places_grow : (function act place : ℕ) → IsPlace table function place → (s : State) → Grows s (last (at function act place s))
  places_grow function act place is s = below (suc s.left) function act place is s (omega arith)

  -- waiting frames

  left_by_grows : (act : ℕ) (f : Function) (s : State) (r : Result Datum) → Grows s (last r) → Grows s (last (left_by act f r))
  left_by_grows act f s r h =
      leaves_grows act (counted 0 (length f.parameters.items)) s (leaves act (map number_of (objects_of f.objects.items)) r) (leaves_grows act (map number_of (objects_of f.objects.items)) s r h)

  resumed_grows : (frame : Frame) (o : Option Function) (s : State) (r : Result Datum) → IsPlace table frame.function frame.place → Grows s (last r) → Grows s (last (resumed_in abi at frame o r))
  resumed_grows frame None s r is h = h
  resumed_grows frame (Some f) s r is h =
      left_by_grows frame.act f s (bind (bind r (keeps abi frame.to)) (λ g. at frame.function frame.act frame.place))
      (bind_grows s (bind r (keeps abi frame.to)) (λ g. at frame.function frame.act frame.place)
      (bind_grows s r (keeps abi frame.to) h (λ d t k. written_grows t (kept_in abi frame.to d t.memory)))
      (λ g t k. places_grow frame.function frame.act frame.place is t))

  unwound_grows : (frames : List Frame) (s : State) (r : Result Datum) → StandIn table frames → Grows s (last r) → Grows s (last (unwound abi at table frames r))
  unwound_grows [] s r is h = h
  unwound_grows (frame ∷ frames) s r is h = resumed_grows frame (function_in (slice_get table frame.function)) s (unwound abi at table frames r) is.0 (unwound_grows frames s r is.1 h)

pub runs_only_grow : RunsOnlyGrow
runs_only_grow abi link enter at table machine = record {
  places = places_grow abi link enter at table machine;
  wholes = λ frames is act f r. unwound_grows abi link enter at table machine frames (last r) (left_by act f r) is (left_by_grows abi link enter at table machine act f (last r) r (grows_refl (last r)));
}
