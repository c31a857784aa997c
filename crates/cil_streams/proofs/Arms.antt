-- The ways in which a call of the host over streams ends.
use Rattle.std.proofs.Common.{◌≡◌, ◌⊎◌, inl, inr, arith, ◌+◌, ◌≤◌, ℕ, ◌<◌, List, [], ◌++◌, Option, None, Ok, Err, length, refl, ap, sym, ◌∙◌}
use Rattle.std.proofs.lemmas.Bool.{cases_lt}
use Rattle.cil_base.specs.declared.kinds.Abi.{Abi}
use Rattle.byte_mem.specs.declared.values.Scalar.{Scalar}
use Rattle.byte_mem.specs.declared.values.Value as values
use Rattle.byte_mem.specs.Memory.{Memory}
use Rattle.host_calls.specs.declared.names.HostName.{HostName}
use Rattle.host_calls.specs.declared.calls.Io.{Io}
use Rattle.host_calls.specs.declared.calls.HostResult.{HostResult}
use Rattle.host_calls.specs.declared.calls.HostResult.TheVariants.{Value as Gives, Exit as Ends, Undefined, NeedsInput}
use Rattle.host_calls.specs.Host.{HostState, host}
use Rattle.host_calls.specs.Counted.{IsCounted, state}
use Rattle.cil_streams.specs.declared.ends.HostEnd.{HostEnd}
use Rattle.cil_streams.specs.declared.ends.HostEnd.TheVariants as answers
use Rattle.cil_streams.specs.Held.{AheadState, StreamsState, IsUsedUp, Asks, held_by, host_part}
use Rattle.cil_streams.specs.HostAnswers.{Answers}
use Rattle.cil_streams.specs.Fetching.{Spills, Fetches}
use Rattle.cil_streams.proofs.Means.{Holds, leaves_too, asks, none_wrote, value_answers, exit_answers, write_fault_answers, undefined_answers, memory_answers}
use Rattle.cil_streams.proofs.Gets.{fetch_answers}

-- what is counted of memory is counted whatever else a state holds
pub counted_along : (h k : HostState) → k.memory ≡ h.memory → k.live ≡ h.live → k.heap ≡ h.heap → IsCounted h → IsCounted k
counted_along h k memory live heap x = rw (memory, live, heap) (record { live = x.live; fresh = x.fresh })

-- nothing is ready between two calls
pub part_is : (m : Memory) (io : Io) (ahead : AheadState) → io.ready ≡ None → state m io ≡ host_part m (held_by io ahead)
part_is m io ahead none = ap (λ (next : Option (Option ℕ)). record { memory = m; ready = next; out = io.out; live = io.live; heap = io.heap }) none

module _ (abi : Abi) (name : HostName) (wanted : Option Scalar) (args : List (Scalar × values.Value)) (m m' : Memory) (io io₁ : Io) (ahead : AheadState) (none : io.ready ≡ None) where
  host_is : (r : HostResult) → host abi name wanted args (state m io) ≡ (r, state m' io₁) → host abi name wanted args (host_part m (held_by io ahead)) ≡ (r, state m' io₁)
  host_is r e = ap (host abi name wanted args) (sym (part_is m io ahead none)) ∙ e

  -- nothing is ready behind a value
  pub value_ready : (v : values.Value) → host abi name wanted args (state m io) ≡ (Gives v, state m' io₁) → io₁.ready ≡ None
  value_ready v e = (leaves_too m (held_by io ahead) abi wanted args name (Gives v) (state m' io₁) (host_is (Gives v) e) tt).0

  value_more : (v : values.Value) → host abi name wanted args (state m io) ≡ (Gives v, state m' io₁) → length io₁.out ≤ length io.out + 1
  value_more v e = (leaves_too m (held_by io ahead) abi wanted args name (Gives v) (state m' io₁) (host_is (Gives v) e) tt).1

  -- the sink is left alone but where the last byte that may wait is there
  pub value_back : (A B : Type 0) (v : values.Value) → host abi name wanted args (state m io) ≡ (Gives v, state m' io₁) → (length io₁.out < 4096 → A) → A ⊎ (B ⊎ (4095 ≤ length io.out))
  value_back A B v e idle = by (cases_lt (length io₁.out) 4096)
    where
      by : (length io₁.out < 4096) ⊎ (4096 ≤ length io₁.out) → A ⊎ (B ⊎ (4095 ≤ length io.out))
      by (inl few) = inl (idle few)
      by (inr many) = inr (inr (omega (arith, value_more v e)))

  value_holds : (io' : Io) (sent : List ℕ) → io' ≡ record io₁ { out = io'.out } → io₁.out ≡ sent ++ io'.out → Holds (state m' io₁) m' (held_by io ahead) (held_by io' ahead) sent
  value_holds io' sent same split = record { memory = refl; unread = refl; ended = refl; out = split; live = sym (ap (λ (i : Io). i.live) same); heap = sym (ap (λ (i : Io). i.heap) same) }

  pub value_arm : {A E : Type 0} (v : values.Value) (x : A) (io' : Io) (left taken taken' : Option (List ℕ)) → host abi name wanted args (state m io) ≡ (Gives v, state m' io₁) → io' ≡ record io₁ { out = io'.out }
      → Spills {A = A} {E = E} (Ok x) io₁.out io'.out taken taken' → Answers (answers.Value v) abi name wanted args m m' (held_by io ahead) (held_by io' ahead) left left taken taken'
  value_arm v x io' left taken taken' e same spills =
      value_answers abi name wanted args m m' (held_by io ahead) (held_by io' ahead) spills.sent left left taken taken' v (state m' io₁) (host_is (Gives v) e) (value_holds io' spills.sent same spills.split) refl spills.wrote

  pub fault_arm : {A E : Type 0} (v : values.Value) (x : E) (io' : Io) (left taken taken' : Option (List ℕ)) → host abi name wanted args (state m io) ≡ (Gives v, state m' io₁) → io' ≡ record io₁ { out = io'.out }
      → Spills {A = A} {E = E} (Err x) io₁.out io'.out taken taken' → Answers answers.WriteFault abi name wanted args m m' (held_by io ahead) (held_by io' ahead) left left taken taken'
  fault_arm v x io' left taken taken' e same spills =
      write_fault_answers abi name wanted args m m' (held_by io ahead) (held_by io' ahead) spills.sent left left taken taken' v (state m' io₁) (host_is (Gives v) e) (value_holds io' spills.sent same spills.split) spills.failed refl spills.began

-- a state of the host is that of these parts
pub io_is : (m m' : Memory) (io io' : Io) (ahead : AheadState) → state m' io' ≡ host_part m (held_by io ahead) → (m' ≡ m) × (io'.ready ≡ None) × (held_by io' ahead ≡ held_by io ahead)
io_is m m' io io' ahead e = (
  ap (λ (h : HostState). h.memory) e,
  ap (λ (h : HostState). h.ready) e,
  ap (λ (h : HostState). record { unread = ahead.unread; ended = ahead.ended; waiting = h.out; live = h.live; heap = h.heap }) e,
)

module _ (abi : Abi) (name : HostName) (wanted : Option Scalar) (args : List (Scalar × values.Value)) (m m' : Memory) (io io' : Io) (ahead : AheadState) (none : io.ready ≡ None) where
  -- without a value nothing has changed
  pub exit_same : (status : ℕ) → host abi name wanted args (state m io) ≡ (Ends status, state m' io') → (m' ≡ m) × (io'.ready ≡ None) × (held_by io' ahead ≡ held_by io ahead)
  exit_same status e = io_is m m' io io' ahead (leaves_too m (held_by io ahead) abi wanted args name (Ends status) (state m' io') (host_is abi name wanted args m m' io io' ahead none (Ends status) e) tt)

  pub undefined_same : host abi name wanted args (state m io) ≡ (Undefined, state m' io') → (m' ≡ m) × (io'.ready ≡ None) × (held_by io' ahead ≡ held_by io ahead)
  undefined_same e = io_is m m' io io' ahead (leaves_too m (held_by io ahead) abi wanted args name Undefined (state m' io') (host_is abi name wanted args m m' io io' ahead none Undefined e) tt)

  pub memory_same : state m' io' ≡ state m io → (m' ≡ m) × (io'.ready ≡ None) × (held_by io' ahead ≡ held_by io ahead)
  memory_same e = io_is m m' io io' ahead (e ∙ part_is m io ahead none)

  pub input_same : host abi name wanted args (state m io) ≡ (NeedsInput, state m' io') → (m' ≡ m) × (io'.ready ≡ None) × (held_by io' ahead ≡ held_by io ahead)
  input_same e = io_is m m' io io' ahead (asks m (held_by io ahead) abi wanted args name (state m' io') (host_is abi name wanted args m m' io io' ahead none NeedsInput e)).1

  pub exit_arm : (status : ℕ) (left taken : Option (List ℕ)) → host abi name wanted args (state m io) ≡ (Ends status, state m' io')
      → Answers (answers.Exit status) abi name wanted args m m' (held_by io ahead) (held_by io' ahead) left left taken taken
  exit_arm status left taken e =
      exit_answers abi name wanted args m m' (held_by io ahead) (held_by io' ahead) [] left left taken taken status (state m' io') (host_is abi name wanted args m m' io io' ahead none (Ends status) e)
      (record { memory = refl; unread = refl; ended = refl; out = refl; live = refl; heap = refl }) refl (none_wrote taken taken refl)

  pub undefined_arm : (left taken : Option (List ℕ)) → host abi name wanted args (state m io) ≡ (Undefined, state m' io')
      → Answers answers.Undefined abi name wanted args m m' (held_by io ahead) (held_by io' ahead) left left taken taken
  undefined_arm left taken e =
      let same = undefined_same e in
      undefined_answers abi name wanted args m m' (held_by io ahead) (held_by io' ahead) left left taken taken (state m' io') (host_is abi name wanted args m m' io io' ahead none Undefined e) same.0 same.2 refl refl

  pub memory_arm : (left taken : Option (List ℕ)) → state m' io' ≡ state m io → Answers answers.Memory abi name wanted args m m' (held_by io ahead) (held_by io' ahead) left left taken taken
  memory_arm left taken e = memory_answers abi name wanted args m m' (held_by io ahead) (held_by io' ahead) left left taken taken (memory_same e).2 refl refl

  -- the call is a getchar, and the rest of it gave its answer
  pub input_arm : (end : HostEnd) (held' : StreamsState) (left left' taken taken' : Option (List ℕ)) → host abi name wanted args (state m io) ≡ (NeedsInput, state m' io')
      → Fetches end (held_by io' ahead) held' left left' taken taken' → Answers end abi name wanted args m m' (held_by io ahead) held' left left' taken taken'
  input_arm end held' left left' taken taken' e x =
      let row = asks m (held_by io ahead) abi wanted args name (state m' io') (host_is abi name wanted args m m' io io' ahead none NeedsInput e) in
      let same = input_same e in
      fetch_answers abi name wanted args m m' (held_by io ahead) held' left left' taken taken' row.0 row.2 (row.3, row.4) end same.0 (rw same.2 at x)

  -- the source is asked by a getchar
  getchar_asks : host abi name wanted args (state m io) ≡ (NeedsInput, state m' io') → IsUsedUp (held_by io' ahead) → Asks name wanted args (held_by io ahead)
  getchar_asks e x =
      let row = asks m (held_by io ahead) abi wanted args name (state m' io') (host_is abi name wanted args m m' io io' ahead none NeedsInput e) in
      record { getchar = row.0; result = row.3; arguments = row.4; used_up = rw (input_same e).2 at x }

  pub input_asks : (A W : Type 0) → host abi name wanted args (state m io) ≡ (NeedsInput, state m' io') → A ⊎ (IsUsedUp (held_by io' ahead) × W) → A ⊎ (Asks name wanted args (held_by io ahead) × W)
  input_asks A W e (inl same) = inl same
  input_asks A W e (inr x) = inr (getchar_asks e x.0, x.1)

  pub input_back : (A B : Type 0) → host abi name wanted args (state m io) ≡ (NeedsInput, state m' io') → A ⊎ IsUsedUp (held_by io' ahead) → A ⊎ (Asks name wanted args (held_by io ahead) ⊎ B)
  input_back A B e (inl same) = inl same
  input_back A B e (inr x) = inr (inl (getchar_asks e x))

-- the invariant of streams holds where they are the same
pub still_holds : (m m' : Memory) (io io' : Io) (ahead : AheadState) (n : ℕ) → (m' ≡ m) × (io'.ready ≡ None) × (held_by io' ahead ≡ held_by io ahead) → length io.out < n → (io'.ready ≡ None) × (length io'.out < n)
still_holds m m' io io' ahead n same few = (same.1, rw (ap (λ (h : StreamsState). h.waiting) same.2) few)
