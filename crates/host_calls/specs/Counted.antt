-- Definition: what the host keeps of the objects of malloc, and what a call of it leaves.
use Rattle.std.specs.Prelude.{◌≡◌, ℕ, zero, suc, ◌+◌, ◌≤◌, unwrap_or, None}
use Rattle.byte_mem.specs.declared.pointers.ObjName.TheVariants.{Heap}
use Rattle.byte_mem.specs.Memory.{Memory, live_size}
use Rattle.host_calls.specs.declared.calls.HostResult.{HostResult}
use Rattle.host_calls.specs.declared.calls.HostResult.TheVariants.{Value, Exit, Undefined, NeedsInput, Memory as WantOfMemory}
use Rattle.host_calls.specs.declared.calls.Io.{Io}
use Rattle.host_calls.specs.Host.{HostState, Outcome}

-- the bytes of the live objects of malloc below a number
abbrev pub heap_total : Memory → ℕ → ℕ
heap_total m zero = 0
heap_total m (suc i) = heap_total m i + unwrap_or (live_size m (Heap i)) 0

-- `live` counts the bytes of the live objects of malloc, and `heap` is above the number of each
pub record IsCounted (s : HostState) : Type 0 where
  pub live : s.live ≡ heap_total s.memory s.heap
  pub fresh : (i : ℕ) → s.heap ≤ i → live_size s.memory (Heap i) ≡ None

-- the state that a store and the host's own part make
abbrev pub state : Memory → Io → HostState
state m io = record { memory = m; ready = io.ready; out = io.out; live = io.live; heap = io.heap }

-- the call gave its outcome, or memory was wanting and nothing has changed
abbrev pub Answers : HostResult → HostState → HostState → Outcome → Type 0
Answers (Value v) old new o = o ≡ (Value v, new)
Answers (Exit status) old new o = o ≡ (Exit status, new)
Answers Undefined old new o = o ≡ (Undefined, new)
Answers NeedsInput old new o = o ≡ (NeedsInput, new)
Answers WantOfMemory old new o = new ≡ old
