-- Definition: what a call of the host over a source and a sink answers, and how its answer is that of the meaning, which has all input at hand and keeps all output.
use Rattle.std.specs.Prelude.{◌≡◌, ℕ, ◌≤◌, ◌⊎◌, true, false, List, [], ◌++◌, length, Option, Some, IfSome, negsuc}
use Rattle.cil_base.specs.declared.kinds.Abi.{Abi}
use Rattle.byte_mem.specs.declared.values.Scalar.{Scalar}
use Rattle.byte_mem.specs.declared.values.Value as values
use Rattle.byte_mem.specs.declared.values.Value.TheVariants.{Int}
use Rattle.byte_mem.specs.Memory.{Memory}
use Rattle.host_calls.specs.declared.names.HostName.{HostName}
use Rattle.outside.specs.Counts.{Rose}
use Rattle.outside.specs.Moves.{Wrote, Began, WasRead}
use Rattle.execution.specs.States.{State, Result, Goes, Exits, Undefined as Broken, last, output}
use Rattle.execution.specs.Data.{Datum, Single}
use Rattle.execution.specs.Calls.{Call, scalar_result, scalar_arguments, host_called}
use Rattle.cil_streams.specs.declared.ends.HostEnd.{HostEnd}
use Rattle.cil_streams.specs.declared.ends.HostEnd.TheVariants.{Value, Exit, Undefined, ReadFault, WriteFault, Memory as WantOfMemory}
use Rattle.cil_streams.specs.Held.{StreamsState, Asks}
use Rattle.cil_streams.specs.Following.{Matches, Leads}

-- the sink took all that was sent, or, where it failed, a front of that
abbrev pub Sends : HostEnd → Option (List ℕ) → Option (List ℕ) → List ℕ → Type 0
Sends WriteFault taken taken' sent = Began taken taken' sent
Sends _ taken taken' sent = Wrote taken taken' sent

-- a count over a call in which a call on the outside failed
pub record Fails (before now : ℕ) : Type 0 where
  pub later : before ≤ now
  pub rose : Rose before now

-- a count of the source's faults: it changes exactly where the answer says so
abbrev pub CountsReads : HostEnd → ℕ → ℕ → Type 0
CountsReads ReadFault before now = Fails before now
CountsReads _ before now = now ≡ before

-- a count of the sink's faults
abbrev pub CountsWrites : HostEnd → ℕ → ℕ → Type 0
CountsWrites WriteFault before now = Fails before now
CountsWrites _ before now = now ≡ before

-- `r` is what the call does in the state `s`; memory and streams are those behind the call
abbrev pub Means : HostEnd → Result Datum → State → Memory → StreamsState → List ℕ → List ℕ → List ℕ → Type 0
-- the call goes on with the value, or ends the run with the status
Means (Value v) r s m held written sent tail = (t : State) × (r ≡ Goes (Single v) t) × Leads s t m held (written ++ sent) tail
Means (Exit status) r s m held written sent tail = (t : State) × (r ≡ Exits status t) × Leads s t m held (written ++ sent) tail
-- the call is undefined, and the state as before
Means Undefined r s m held written sent tail = (r ≡ Broken s) × Matches s m held (written ++ sent) tail
-- what was sent is the output to the end of the call; and a source that had nothing more to give would have been found at its end
Means ReadFault r s m held written sent tail =
    (output r ≡ written ++ sent) × (tail ≡ [] → (t : State) × (r ≡ Goes (Single (Int (negsuc 0))) t) × (held.waiting ≡ []) × Leads s t m (record held { ended = true }) (written ++ sent) tail)
-- what was sent is the output to its end
Means WriteFault r s m held written sent tail = output r ≡ written ++ sent
-- what was sent and what waits is the output so far
Means WantOfMemory r s m held written sent tail = s.out ≡ (written ++ sent) ++ held.waiting

-- what a call read of the source, at most 4,096 bytes or, where it gave none, its end, was needed: a source that had nothing to give would have been found at its end
pub record WasNeeded (abi : Abi) (name : HostName) (wanted : Option Scalar) (args : List (Scalar × values.Value)) (m : Memory) (held held' : StreamsState) (got : List ℕ) : Type 0 where
  pub asks : Asks name wanted args held
  pub few : length got ≤ 4096
  pub some : got ≡ [] → held'.ended ≡ true
  pub end : held'.ended ≡ true → got ≡ []
  pub finds : (s : State) (c : Call) (written : List ℕ) → c.abi ≡ abi → scalar_result c.result ≡ Some wanted → scalar_arguments c.arguments ≡ Some args
      → Matches s m held written [] → (last (host_called name c s)).at_end ≡ true

-- a call of the host over a source, of which `left` is left, and a sink, which has taken `taken`; the accented ones are behind the call
pub record Answers (end : HostEnd) (abi : Abi) (name : HostName) (wanted : Option Scalar) (args : List (Scalar × values.Value)) (m m' : Memory) (held held' : StreamsState) (left left' taken taken' : Option (List ℕ)) : Type 0 where
  -- the bytes that the source gave, and those that went to the sink
  pub got : List ℕ
  pub sent : List ℕ
  pub read : WasRead left left' got
  pub sends : Sends end taken taken' sent
  -- nothing was read, or what was read was needed
  pub asked : ((got ≡ []) × (held'.ended ≡ held.ended)) ⊎ WasNeeded abi name wanted args m held held' got
  -- a source that has given its end is asked no more, so that no read of it fails
  pub stays : held.ended ≡ true → (held'.ended ≡ true) × (got ≡ [])
  pub stops : end ≡ ReadFault → held'.ended ≡ false
  -- it gives its end only where nothing is left
  pub finds : held.ended ≡ false → held'.ended ≡ true → IfSome left' (λ bytes. bytes ≡ [])
  -- whatever the source has still to give, nothing where it has given its end
  pub means : (s : State) (c : Call) (written tail : List ℕ) → c.abi ≡ abi → scalar_result c.result ≡ Some wanted → scalar_arguments c.arguments ≡ Some args
      → (held'.ended ≡ true → tail ≡ []) → Matches s m held written (got ++ tail) → Means end (host_called name c s) s m' held' written sent tail
