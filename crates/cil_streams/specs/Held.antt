-- Definition: what streams hold between two calls of the host (own).
use Rattle.std.specs.Prelude.{◌≡◌, ℕ, Bool, false, List, [], Option, Some, None}
use Rattle.cil_base.specs.declared.kinds.IntKind.TheVariants.{Int as int}
use Rattle.byte_mem.specs.declared.values.Scalar.{Scalar}
use Rattle.byte_mem.specs.declared.values.Scalar.TheVariants.{Int as OfKind}
use Rattle.byte_mem.specs.declared.values.Value.{Value}
use Rattle.byte_mem.specs.Memory.{Memory}
use Rattle.host_calls.specs.declared.names.HostName.{HostName}
use Rattle.host_calls.specs.declared.names.HostName.TheVariants.{Getchar}
use Rattle.host_calls.specs.declared.calls.Io.{Io}
use Rattle.host_calls.specs.Host.{HostState}

-- the bytes that were read and are not taken yet, and whether the source has given its end
pub record AheadState : Type 0 where
  pub unread : List ℕ
  pub ended : Bool

-- the same, the output that waits, and what the host keeps of malloc
pub record StreamsState : Type 0 where
  pub unread : List ℕ
  pub ended : Bool
  pub waiting : List ℕ
  pub live : ℕ
  pub heap : ℕ

-- what the two parts of streams hold
abbrev pub held_by : Io → AheadState → StreamsState
held_by io ahead = record { unread = ahead.unread; ended = ahead.ended; waiting = io.out; live = io.live; heap = io.heap }

-- at the start of a run
abbrev pub fresh : StreamsState
fresh = record { unread = []; ended = false; waiting = []; live = 0; heap = 0 }

-- what the host sees of a memory and of streams: it asks for input where it needs some
abbrev pub host_part : Memory → StreamsState → HostState
host_part m held = record { memory = m; ready = None; out = held.waiting; live = held.live; heap = held.heap }

-- no byte is at hand, and the source has not given its end
pub record IsUsedUp (held : StreamsState) : Type 0 where
  pub none : held.unread ≡ []
  pub more : held.ended ≡ false

-- a call asks the source for bytes: it is a getchar, with a result of kind int and no arguments (C11 7.21.7.6p1), and no byte is at hand
pub record Asks (name : HostName) (wanted : Option Scalar) (args : List (Scalar × Value)) (held : StreamsState) : Type 0 where
  pub getchar : name ≡ Getchar
  pub result : wanted ≡ Some (OfKind int)
  pub arguments : args ≡ []
  pub used_up : IsUsedUp held
