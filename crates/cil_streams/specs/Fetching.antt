-- Device: the steps of a call that takes a byte of input, and of the writing of output that waits.
use Rattle.std.specs.Prelude.{◌≡◌, ℕ, ◌≤◌, ◌⊎◌, Bool, true, false, List, [], ◌∷◌, ◌++◌, length, Option, IfSome, Result, OnOk, OnErr, pos, negsuc}
use Rattle.byte_mem.specs.declared.values.Value as values
use Rattle.byte_mem.specs.declared.values.Value.TheVariants.{Int}
use Rattle.outside.specs.Moves.{Wrote, Began, WasRead}
use Rattle.execution.specs.Calls.{behind_first}
use Rattle.cil_streams.specs.declared.ends.HostEnd.{HostEnd}
use Rattle.cil_streams.specs.declared.ends.HostEnd.TheVariants.{Value, ReadFault, WriteFault}
use Rattle.cil_streams.specs.Held.{AheadState, StreamsState, IsUsedUp}
use Rattle.cil_streams.specs.HostAnswers.{Sends}

-- what getchar gives of the bytes that are left: the first, or -1 where there is none
abbrev pub character : List ℕ → values.Value
character [] = Int (negsuc 0)
character (b ∷ bytes) = Int (pos b)

-- whether a source has given its end, once it gave these bytes
abbrev pub ended_by : List ℕ → Bool
ended_by [] = true
ended_by (b ∷ bytes) = false

-- the end-of-file indicator behind a getchar that found these bytes left
abbrev pub ended_after : List ℕ → Bool → Bool
ended_after [] ended = true
ended_after (b ∷ bytes) ended = ended

-- a source gave at most 4,096 bytes, or nothing and so its end; or a read failed
pub record Fills {A E : Type 0} (result : Result A E) (ahead ahead' : AheadState) (left left' : Option (List ℕ)) : Type 0 where
  pub got : List ℕ
  pub read : WasRead left left' got
  pub few : length got ≤ 4096
  pub now : ahead'.unread ≡ got
  pub filled : OnOk result (ahead'.ended ≡ ended_by got)
  pub failed : OnErr result (ahead' ≡ ahead)
  pub finds : ahead'.ended ≡ true → OnOk result (IfSome left' (λ bytes. bytes ≡ []))

-- some of what waited was sent, and the rest still waits
pub record Spills {A E : Type 0} (result : Result A E) (waiting waiting' : List ℕ) (taken taken' : Option (List ℕ)) : Type 0 where
  pub sent : List ℕ
  pub split : waiting ≡ sent ++ waiting'
  pub began : Began taken taken' sent
  pub wrote : OnOk result (Wrote taken taken' sent)
  pub failed : OnErr result (waiting' ≡ [])

-- what a getchar made of the bytes at hand and those that were read
abbrev pub Gives : HostEnd → List ℕ → StreamsState → StreamsState → Type 0
Gives (Value v) bytes held held' = (v ≡ character bytes) × (held'.unread ≡ behind_first bytes) × (held'.ended ≡ ended_after bytes held.ended)
Gives ReadFault bytes held held' = (bytes ≡ []) × (held'.unread ≡ []) × (held'.waiting ≡ []) × (held'.ended ≡ false)
Gives WriteFault bytes held held' = held'.waiting ≡ []
Gives _ bytes held held' = ⊥

-- a source was asked where no byte was at hand, and gave at most 4,096 bytes or, where it gave none, its end
pub record WasAsked (held held' : StreamsState) (got : List ℕ) : Type 0 where
  pub used_up : IsUsedUp held
  pub few : length got ≤ 4096
  pub some : got ≡ [] → held'.ended ≡ true
  pub end : held'.ended ≡ true → got ≡ []

-- a getchar over a source and a sink
pub record Fetches (end : HostEnd) (held held' : StreamsState) (left left' taken taken' : Option (List ℕ)) : Type 0 where
  pub got : List ℕ
  pub sent : List ℕ
  pub read : WasRead left left' got
  pub sends : Sends end taken taken' sent
  pub split : held.waiting ≡ sent ++ held'.waiting
  pub asked : ((got ≡ []) × (held'.ended ≡ held.ended)) ⊎ WasAsked held held' got
  pub stays : held.ended ≡ true → (held'.ended ≡ true) × (got ≡ [])
  pub finds : held.ended ≡ false → held'.ended ≡ true → IfSome left' (λ bytes. bytes ≡ [])
  pub live : held'.live ≡ held.live
  pub heap : held'.heap ≡ held.heap
  pub gives : Gives end (held.unread ++ got) held held'
