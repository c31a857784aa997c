-- Device: streams and a memory stand for a state in which all input is at hand and all output is kept.
use Rattle.std.specs.Prelude.{◌≡◌, ℕ, true, List, [], ◌++◌}
use Rattle.byte_mem.specs.Memory.{Memory}
use Rattle.execution.specs.States.{State}
use Rattle.cil_streams.specs.Held.{StreamsState}

-- `written` is what the sink has taken, and `tail` what the source has still to give
pub record Matches (s : State) (m : Memory) (held : StreamsState) (written tail : List ℕ) : Type 0 where
  pub memory : s.memory ≡ m
  pub input : s.input ≡ held.unread ++ tail
  pub at_end : s.at_end ≡ held.ended
  pub out : s.out ≡ written ++ held.waiting
  pub live : s.live ≡ held.live
  pub heap : s.heap ≡ held.heap
  pub no_more : held.ended ≡ true → tail ≡ []

-- streams and a memory stand for the second state, and no unit was spent and no activation begun since the first
pub record Leads (s t : State) (m : Memory) (held : StreamsState) (written tail : List ℕ) : Type 0 where
  pub left : t.left ≡ s.left
  pub next : t.next ≡ s.next
  pub matches : Matches t m held written tail
