-- Definition: a count of faults or of strays never falls, and stays at 2^64 - 1 once it is there.
use Rattle.std.specs.Prelude.{◌≡◌, ℕ, ◌+◌, ◌-◌, ◌^◌, ◌<◌, ◌≤◌, min, Result, OnOk, OnErr}

-- one more, up to the last number
abbrev pub next_number : ℕ → ℕ
next_number n = min (n + 1) (2 ^ 64 - 1)

-- the count is greater now, or it stood at its last number before
abbrev pub Rose : ℕ → ℕ → Type 0
Rose before now = before < 2 ^ 64 - 1 → before < now

-- a count that a machine word holds still fits one
abbrev pub KeepsLimit : ℕ → ℕ → Type 0
KeepsLimit before now = before < 2 ^ 64 → now < 2 ^ 64

-- a count of faults over one call: it rises exactly where the call fails
pub record Counts {T E : Type 0} (before now : ℕ) (result : Result T E) : Type 0 where
  pub later : before ≤ now
  pub stays : OnOk result (now ≡ before)
  pub rises : OnErr result (Rose before now)
