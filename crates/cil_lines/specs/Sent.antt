-- Definition: a sink was sent a text: it took a front of it, and the whole text where no call on it failed.
use Rattle.std.specs.Prelude.{ℕ, List, Option}
use Rattle.outside.specs.Counts.{Rose}
use Rattle.outside.specs.Moves.{Began, Wrote}

pub record Sent (old new : Option (List ℕ)) (before now : ℕ) (text : List ℕ) : Type 0 where
  pub began : Began old new text
  pub whole : ¬ (Rose before now) → Wrote old new text
