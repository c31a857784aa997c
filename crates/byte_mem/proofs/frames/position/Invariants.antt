use Rattle.std.proofs.Common.{ℕ, ◌-◌, ◌<◌, ◌≤◌, length}
use Rattle.byte_mem.specs.Layers.{number_at}
use Rattle.byte_mem.proofs.frames.position.Given as goal

abbrev pub invariant-loop-low : goal.invariant-loop-low
invariant-loop-low l = record {
  ordered : l.low ≤ l.high;
  within : l.high ≤ length l.frames;
  below : (k : ℕ) → k < l.low → number_at l.frames k < l.activation;
  above : (k : ℕ) → l.high ≤ k → k < length l.frames → l.activation ≤ number_at l.frames k;
}

abbrev pub decreases-loop-low : goal.decreases-loop-low
decreases-loop-low l = l.high - l.low
