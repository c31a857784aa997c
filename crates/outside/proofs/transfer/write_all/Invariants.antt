use Rattle.std.proofs.Common.{length, ◌-◌, ◌≡◌, ◌≤◌, take}
use Rattle.outside.specs.Moves.{Wrote}
use Rattle.outside.proofs.transfer.write_all.Given as goal

abbrev pub invariant-loop-at : goal.invariant-loop-at
invariant-loop-at g l = record {
  within : l.at ≤ length l.bytes;
  wrote : Wrote (g.O.Sink.taken l.fn.out) (g.O.Sink.taken l.out) (take l.at l.bytes);
  calm : g.O.Sink.faults l.out ≡ g.O.Sink.faults l.fn.out;
  idle : length l.bytes ≡ 0 → l.out ≡ l.fn.out;
}

abbrev pub decreases-loop-at : goal.decreases-loop-at
decreases-loop-at g l = length l.bytes - l.at
