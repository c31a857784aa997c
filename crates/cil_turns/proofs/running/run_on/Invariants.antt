use Rattle.std.proofs.Common.{◌≡◌, ◌≤◌}
use Rattle.cil_turns.specs.Standing.{from_stand, burden}
use Rattle.cil_turns.specs.Moving.{Arrives}
use Rattle.cil_turns.proofs.running.run_on.Given as goal

abbrev pub invariant-loop-y : goal.invariant-loop-y
invariant-loop-y g l = record {
  arrives : Arrives l.table (from_stand l.table l.fn.run l.fn.start) l.fn.run l.run l.x (g.I.Source.left l.fn.input) (g.I.Source.left l.input) (g.O.Sink.taken l.fn.out) (g.O.Sink.taken l.out);
  less : l.run.left ≤ l.fn.run.left;
  reads : g.I.Source.faults l.input ≡ g.I.Source.faults l.fn.input;
  writes : g.O.Sink.faults l.out ≡ g.O.Sink.faults l.fn.out;
}

abbrev pub decreases-loop-y : goal.decreases-loop-y
decreases-loop-y g l = burden l.table l.run l.x
