use Rattle.std.proofs.Common.{◌≡◌, ◌*◌, ◌-◌, replicate}
use Rattle.cil_printer.specs.Output.{put}
use Rattle.cil_printer.proofs.sink.Sink.push_indentation.Given as goal

abbrev pub invariant-loop-i : goal.invariant-loop-i
invariant-loop-i l = put l.self (replicate (2 * (l.depth - l._i)) 32) ≡ put l.fn.self (replicate (2 * l.depth) 32)
