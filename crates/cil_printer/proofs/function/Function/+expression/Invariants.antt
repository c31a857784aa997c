use Rattle.std.proofs.Common.{drop}
use Rattle.cil_printer.specs.Seen.{seen, scope_in, nodes_in}
use Rattle.cil_printer.proofs.Values.{StepsFrom}
use Rattle.cil_printer.proofs.function.Function.+expression.Given as goal

abbrev pub invariant-push_offsets-loop-i : goal.invariant-push_offsets-loop-i
invariant-push_offsets-loop-i l = StepsFrom (scope_in l.self) (nodes_in l.self) l.out l.fn.out (drop l.i l.offsets) l.offsets (seen (nodes_in l.self) l.t) (seen (nodes_in l.self) l.fn.of)
