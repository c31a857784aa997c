use Rattle.std.proofs.Common.{drop}
use Rattle.cil_printer.specs.Seen.{seen, tree_of}
use Rattle.cil_printer.proofs.ImageTokens.{PathFrom}
use Rattle.cil_printer.proofs.program.Program.push_path.Given as goal

abbrev pub invariant-loop-i : goal.invariant-loop-i
invariant-loop-i l = PathFrom (tree_of l.self) l.out l.fn.out (drop l.i l.path) l.path (seen l.self.unit.now.graph.nodes l.t) (seen l.self.unit.now.graph.nodes l.fn.of)
