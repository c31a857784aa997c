use Rattle.std.proofs.Common.{arith}
use Rattle.cil_printer.specs.Seen.{seen, tree_of}
use Rattle.cil_printer.proofs.ItemLists.{no_scalar}
use Rattle.cil_printer.proofs.program.Program.push_scalar_image.Goals as goal

pub returns-in-empty : goal.returns-in-empty
returns-in-empty c = let p = tree_of c.args.self.now in no_scalar c.args.out.now p (seen p.graph.nodes c.args.of) c.args.items.now (omega (arith, c.in-empty.len_below))
