use Rattle.std.proofs.Common.{sym, arith}
use Rattle.cil_printer.specs.Seen.{scope_in, nodes_in}
use Rattle.cil_printer.proofs.Calls.{no_arguments}
use Rattle.cil_printer.proofs.function.Function.push_arguments.Goals as goal

pub returns-in-empty : goal.returns-in-empty
returns-in-empty c = sym (no_arguments c.args.out.now (scope_in c.args.self.now) (nodes_in c.args.self.now) c.args.arguments.now (omega (arith, c.in-empty.len_below)))
