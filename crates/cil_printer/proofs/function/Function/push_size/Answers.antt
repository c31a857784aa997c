use Rattle.std.proofs.Common.{sym, ◌∙◌}
use Rattle.cil_printer.specs.Seen.{seen, scope_in, nodes_in}
use Rattle.cil_printer.proofs.Calls.{no_size}
use Rattle.cil_printer.proofs.function.Function.push_size.Goals as goal

pub returns-in-None : goal.returns-in-None
returns-in-None c = sym (no_size c.args.out.now (scope_in c.args.self.now) (seen (nodes_in c.args.self.now) c.args.of) (sym c.in-None.is ∙ c.size.ensures))
