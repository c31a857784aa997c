use Rattle.std.proofs.Common.{◌∙◌, sym, ap, Option}
use Rattle.std.specs.Option.{option_map}
use Rattle.cil_tree.specs.declared.expressions.Exp.{Exp}
use Rattle.cil_tree.specs.View.{exp_of}
use Rattle.cil_printer.specs.Output.{puts}
use Rattle.cil_printer.specs.Seen.{scope_in, nodes_in, returned_tokens}
use Rattle.cil_printer.proofs.Puts.{nothing_pushed}
use Rattle.cil_printer.proofs.function.Function.push_returned.Goals as goal

pub returns-in-None : goal.returns-in-None
returns-in-None c = nothing_pushed c.args.out.now ∙ ap (λ (v : Option Exp). puts c.args.out.now (returned_tokens (scope_in c.args.self.now) (option_map (exp_of (nodes_in c.args.self.now)) v))) (sym c.in-None.is)
