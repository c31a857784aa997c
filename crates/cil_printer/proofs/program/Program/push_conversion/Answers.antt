use Rattle.std.proofs.Common.{◌∙◌, sym, ap}
use Rattle.cil_tree.specs.Text.{cast_tokens}
use Rattle.cil_printer.specs.Output.{puts}
use Rattle.cil_printer.specs.Seen.{tree_of}
use Rattle.cil_printer.proofs.Puts.{nothing_pushed}
use Rattle.cil_printer.proofs.program.Program.push_conversion.Goals as goal

pub returns-in-None : goal.returns-in-None
returns-in-None c = nothing_pushed c.args.out.now ∙ ap (λ s. puts c.args.out.now (cast_tokens (tree_of c.args.self.now) s)) (sym c.in-None.ensures)
