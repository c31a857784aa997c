use Rattle.std.proofs.Common.{rules, FitsSigned}
use Rattle.std.specs.Int.{w128}
use Rattle.std.proofs.lemmas.Int.{to_z-of_z}
use Rattle.cil_printer.specs.Seen.{scope_in}
use Rattle.cil_printer.proofs.StatementLines.{case_printed}
use Rattle.cil_printer.proofs.function.Function.push_case.Goals as goal

pub returns : goal.returns
returns c =
    let fits : FitsSigned w128 c.args.v = search rules in
    case_printed _ _ _ _ _ _ c.args.depth (scope_in c.args.self.now) c.args.kind c.args.v c.indent.ensures c.token.ensures (rw (to_z-of_z w128 c.args.v fits) at c.push_number.ensures) c.token-2.ensures c.end.ensures
