use Rattle.cil_printer.specs.Seen.{tree_of}
use Rattle.cil_printer.proofs.NamedParameters.{parameters_pushed}
use Rattle.cil_printer.proofs.program.Program.push_some_parameters.Goals as goal

pub returns : goal.returns
returns c =
    parameters_pushed _ _ _ _ (tree_of c.args.self.now) c.args.first.ty c.args.types.now c.args.first.name c.args.names.now c.args.variadic c.push_declared.ensures c.push_following_parameters.ensures c.push_end.ensures
