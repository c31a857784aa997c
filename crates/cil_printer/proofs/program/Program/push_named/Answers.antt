use Rattle.cil_printer.proofs.Declarations.{no_prototype}
use Rattle.cil_printer.proofs.program.Program.push_named.Goals as goal

pub returns-then-not-proto : goal.returns-then-not-proto
returns-then-not-proto c = no_prototype _ c.args.proto c.args.variadic _ c.if-not-proto.true
