use Rattle.cil_tree.specs.View.{global_of, body_of, type_at}
use Rattle.cil_printer.specs.Seen.{tree_of}
use Rattle.cil_printer.proofs.DefinitionLines.{no_function}
use Rattle.cil_printer.proofs.program.Program.push_signature.Goals as goal

pub returns-in-None : goal.returns-in-None
returns-in-None c =
    let p = tree_of c.args.self.now in
    no_function c.args.out.now p (global_of p.graph.nodes p.names c.args.x.now) (body_of p.graph.nodes p.names c.args.body.now) (type_at p.graph.nodes c.args.x.now.ty) c.in-None.ensures
