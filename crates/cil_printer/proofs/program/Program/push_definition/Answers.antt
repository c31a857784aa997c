use Rattle.std.proofs.Common.{ap, length}
use Rattle.cil_tree.specs.View.{global_of, body_of}
use Rattle.cil_printer.specs.Seen.{tree_of}
use Rattle.cil_printer.proofs.DefinitionLines.{definition_printed, params_length}
use Rattle.cil_printer.proofs.program.Program.push_definition.Goals as goal

pub returns : goal.returns
returns c =
    let p = tree_of c.args.self.now in
    definition_printed _ _ _ _ _ p (global_of p.graph.nodes p.names c.args.x.now) (body_of p.graph.nodes p.names c.args.body.now) _ c.requires.plain c.requires.named c.requires.params (params_length p.names c.args.body.now.params.items _ (ap length c.deref-3.ensures.value))
    c.push_definition_head.ensures (rw c.deref.ensures.value at c.push_locals.ensures) (rw (c.deref.ensures.value, c.deref-2.ensures.value, c.deref-4.ensures.value) at c.push_statements.ensures) c.push_close.ensures
