use Rattle.std.proofs.Common.{ap}
use Rattle.cil_tree.specs.View.{body_of, definition_of}
use Rattle.cil_printer.specs.Seen.{tree_of}
use Rattle.cil_printer.proofs.program.Program.push_function.Goals as goal

pub push_definition-requires-clause-plain : goal.push_definition-requires-clause-plain
push_definition-requires-clause-plain c = let p = tree_of c.args.self.now in (c.requires.body (body_of p.graph.nodes p.names c.in-Body.body) (ap (definition_of p.graph.nodes p.names) c.in-Body.is)).names

pub push_definition-requires-clause-params : goal.push_definition-requires-clause-params
push_definition-requires-clause-params c = let p = tree_of c.args.self.now in (c.requires.body (body_of p.graph.nodes p.names c.in-Body.body) (ap (definition_of p.graph.nodes p.names) c.in-Body.is)).params

pub push_definition-requires-clause-typed : goal.push_definition-requires-clause-typed
push_definition-requires-clause-typed c = let p = tree_of c.args.self.now in (c.requires.body (body_of p.graph.nodes p.names c.in-Body.body) (ap (definition_of p.graph.nodes p.names) c.in-Body.is)).typed
