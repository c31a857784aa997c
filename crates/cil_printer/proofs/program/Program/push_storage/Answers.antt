use Rattle.cil_tree.specs.View.{global_of}
use Rattle.cil_printer.specs.Seen.{tree_of}
use Rattle.cil_printer.proofs.GlobalTokens.{function_storage}
use Rattle.cil_printer.proofs.program.Program.push_storage.Goals as goal

pub returns-else-not-is_function : goal.returns-else-not-is_function
returns-else-not-is_function c =
    let p = tree_of c.args.self.now in
    function_storage c.args.out.now (global_of p.graph.nodes p.names c.args.x.now) c.if-x.false (rw c.is_function.ensures at c.if-not-is_function.false)
