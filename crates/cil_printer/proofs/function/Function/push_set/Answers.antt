use Rattle.cil_tree.specs.View.{exp_of, lval_of}
use Rattle.cil_printer.specs.Seen.{scope_in, nodes_in}
use Rattle.cil_printer.proofs.Calls.{set_pushed}
use Rattle.cil_printer.proofs.function.Function.push_set.Goals as goal

pub returns : goal.returns
returns c =
    let n = nodes_in c.args.self.now in
    set_pushed _ _ _ (scope_in c.args.self.now) (lval_of n c.args.place.now) (exp_of n c.args.value.now) c.push_target.ensures c.push_expression.ensures.text
