use Rattle.cil_tree.specs.View.{lval_of}
use Rattle.cil_printer.specs.Seen.{scope_in, nodes_in}
use Rattle.cil_printer.proofs.Calls.{zero_pushed}
use Rattle.cil_printer.proofs.function.Function.push_zero.Goals as goal

pub returns : goal.returns
returns c =
    zero_pushed _ _ _ _ _ _ (scope_in c.args.self.now) (lval_of (nodes_in c.args.self.now) c.args.place.now) c.token.ensures c.token-2.ensures c.push_address-t.ensures.text
    (rw c.push_address-t.ensures.points at c.push_zero_size.ensures) c.token-3.ensures
