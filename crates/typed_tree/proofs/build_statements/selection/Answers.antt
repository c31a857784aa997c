use Rattle.typed_tree.proofs.StatementsMade.{if_is}
use Rattle.typed_tree.proofs.build_statements.selection.Goals as goal

pub returns : goal.returns
returns c = if_is c.args.test c.args.holds c.args.fails
