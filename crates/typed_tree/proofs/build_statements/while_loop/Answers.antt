use Rattle.typed_tree.proofs.StatementsMade.{while_is}
use Rattle.typed_tree.proofs.build_statements.while_loop.Goals as goal

pub returns : goal.returns
returns c = while_is c.args.test c.args.body
