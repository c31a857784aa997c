use Rattle.typed_tree.proofs.StatementsMade.{do_is}
use Rattle.typed_tree.proofs.build_statements.do_loop.Goals as goal

pub returns : goal.returns
returns c = do_is c.args.body c.args.test
