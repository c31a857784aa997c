use Rattle.typed_tree.proofs.StatementsMade.{for_is}
use Rattle.typed_tree.proofs.build_statements.for_loop.Goals as goal

pub returns : goal.returns
returns c = for_is c.args.start c.args.test c.args.step c.args.body
