use Rattle.typed_tree.proofs.StatementsMade.{block_is}
use Rattle.typed_tree.proofs.build_statements.compound.Goals as goal

pub returns : goal.returns
returns c = block_is c.args.items
