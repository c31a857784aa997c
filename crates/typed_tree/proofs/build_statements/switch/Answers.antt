use Rattle.typed_tree.proofs.StatementsMade.{switch_is}
use Rattle.typed_tree.proofs.build_statements.switch.Goals as goal

pub returns : goal.returns
returns c = switch_is c.args.value c.args.body
