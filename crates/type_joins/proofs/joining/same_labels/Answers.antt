use Rattle.type_joins.proofs.AgreeLaws.{labels_apart}
use Rattle.type_joins.proofs.joining.same_labels.Goals as goal

pub returns-then-ne-clause-apart : goal.returns-then-ne-clause-apart
returns-then-ne-clause-apart c = labels_apart c.args.left.now c.args.right.now c.loop-i.i _ _ c.ne.result c.loop-i-test.true c.if-ne.true c.ne.ensures
