use Rattle.std.proofs.Common.{◌++◌, sym, ap, ◌∙◌, append-nil}
use Rattle.type_joins.proofs.StepLaws.{zipped_past}
use Rattle.type_joins.proofs.joining.push_zipped.Goals as goal

pub returns-then-i-right : goal.returns-then-i-right
returns-then-i-right c = sym (append-nil c.loop-i.work.items) ∙ ap (λ z. c.loop-i.work.items ++ z) (sym (zipped_past c.args.left.now c.args.right.now c.loop-i.i c.if-i-right.true)) ∙ c.loop-i.invariant
