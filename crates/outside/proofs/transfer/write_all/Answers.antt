use Rattle.std.proofs.Common.{◌∙◌, arith}
use Rattle.outside.proofs.Fronts.{within_more, wrote_more, began_by}
use Rattle.outside.proofs.transfer.write_all.Goals as goal

pub returns-in_err-at-clause-began : goal.returns-in_err-at-clause-began
returns-in_err-at-clause-began g c = began_by _ _ _ c.loop-at.at (c.in_err-at.ensures.failed ∙ c.loop-at.invariant.wrote)

pub loop-at-preserved : goal.loop-at-preserved
loop-at-preserved g c = record {
  within = within_more c.args.bytes.now c.loop-at.at c.in_ok-at.field-0 c.loop-at.invariant.within c.in_ok-at.ensures.write.fits;
  wrote = wrote_more _ _ _ c.args.bytes.now c.loop-at.at c.in_ok-at.field-0 c.loop-at.invariant.wrote c.in_ok-at.ensures.write.after;
  calm = c.in_ok-at.ensures.count.stays ∙ c.loop-at.invariant.calm;
  idle = λ none. absurd (omega arith);
}
