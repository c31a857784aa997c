use Rattle.std.proofs.Common.{refl}
use Rattle.layout_lp64.proofs.UpdateLaws.{empty_in_step}
use Rattle.layout_lp64.proofs.layouts.Layouts.new.Goals as goal

pub returns : goal.returns
returns c abi = empty_in_step _ abi c.new.ensures c.new-2.ensures c.new-3.ensures.items refl
