use Rattle.layout_lp64.proofs.TableLaws.{enum_is}
use Rattle.layout_lp64.proofs.layouts.Layouts.enumerated.Goals as goal

pub returns : goal.returns
returns c = enum_is c.size-size.result c.in_ok-offsets.offsets.items c.args.members.now c.size-size.ensures (c.in_ok-offsets.ensures.items_if_clones_equal (λ y e. e))
