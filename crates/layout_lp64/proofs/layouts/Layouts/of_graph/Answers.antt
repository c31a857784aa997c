use Rattle.layout_lp64.proofs.UpdateLaws.{were_empty}
use Rattle.layout_lp64.proofs.layouts.Layouts.of_graph.Goals as goal

pub update-requires : goal.update-requires
update-requires c = were_empty c.new-layouts.result c.args.g.now c.new-layouts.ensures
