use Rattle.cil_merge.proofs.MergingLaws.{merged_is}
use Rattle.cil_merge.proofs.merging.merge.Goals as goal

pub returns-clause-merged : goal.returns-clause-merged
returns-clause-merged c =
    merged_is c.args.names.now c.merged.new.names c.args.mode.common c.args.units.items c.deref.result.now c.deref-2.result.now c.in_ok-links.links c.in_ok-classes.classes c.in_ok-merged.field-0
    c.deref.ensures.value c.deref-2.ensures.value c.in_ok-links.ensures.links c.in_ok-classes.ensures.classes c.in_ok-merged.ensures.merged
