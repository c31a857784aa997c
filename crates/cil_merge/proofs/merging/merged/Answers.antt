use Rattle.cil_merge.proofs.merging.merged.Goals as goal

pub returns-clause-merged : goal.returns-clause-merged
returns-clause-merged c = record { renamed = c.rename.new.units.items; names = c.in_ok-rename.ensures.renamed; joined = c.in_ok-joined.ensures.joined }
