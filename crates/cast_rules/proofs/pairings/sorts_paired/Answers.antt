use Rattle.cast_rules.proofs.pairings.sorts_paired.Goals as goal

pub returns-in-Number-clause-there : goal.returns-in-Number-clause-there
returns-in-Number-clause-there c nodes a b = c.paired_with_number.ensures.there nodes b
