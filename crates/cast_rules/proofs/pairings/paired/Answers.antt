use Rattle.cast_rules.proofs.pairings.paired.Goals as goal

pub returns-clause-there : goal.returns-clause-there
returns-clause-there c = c.sorts_paired.ensures.there c.args.t.now.nodes c.operand_sort.ensures.there c.operand_sort-2.ensures.there
