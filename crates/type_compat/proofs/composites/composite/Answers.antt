use Rattle.type_compat.proofs.composites.composite.Goals as goal

pub composed-requires-clause-pairs : goal.composed-requires-clause-pairs
composed-requires-clause-pairs c = c.new-answers.ensures c.args.g.now
