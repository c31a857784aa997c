use Rattle.type_partition.proofs.RefineLaws.{rank_distinct}
use Rattle.type_partition.proofs.refining.rank.Goals as goal

pub returns-clause-distinct : goal.returns-clause-distinct
returns-clause-distinct c = rank_distinct c.narrow.result c.args.seen.now.keys c.insert_full.new.self.keys c.args.n c.in_ok-index.ensures.keys c.requires.distinct
