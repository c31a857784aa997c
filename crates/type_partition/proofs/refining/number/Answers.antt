use Rattle.type_partition.proofs.RefineLaws.{number_distinct}
use Rattle.type_partition.proofs.refining.number.Goals as goal

pub returns-clause-distinct : goal.returns-clause-distinct
returns-clause-distinct c = number_distinct c.narrow.result c.args.keys.now.keys c.insert_full.new.self.keys c.args.key c.in_ok-index.ensures.keys c.requires.distinct
