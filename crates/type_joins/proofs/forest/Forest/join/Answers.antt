use Rattle.type_joins.proofs.StepLaws.{put_forest, put_joined}
use Rattle.type_joins.proofs.forest.Forest.join.Goals as goal

pub returns-clause-forest : goal.returns-clause-forest
returns-clause-forest c = put_forest c.put.result c.args.self.now.parents.items c.put.new.table.items c.args.low c.args.high c.requires.forest c.requires.less c.requires.low c.requires.high c.put.ensures.within c.put.ensures.set

pub returns-clause-joined : goal.returns-clause-joined
returns-clause-joined c = put_joined c.put.result c.args.self.now.parents.items c.put.new.table.items c.args.low c.args.high c.requires.forest c.requires.less c.requires.low c.requires.high c.put.ensures.within c.put.ensures.set
