use Rattle.cil_declarators.proofs.AddedLaws.{node_added}
use Rattle.cil_declarators.proofs.bases.add_base.Goals as goal

pub returns-in-Void-clause-adds : goal.returns-in-Void-clause-adds
returns-in-Void-clause-adds c = node_added c.args.graph.now c.add_node.new.self _ c.add_node.result c.add_node.ensures.grows c.add_node.ensures.ok

pub returns-in-Int-clause-adds : goal.returns-in-Int-clause-adds
returns-in-Int-clause-adds c = node_added c.args.graph.now c.add_node-in-Int.new.self _ c.add_node-in-Int.result c.add_node-in-Int.ensures.grows c.add_node-in-Int.ensures.ok

pub returns-in-Agg-clause-adds : goal.returns-in-Agg-clause-adds
returns-in-Agg-clause-adds c = node_added c.args.graph.now c.add_node-in-Agg.new.self _ c.add_node-in-Agg.result c.add_node-in-Agg.ensures.grows c.add_node-in-Agg.ensures.ok
