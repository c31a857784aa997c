use Rattle.cil_declarators.proofs.AddedLaws.{pointer_added}
use Rattle.cil_declarators.proofs.declarators.add_pointer.Goals as goal

pub returns-clause-adds : goal.returns-clause-adds
returns-clause-adds c = λ f ss adds. pointer_added f c.args.graph.now c.add_node.new.self _ c.add_node.result c.unqualified.result c.args.to ss c.add_node.ensures.grows c.add_node.ensures.ok c.add_node.ensures.shape c.unqualified.ensures adds
