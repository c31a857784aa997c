use Rattle.cil_declarators.proofs.AddedLaws.{elements_added, called_added}
use Rattle.cil_declarators.proofs.declarators.add_wrapped.Goals as goal

pub returns-in-Elements-clause-adds : goal.returns-in-Elements-clause-adds
returns-in-Elements-clause-adds c = λ f ss adds.
    elements_added f c.args.graph.now c.add_node.new.self _ c.add_node.result c.unqualified.result c.args.inner c.args.suffix c.in-Elements.bound ss
    c.add_node.ensures.grows c.add_node.ensures.ok c.add_node.ensures.shape c.unqualified.ensures c.in-Elements.is adds

pub returns-in-Called-clause-adds : goal.returns-in-Called-clause-adds
returns-in-Called-clause-adds c = λ f ss adds.
    called_added f c.args.graph.now c.add_node-in-Called.new.self _ c.add_node-in-Called.result c.args.inner c.args.suffix c.in-Called.params c.new.result c.in-Called.proto c.in-Called.variadic ss
    c.add_node-in-Called.ensures.grows c.add_node-in-Called.ensures.ok c.add_node-in-Called.ensures.shape c.new.ensures c.in-Called.is adds
