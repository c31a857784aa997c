use Rattle.type_graph.proofs.GrowthLaws.{grows_added, added_shape, new_shape}
use Rattle.type_graph.proofs.graph.TypeGraph.add_node.Goals as goal

pub returns-in-None-clause-grows : goal.returns-in-None-clause-grows
returns-in-None-clause-grows c = grows_added c.args.self.now c.append.new.self c.args.n c.append.result c.append.ensures.ok c.append.ensures.err

pub returns-in-Some-clause-shape : goal.returns-in-Some-clause-shape
returns-in-Some-clause-shape c = added_shape c.args.self.now c.args.n c.in-Some.t.0 c.find.ensures.arena c.requires.names c.in-Some.ensures.found

pub returns-in-None-clause-shape : goal.returns-in-None-clause-shape
returns-in-None-clause-shape c = new_shape c.args.self.now c.append.new.self c.args.n c.append.result c.requires.names c.append.ensures.ok
