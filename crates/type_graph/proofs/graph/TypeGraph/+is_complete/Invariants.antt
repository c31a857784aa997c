use Rattle.type_graph.proofs.graph.TypeGraph.+is_complete.Given as goal

abbrev pub decreases-is_complete : goal.decreases-is_complete
decreases-is_complete l = l.t.0
