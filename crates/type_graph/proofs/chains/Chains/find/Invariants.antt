use Rattle.std.proofs.Common.{◌%◌, length}
use Rattle.type_graph.specs.Linked.{node_hash, IsAhead}
use Rattle.type_graph.proofs.chains.Chains.find.Given as goal

abbrev pub invariant-loop-end : goal.invariant-loop-end
invariant-loop-end l = IsAhead l.nodes (length l.self.ends.items) (node_hash l.n % length l.self.ends.items) l.n l.end

abbrev pub decreases-loop-end : goal.decreases-loop-end
decreases-loop-end l = l.end
