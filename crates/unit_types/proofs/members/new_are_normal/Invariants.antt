use Rattle.std.proofs.Common.{◌≡◌, ℕ, ◌<◌, ◌≤◌, true, Some, slice_get}
use Rattle.type_graph.specs.declared.nodes.Node.{Node}
use Rattle.unit_types.specs.Normal.{normal_node}
use Rattle.unit_types.proofs.members.new_are_normal.Given as goal

abbrev pub invariant-loop-t : goal.invariant-loop-t
invariant-loop-t l = (k : ℕ) (n : Node) → l.first ≤ k → k < l.t → slice_get l.g.nodes k ≡ Some n → normal_node l.g.nodes n ≡ true
