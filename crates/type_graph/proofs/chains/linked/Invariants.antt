use Rattle.std.proofs.Common.{◌≡◌, length}
use Rattle.type_graph.specs.Linked.{IsLinked}
use Rattle.type_graph.proofs.chains.linked.Given as goal

abbrev pub invariant-loop-t : goal.invariant-loop-t
invariant-loop-t l = IsLinked l.nodes l.before l.ends.items l.t × (length l.ends.items ≡ l.count) × (length l.before ≡ length l.fn.before)
