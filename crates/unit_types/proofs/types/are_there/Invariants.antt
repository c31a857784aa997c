use Rattle.std.proofs.Common.{length, drop}
use Rattle.type_graph.specs.Arena.{EachType}
use Rattle.unit_types.proofs.types.are_there.Given as goal

abbrev pub invariant-loop-t : goal.invariant-loop-t
invariant-loop-t l = EachType (length l.g.nodes) (drop l.t-index l.types) → EachType (length l.g.nodes) l.types
