use Rattle.std.proofs.Common.{◌≡◌, length}
use Rattle.type_graph.specs.Arena.{EachType}
use Rattle.type_graph.specs.Growth.{Grows, KeepsAggregates}
use Rattle.map_graph.specs.Mapped.{number_in, Maps}
use Rattle.map_graph.specs.Steps.{IsMapping}
use Rattle.map_graph.proofs.mapping.map_graph.Given as goal

abbrev pub invariant-loop-t : goal.invariant-loop-t
invariant-loop-t l = IsMapping l.from l.fn.to l.to (number_in l.aggregates) l.keep_qualifiers l.types.items l.t
