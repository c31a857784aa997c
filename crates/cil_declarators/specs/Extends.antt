-- Device: what reading leaves of a graph of types.
use Rattle.type_graph.specs.Arena.{Graph}
use Rattle.type_graph.specs.Growth.{Grows, KeepsAggregates}

-- it has grown, and its aggregates stay
pub record Extends (old new : Graph) : Type 0 where
  pub grows : Grows old new
  pub keeps : KeepsAggregates old new
