use Rattle.std.proofs.Common.{◌≡◌, ◌++◌, drop}
use Rattle.map_graph.specs.Steps.{at_places}
use Rattle.map_graph.proofs.mapping.map_params.Given as goal

abbrev pub invariant-loop-p : goal.invariant-loop-p
invariant-loop-p l = l.mapped.items ++ at_places l.types (drop l.p-index l.params) ≡ at_places l.types l.params
