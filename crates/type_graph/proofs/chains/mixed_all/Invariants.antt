use Rattle.std.proofs.Common.{◌≡◌, drop}
use Rattle.type_graph.specs.Linked.{mixed_all}
use Rattle.type_graph.proofs.chains.mixed_all.Given as goal

abbrev pub invariant-loop-t : goal.invariant-loop-t
invariant-loop-t l = mixed_all l.hash (drop l.t-index l.types) ≡ mixed_all l.start l.types
