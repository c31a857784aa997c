use Rattle.std.proofs.Common.{map}
use Rattle.type_graph.specs.Growth.{Grows}
use Rattle.cil_merge.specs.Numbering.{AreOnWay}
use Rattle.cil_merge.proofs.arena.complete_classes.Given as goal

abbrev pub invariant-loop-k : goal.invariant-loop-k
invariant-loop-k l = AreOnWay l.units (map (λ v. v.items) l.types) l.stands l.k l.graph.aggs × Grows l.fn.graph l.graph
