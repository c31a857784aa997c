use Rattle.type_graph.specs.Growth.{Grows}
use Rattle.cil_merge.specs.Numbering.{AreBegun}
use Rattle.cil_merge.proofs.arena.add_classes.Given as goal

abbrev pub invariant-loop-k : goal.invariant-loop-k
invariant-loop-k l = AreBegun l.units l.stands l.k l.graph.aggs × Grows l.fn.graph l.graph
