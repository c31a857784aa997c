use Rattle.std.proofs.Common.{◌≡◌, drop}
use Rattle.cil_tree.specs.WellFormedTypes.{enums_first}
use Rattle.cil_check.specs.Rules.{ordered}
use Rattle.cil_check.proofs.aggregates.enums_first.Given as goal

abbrev pub invariant-loop-a : goal.invariant-loop-a
invariant-loop-a l = ordered l.seen (drop l.a l.g.aggs) ≡ enums_first l.g.aggs
