use Rattle.std.proofs.Common.{◌≡◌, ◌++◌, drop}
use Rattle.cil_check.specs.NameLists.{enumerator_ids}
use Rattle.cil_check.proofs.names.add_enumerators.Given as goal

abbrev pub invariant-loop-a : goal.invariant-loop-a
invariant-loop-a l = l.ids.items ++ enumerator_ids (drop l.a l.g.aggs) ≡ l.initial.ids.items ++ enumerator_ids l.g.aggs
