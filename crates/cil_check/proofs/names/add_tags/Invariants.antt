use Rattle.std.proofs.Common.{◌≡◌, ◌++◌, drop}
use Rattle.cil_check.specs.NameLists.{tag_ids}
use Rattle.cil_check.proofs.names.add_tags.Given as goal

abbrev pub invariant-loop-a : goal.invariant-loop-a
invariant-loop-a l = l.ids.items ++ tag_ids (drop l.a l.g.aggs) ≡ l.initial.ids.items ++ tag_ids l.g.aggs
