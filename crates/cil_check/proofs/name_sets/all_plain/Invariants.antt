use Rattle.std.proofs.Common.{◌≡◌, drop, map}
use Rattle.std.specs.List.{list_all}
use Rattle.cil_tree.specs.View.{text_at}
use Rattle.cil_tree.specs.Names.{is_plain_name}
use Rattle.cil_check.proofs.name_sets.all_plain.Given as goal

abbrev pub invariant-loop-i : goal.invariant-loop-i
invariant-loop-i l = list_all is_plain_name (map (text_at l.names) (drop l.i l.ids)) ≡ list_all is_plain_name (map (text_at l.names) l.ids)
