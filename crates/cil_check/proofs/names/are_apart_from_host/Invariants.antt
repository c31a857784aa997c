use Rattle.std.proofs.Common.{◌≡◌, drop, map}
use Rattle.cil_tree.specs.View.{text_at}
use Rattle.cil_tree.specs.Names.{are_apart, host_names}
use Rattle.cil_check.proofs.names.are_apart_from_host.Given as goal

abbrev pub invariant-loop-i : goal.invariant-loop-i
invariant-loop-i l = are_apart (map (text_at l.names) (drop l.i l.ids)) host_names ≡ are_apart (map (text_at l.names) l.ids) host_names
