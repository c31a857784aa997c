use Rattle.std.proofs.Common.{◌≡◌, drop, map}
use Rattle.cil_tree.specs.View.{text_at, program_of}
use Rattle.cil_tree.specs.Names.{are_apart, file_names}
use Rattle.cil_check.proofs.names.are_apart_from_file.Given as goal

abbrev pub invariant-loop-i : goal.invariant-loop-i
invariant-loop-i l = are_apart (map (text_at l.names) (drop l.i l.ids)) (file_names (program_of l.names l.u)) ≡ are_apart (map (text_at l.names) l.ids) (file_names (program_of l.names l.u))
