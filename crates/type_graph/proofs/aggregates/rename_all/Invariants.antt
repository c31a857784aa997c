use Rattle.std.proofs.Common.{◌≡◌, ◌++◌, length, take, drop}
use Rattle.type_graph.specs.Renaming.{renamed_members}
use Rattle.type_graph.proofs.aggregates.rename_all.Given as goal

abbrev pub invariant-loop-i : goal.invariant-loop-i
invariant-loop-i l = (length l.members ≡ length l.names) × (renamed_members l.fn.members l.names ≡ take l.i l.members ++ renamed_members (drop l.i l.members) (drop l.i l.names))
