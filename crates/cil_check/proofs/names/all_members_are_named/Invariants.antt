use Rattle.std.proofs.Common.{◌≡◌, drop}
use Rattle.std.specs.List.{list_all}
use Rattle.cil_tree.specs.View.{program_of}
use Rattle.cil_tree.specs.Names.{members_are_named}
use Rattle.cil_check.proofs.names.all_members_are_named.Given as goal

abbrev pub invariant-loop-a : goal.invariant-loop-a
invariant-loop-a l = list_all (members_are_named (program_of l.names l.u)) (drop l.a l.u.graph.aggs) ≡ list_all (members_are_named (program_of l.names l.u)) l.u.graph.aggs
