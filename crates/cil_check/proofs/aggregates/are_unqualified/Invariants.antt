use Rattle.std.proofs.Common.{◌≡◌, drop}
use Rattle.std.specs.List.{list_all}
use Rattle.type_graph.specs.declared.aggregates.Member.{Member}
use Rattle.cil_tree.specs.WellFormedTypes.{is_unqualified}
use Rattle.cil_check.proofs.aggregates.are_unqualified.Given as goal

abbrev pub invariant-loop-i : goal.invariant-loop-i
invariant-loop-i l = list_all (λ (m : Member). is_unqualified m.ty.quals) (drop l.i l.members) ≡ list_all (λ (m : Member). is_unqualified m.ty.quals) l.members
