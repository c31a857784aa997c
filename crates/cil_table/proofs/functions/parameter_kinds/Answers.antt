use Rattle.std.proofs.Common.{length}
use Rattle.cil_check.proofs.TypeSteps.{type_at}
use Rattle.cil_table.proofs.functions.parameter_kinds.Goals as goal

pub kind_at-requires-clause-there : goal.kind_at-requires-clause-there
kind_at-requires-clause-there c = type_at (length c.args.s.now.scope.unit.now.graph.nodes) c.args.params.now c.loop-i.i (record { 0 = 0 }) c.requires.there c.loop-i-test.true
