use Rattle.cil_base.specs.declared.kinds.Abi.TheVariants.{Lp64}
use Rattle.cil_runner.proofs.Loads.{all_units, are_alike}
use Rattle.linked_tests.proofs.linked.run_units.Goals as goal

pub run_cil-requires-clause-units : goal.run_cil-requires-clause-units
run_cil-requires-clause-units c = all_units c.args.names.now c.args.units.now (c.in_ok-all_check.ensures c.if-not-branch.false)

pub run_cil-requires-clause-model : goal.run_cil-requires-clause-model
run_cil-requires-clause-model c = are_alike c.args.names.now c.args.units.now Lp64 (c.all_alike.ensures c.if-not-all_alike.false)
