use Rattle.unit_types.specs.Known.{NoneBefore}
use Rattle.unit_types.proofs.constants.are_constant.Given as goal

abbrev pub invariant-loop-m : goal.invariant-loop-m
invariant-loop-m l = NoneBefore l.g l.members l.m-index
