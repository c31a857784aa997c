use Rattle.unit_types.proofs.constants.+has_constant_part.Given as goal

abbrev pub decreases-has_constant_part : goal.decreases-has_constant_part
decreases-has_constant_part l = l.t.0
