use Rattle.unit_types.proofs.types.Types.+qualified.Given as goal

abbrev pub decreases-qualified : goal.decreases-qualified
decreases-qualified l = l.t.0
