-- A unit of the greatest height runs: 508 pairs of parentheses.
use Rattle.std.specs.Prelude.{◌≡◌, refl}
use Rattle.cil_base.specs.declared.kinds.Abi.TheVariants.{Lp64}
use Rattle.c_semantics.specs.Programs.{outcomes_by, outcomes_of}
use Rattle.c_semantics.specs.MorePrograms.{highest}
use Rattle.c_semantics.specs.Text.{runs_with}

highest_run : outcomes_by (runs_with Lp64) highest ≡ outcomes_of highest
unfolding runs_with
highest_run = refl
