-- More programs have the outcomes that they are to have, as syntax trees.
use Rattle.std.specs.Prelude.{◌≡◌, refl}
use Rattle.cil_base.specs.declared.kinds.Abi.TheVariants.{Lp64, Ilp32}
use Rattle.c_semantics.specs.Programs.{outcomes_by, outcomes_of}
use Rattle.c_semantics.specs.MorePrograms.{arrays_in_values, unasked_literals, samples}
use Rattle.c_semantics.specs.Text.{runs_with}

arrays_in_values_run : outcomes_by (runs_with Lp64) arrays_in_values ≡ outcomes_of arrays_in_values
unfolding runs_with
arrays_in_values_run = refl

arrays_in_values_of_four_run : outcomes_by (runs_with Ilp32) arrays_in_values ≡ outcomes_of arrays_in_values
unfolding runs_with
arrays_in_values_of_four_run = refl

unasked_literals_run : outcomes_by (runs_with Lp64) unasked_literals ≡ outcomes_of unasked_literals
unfolding runs_with
unasked_literals_run = refl

unasked_literals_of_four_run : outcomes_by (runs_with Ilp32) unasked_literals ≡ outcomes_of unasked_literals
unfolding runs_with
unasked_literals_of_four_run = refl

samples_run : outcomes_by (runs_with Lp64) samples ≡ outcomes_of samples
unfolding runs_with
samples_run = refl

samples_of_four_run : outcomes_by (runs_with Ilp32) samples ≡ outcomes_of samples
unfolding runs_with
samples_of_four_run = refl
