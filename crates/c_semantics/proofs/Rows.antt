-- Programs have the outcomes that they are to have, as syntax trees.
use Rattle.std.specs.Prelude.{◌≡◌, refl, true}
use Rattle.cil_base.specs.declared.kinds.Abi.TheVariants.{Lp64, Ilp32}
use Rattle.c_semantics.specs.Programs.{first_programs, turns, names_and_ends, expressions, literals_and_statics, jumps, switches, pointers_and_calls, unions_and_bytes, conversions, blocks, initialisers_and_bounds, linked_units, environments, common_definitions, where_eight, where_four, models, models_of_words, outcomes_by, outcomes_of}
use Rattle.c_semantics.specs.Text.{runs_in, runs_with}

first_programs_run : outcomes_by (runs_with Lp64) first_programs ≡ outcomes_of first_programs
unfolding runs_with
first_programs_run = refl

turns_run : outcomes_by (runs_with Lp64) turns ≡ outcomes_of turns
unfolding runs_with
turns_run = refl

names_and_ends_run : outcomes_by (runs_with Lp64) names_and_ends ≡ outcomes_of names_and_ends
unfolding runs_with
names_and_ends_run = refl

expressions_run : outcomes_by (runs_with Lp64) expressions ≡ outcomes_of expressions
unfolding runs_with
expressions_run = refl

literals_and_statics_run : outcomes_by (runs_with Lp64) literals_and_statics ≡ outcomes_of literals_and_statics
unfolding runs_with
literals_and_statics_run = refl

jumps_run : outcomes_by (runs_with Lp64) jumps ≡ outcomes_of jumps
unfolding runs_with
jumps_run = refl

switches_run : outcomes_by (runs_with Lp64) switches ≡ outcomes_of switches
unfolding runs_with
switches_run = refl

pointers_and_calls_run : outcomes_by (runs_with Lp64) pointers_and_calls ≡ outcomes_of pointers_and_calls
unfolding runs_with
pointers_and_calls_run = refl

unions_and_bytes_run : outcomes_by (runs_with Lp64) unions_and_bytes ≡ outcomes_of unions_and_bytes
unfolding runs_with
unions_and_bytes_run = refl

conversions_run : outcomes_by (runs_with Lp64) conversions ≡ outcomes_of conversions
unfolding runs_with
conversions_run = refl

blocks_run : outcomes_by (runs_with Lp64) blocks ≡ outcomes_of blocks
unfolding runs_with
blocks_run = refl

initialisers_and_bounds_run : outcomes_by (runs_with Lp64) initialisers_and_bounds ≡ outcomes_of initialisers_and_bounds
unfolding runs_with
initialisers_and_bounds_run = refl

linked_units_run : outcomes_by (runs_with Lp64) linked_units ≡ outcomes_of linked_units
unfolding runs_with
linked_units_run = refl

environments_run : outcomes_by (runs_with Lp64) environments ≡ outcomes_of environments
unfolding runs_with
environments_run = refl

common_definitions_run : outcomes_by (runs_in (record { common = true; abi = Lp64 })) common_definitions ≡ outcomes_of common_definitions
unfolding runs_in
common_definitions_run = refl

models_of_eight_run : outcomes_by (runs_with Lp64) (where_eight models) ≡ outcomes_of (where_eight models)
unfolding runs_with
models_of_eight_run = refl

models_of_four_run : outcomes_by (runs_with Ilp32) (where_four models) ≡ outcomes_of (where_four models)
unfolding runs_with
models_of_four_run = refl

words_of_eight_run : outcomes_by (runs_with Lp64) (where_eight models_of_words) ≡ outcomes_of (where_eight models_of_words)
unfolding runs_with
words_of_eight_run = refl

words_of_four_run : outcomes_by (runs_with Ilp32) (where_four models_of_words) ≡ outcomes_of (where_four models_of_words)
unfolding runs_with
words_of_four_run = refl

-- what the data model does not decide
first_of_four_run : outcomes_by (runs_with Ilp32) first_programs ≡ outcomes_of first_programs
unfolding runs_with
first_of_four_run = refl

expressions_of_four_run : outcomes_by (runs_with Ilp32) expressions ≡ outcomes_of expressions
unfolding runs_with
expressions_of_four_run = refl

literals_of_four_run : outcomes_by (runs_with Ilp32) literals_and_statics ≡ outcomes_of literals_and_statics
unfolding runs_with
literals_of_four_run = refl

jumps_of_four_run : outcomes_by (runs_with Ilp32) jumps ≡ outcomes_of jumps
unfolding runs_with
jumps_of_four_run = refl

switches_of_four_run : outcomes_by (runs_with Ilp32) switches ≡ outcomes_of switches
unfolding runs_with
switches_of_four_run = refl

unions_of_four_run : outcomes_by (runs_with Ilp32) unions_and_bytes ≡ outcomes_of unions_and_bytes
unfolding runs_with
unions_of_four_run = refl

blocks_of_four_run : outcomes_by (runs_with Ilp32) blocks ≡ outcomes_of blocks
unfolding runs_with
blocks_of_four_run = refl

initialisers_of_four_run : outcomes_by (runs_with Ilp32) initialisers_and_bounds ≡ outcomes_of initialisers_and_bounds
unfolding runs_with
initialisers_of_four_run = refl

turns_of_four_run : outcomes_by (runs_with Ilp32) turns ≡ outcomes_of turns
unfolding runs_with
turns_of_four_run = refl

names_of_four_run : outcomes_by (runs_with Ilp32) names_and_ends ≡ outcomes_of names_and_ends
unfolding runs_with
names_of_four_run = refl

pointers_of_four_run : outcomes_by (runs_with Ilp32) pointers_and_calls ≡ outcomes_of pointers_and_calls
unfolding runs_with
pointers_of_four_run = refl

conversions_of_four_run : outcomes_by (runs_with Ilp32) conversions ≡ outcomes_of conversions
unfolding runs_with
conversions_of_four_run = refl

units_of_four_run : outcomes_by (runs_with Ilp32) linked_units ≡ outcomes_of linked_units
unfolding runs_with
units_of_four_run = refl

environments_of_four_run : outcomes_by (runs_with Ilp32) environments ≡ outcomes_of environments
unfolding runs_with
environments_of_four_run = refl

common_of_four_run : outcomes_by (runs_in (record { common = true; abi = Ilp32 })) common_definitions ≡ outcomes_of common_definitions
unfolding runs_in
common_of_four_run = refl
