-- Definition: which words are a command (own).
use Rattle.std.specs.Prelude.{ℕ, ◌-◌, ◌^◌, Bool, true, false, not, ◌==◌, ◌&&◌, nat_lt, nat_le, List, [], ◌∷◌, length, drop, codes, decimal, Option, Some, None, slice_get, unwrap_or, if◌then◌else◌}
use Rattle.std.specs.List.{list_any, list_all}
use Rattle.std.specs.Option.{option_map, option_and_then, option_to_list}
use Rattle.std.specs.Str.{bytes_eq}
use Rattle.std.specs.Str.Parse.{digits_value}
use Rattle.cil_base.specs.Limits.{run_steps}
use Rattle.cil_words.specs.declared.command.Command.{Command}
use Rattle.cil_words.specs.declared.command.Command.TheVariants.{Merge, Run, Sample}

-- a word that an operating system can hand on: it has fewer than 2^31 - 1 bytes, and none of them is zero
abbrev pub is_word : List ℕ → Bool
is_word word = nat_lt (length word) (2 ^ 31 - 1) && not (list_any (λ b. b == 0) word)

-- words that an operating system can hand on: there are fewer than 2^28 - 1
abbrev pub are_words : List (List ℕ) → Bool
are_words words = nat_lt (length words) (2 ^ 28 - 1) && list_all is_word words

-- a word that names a file: it is not empty and does not begin with a hyphen
abbrev pub names_file : List ℕ → Bool
names_file [] = false
names_file (b ∷ bs) = not (b == 45)

-- the number from the least to the greatest that a word spells, in decimal digits of which the first is 0 only in zero itself
abbrev pub number_between : ℕ → ℕ → List ℕ → Option ℕ
number_between least most word =
    if (nat_le least (digits_value 10 word) && nat_le (digits_value 10 word) most) && bytes_eq word (decimal (digits_value 10 word))
    then Some (digits_value 10 word) else None

-- the bound on steps that a word spells
abbrev pub steps_of : List ℕ → Option ℕ
steps_of word = number_between 1 1000000000000 word

-- the seed of a sample, and the number of its units, that a word spells
abbrev pub seed_of : List ℕ → Option ℕ
seed_of word = number_between 0 2147483647 word

abbrev pub units_of : List ℕ → Option ℕ
units_of word = number_between 1 1000 word

-- 1 to 1,024 words that name files
abbrev pub are_files : List (List ℕ) → Bool
are_files words = (nat_le 1 (length words) && nat_le (length words) 1024) && list_all names_file words

-- behind `merge`: FILE..., or --common and the same
abbrev pub merge_of : List ℕ → List (List ℕ) → Option Command
merge_of word words =
    if bytes_eq word (codes "--common") then (if are_files words then Some (Merge true 2) else None) else (if are_files (word ∷ words) then Some (Merge false 1) else None)

-- behind `run --steps`: N FILE ARG..., of which the arguments are any words
abbrev pub run_bounded_of : List (List ℕ) → Option Command
run_bounded_of (steps ∷ file ∷ args) = if names_file file then option_map (λ bound. Run bound 3) (steps_of steps) else None
run_bounded_of _ = None

-- behind `run`: FILE ARG..., or --steps and the form above; where no bound is given it is 10,000,000
abbrev pub run_of : List ℕ → List (List ℕ) → Option Command
run_of word words = if bytes_eq word (codes "--steps") then run_bounded_of words else (if names_file word then Some (Run run_steps 1) else None)

-- behind `sample`: SEED UNITS
abbrev pub sample_by : Option ℕ → Option ℕ → Option Command
sample_by (Some seed) (Some units) = Some (Sample seed units)
sample_by _ _ = None

abbrev pub sample_of : List ℕ → List (List ℕ) → Option Command
sample_of seed (units ∷ []) = sample_by (seed_of seed) (units_of units)
sample_of _ _ = None

abbrev pub command_by_name : List ℕ → List ℕ → List (List ℕ) → Option Command
command_by_name name word words =
    if bytes_eq name (codes "merge") then merge_of word words else (if bytes_eq name (codes "run") then run_of word words else (if bytes_eq name (codes "sample") then sample_of word words else None))

abbrev pub command_in : List (List ℕ) → Option Command
command_in (name ∷ word ∷ words) = command_by_name name word words
command_in _ = None

-- the command that the words are
abbrev pub command_of : List (List ℕ) → Option Command
command_of words = if are_words words then command_in words else None

-- the position of the first file of a command that reads files
abbrev pub file_position : Command → Option ℕ
file_position (Merge common first) = Some first
file_position (Run steps file) = Some file
file_position (Sample seed units) = None

-- the position of the first file that is to be merged, and of the file that is to be run
abbrev pub merged_position : Command → Option ℕ
merged_position (Merge common first) = Some first
merged_position (Run steps file) = None
merged_position (Sample seed units) = None

abbrev pub run_position : Command → Option ℕ
run_position (Merge common first) = None
run_position (Run steps file) = Some file
run_position (Sample seed units) = None

-- the word that names the first file of the command, and the file to be run
abbrev pub file_of : List (List ℕ) → Option (List ℕ)
file_of words = option_and_then (slice_get words) (option_and_then file_position (command_of words))

abbrev pub run_file : List (List ℕ) → Option (List ℕ)
run_file words = option_and_then (slice_get words) (option_and_then run_position (command_of words))

-- the seed of a sample, and the number of its units
pub record SampleWords : Type 0 where
  pub seed : ℕ
  pub units : ℕ

-- the sample that the words ask for
abbrev pub sample_in : Command → Option SampleWords
sample_in (Merge common first) = None
sample_in (Run steps file) = None
sample_in (Sample seed units) = Some (record { seed = seed; units = units })

abbrev pub sample_asked : List (List ℕ) → Option SampleWords
sample_asked words = option_and_then sample_in (command_of words)

-- the words that name the files to be merged
abbrev pub merged_files : List (List ℕ) → List (List ℕ)
merged_files words = unwrap_or (option_map (λ at. drop at words) (option_and_then merged_position (command_of words))) []

-- the one of one
abbrev pub alone : List (List ℕ) → Option (List ℕ)
alone (name ∷ []) = Some name
alone _ = None

-- the file to be merged, where there is one alone
abbrev pub merged_file : List (List ℕ) → Option (List ℕ)
merged_file words = alone (merged_files words)

-- the files that the command reads
abbrev pub files_by : List (List ℕ) → Option Command → List (List ℕ)
files_by words None = []
files_by words (Some (Merge common first)) = drop first words
files_by words (Some (Run steps file)) = option_to_list (slice_get words file)
files_by words (Some (Sample seed units)) = []

abbrev pub files_of : List (List ℕ) → List (List ℕ)
files_of words = files_by words (command_of words)

-- whether tentative definitions of several units are one object in the merge that the words ask for
abbrev pub is_common : Command → Bool
is_common (Merge common first) = common
is_common (Run steps file) = false
is_common (Sample seed units) = false

-- the bound on the steps of the run that the words ask for; that of a sample's program is 10,000,000
abbrev pub bound_of : Command → ℕ
bound_of (Merge common first) = 0
bound_of (Run steps file) = steps
bound_of (Sample seed units) = run_steps

abbrev pub steps_asked : List (List ℕ) → ℕ
steps_asked words = unwrap_or (option_map bound_of (command_of words)) 0

-- the words that the program to be run is given: FILE, which names it, and those behind it (C11 5.1.2.2.1p2)
abbrev pub words_given : List (List ℕ) → List (List ℕ)
words_given words = unwrap_or (option_map (λ at. drop at words) (option_and_then run_position (command_of words))) []
