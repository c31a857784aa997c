-- Where a command's file stands among the words.
use Rattle.std.proofs.Common.{◌≡◌, ◌≢◌, ℕ, suc, ◌+◌, ◌<◌, Bool, true, false, List, [], ◌∷◌, append-nil, String, map, length, drop, get_or, codes, Option, Some, None, IsSome, IfSome, unwrap_or, slice_get, refl, ap, sym, subst, ◌∙◌, arith}
use Rattle.std.proofs.lemmas.List.{length-map, drop-map, drop_more, drop_all, length-drop}
use Rattle.std.specs.Prelude.{if◌then◌else◌}
use Rattle.std.specs.Global.{Global}
use Rattle.std.specs.Option.{option_map, option_and_then, option_to_list}
use Rattle.std.specs.Str.{bytes_eq}
use Rattle.std.specs.String.{string_bytes}
use Rattle.std.proofs.lemmas.Option.{slice_get-map, slice_get-get_or}
use Rattle.outside.specs.Named.{Told}
use Rattle.cil_words.specs.Command.{command_of, command_in, merge_of, are_files, merged_files, files_of, files_by, alone, run_of, run_bounded_of, sample_of, sample_by, seed_of, units_of, steps_of, are_words, names_file, file_position, merged_position, run_position, bound_of, is_common, file_of, run_file, steps_asked, words_given}
use Rattle.cil_commands.specs.Execute.{RunSays}
use Rattle.cil_sources.specs.Files.{bytes_under, found_all, all_under}
use Rattle.outside.specs.Named.{find_file}
use Rattle.cil_commands.specs.Merge.{unit_asked, file_under, IsRefused, IfRefused}
use Rattle.cil_lines.specs.Messages.{HasFiles}
use Rattle.cil_commands.specs.Messages.{names_asked, Begins, AreNames}
use Rattle.cil_commands.specs.Several.{common_asked}
use Rattle.cil_words.specs.declared.command.Command.{Command}
use Rattle.cil_words.specs.declared.command.Command.TheVariants.{Merge, Run, Sample}
use Rattle.cil_lines.specs.declared.status.Status.{Status}

-- the command's file is one of so many words
Within : ℕ → Option Command → Type 0
Within count None = Unit {0}
Within count (Some (Merge common first)) = first < count
Within count (Some (Run steps file)) = file < count
Within count (Some (Sample seed units)) = Unit {0}

within_if : (count : ℕ) (test : Bool) (a b : Option Command) → Within count a → Within count b → Within count (if test then a else b)
within_if count true a b first second = first
within_if count false a b first second = second

within_merge : (word : List ℕ) (rest : List (List ℕ)) → Within (suc (suc (length rest))) (merge_of word rest)
unfolding Within
within_merge word rest =
    within_if (suc (suc (length rest))) (bytes_eq word (codes "--common")) (if are_files rest then Some (Merge true 2) else None) (if are_files (word ∷ rest) then Some (Merge false 1) else None)
    (common rest) (within_if (suc (suc (length rest))) (are_files (word ∷ rest)) (Some (Merge false 1)) None (omega arith) tt)
  where
    common : (files : List (List ℕ)) → Within (suc (suc (length files))) (if are_files files then Some (Merge true 2) else None)
    common [] = tt
    common (file ∷ files) = within_if (suc (suc (length (file ∷ files)))) (are_files (file ∷ files)) (Some (Merge true 2)) None (omega arith) tt

within_map : (count : ℕ) (bound : Option ℕ) → 3 < count → Within count (option_map (λ steps. Run steps 3) bound)
unfolding Within
within_map count None below = tt
within_map count (Some steps) below = below

within_bounded : (rest : List (List ℕ)) → Within (suc (suc (length rest))) (run_bounded_of rest)
unfolding Within
within_bounded [] = tt
within_bounded (steps ∷ []) = tt
within_bounded (steps ∷ file ∷ args) =
    within_if (suc (suc (length (steps ∷ file ∷ args)))) (names_file file) (option_map (λ bound. Run bound 3) (steps_of steps)) None (within_map (suc (suc (length (steps ∷ file ∷ args)))) (steps_of steps) (omega arith)) tt

within_run : (word : List ℕ) (rest : List (List ℕ)) → Within (suc (suc (length rest))) (run_of word rest)
unfolding Within
within_run word rest =
    within_if (suc (suc (length rest))) (bytes_eq word (codes "--steps")) (run_bounded_of rest) (if names_file word then Some (Run 10000000 1) else None)
    (within_bounded rest) (within_if (suc (suc (length rest))) (names_file word) (Some (Run 10000000 1)) None (omega arith) tt)

within_by : (count : ℕ) (seed units : Option ℕ) → Within count (sample_by seed units)
unfolding Within
within_by count None units = tt
within_by count (Some seed) None = tt
within_by count (Some seed) (Some units) = tt

within_sample : (word : List ℕ) (rest : List (List ℕ)) → Within (suc (suc (length rest))) (sample_of word rest)
unfolding Within
within_sample word [] = tt
within_sample word (units ∷ []) = within_by 3 (seed_of word) (units_of units)
within_sample word (units ∷ more ∷ rest) = tt

within_in : (words : List (List ℕ)) → Within (length words) (command_in words)
unfolding Within
within_in [] = tt
within_in (name ∷ []) = tt
within_in (name ∷ word ∷ words) =
    within_if (suc (suc (length words))) (bytes_eq name (codes "merge")) (merge_of word words) (if bytes_eq name (codes "run") then run_of word words else (if bytes_eq name (codes "sample") then sample_of word words else None))
    (within_merge word words)
    (within_if (suc (suc (length words))) (bytes_eq name (codes "run")) (run_of word words) (if bytes_eq name (codes "sample") then sample_of word words else None)
    (within_run word words)
    (within_if (suc (suc (length words))) (bytes_eq name (codes "sample")) (sample_of word words) None (within_sample word words) tt))

within : (words : List (List ℕ)) → Within (length words) (command_of words)
unfolding Within
within words = within_if (length words) (are_words words) (command_in words) None (within_in words) tt

merge_position : (words : List (List ℕ)) (common : Bool) (first : ℕ) → command_of words ≡ Some (Merge common first) → first < length words
unfolding Within
merge_position words common first is = subst (Within (length words)) is (within words)

run_position_within : (words : List (List ℕ)) (steps file : ℕ) → command_of words ≡ Some (Run steps file) → file < length words
unfolding Within
run_position_within words steps file is = subst (Within (length words)) is (within words)

pub merge_within : (words : List (String Global)) (common : Bool) (first : ℕ) → command_of (map string_bytes words) ≡ Some (Merge common first) → first < length words
merge_within words common first is = omega (arith, merge_position (map string_bytes words) common first is, length-map words string_bytes)

pub run_within : (words : List (String Global)) (steps file : ℕ) → command_of (map string_bytes words) ≡ Some (Run steps file) → file < length words
run_within words steps file is = omega (arith, run_position_within (map string_bytes words) steps file is, length-map words string_bytes)

-- a word's text, found among the texts
word_at : (words : List (String Global)) (i : ℕ) (d : String Global) → i < length words → slice_get (map string_bytes words) i ≡ Some (string_bytes (get_or words i d))
word_at words i d below = slice_get-map string_bytes words i ∙ ap (option_map string_bytes) (slice_get-get_or words i d below)

-- what the words ask for, by the command that they are
merged_files_are : (words : List (String Global)) (common : Bool) (first : ℕ) → command_of (map string_bytes words) ≡ Some (Merge common first) → merged_files (map string_bytes words) ≡ drop first (map string_bytes words)
merged_files_are words common first is = ap (λ command. unwrap_or (option_map (λ at. drop at (map string_bytes words)) (option_and_then merged_position command)) []) is

pub merge_files_are : (words : List (String Global)) (common : Bool) (first : ℕ) → command_of (map string_bytes words) ≡ Some (Merge common first) → files_of (map string_bytes words) ≡ map string_bytes (drop first words)
merge_files_are words common first is = ap (files_by (map string_bytes words)) is ∙ drop-map string_bytes first words

-- the last of words alone
last_alone : (words : List (String Global)) (first : ℕ) (d : String Global) → first + 1 ≡ length words → drop first words ≡ get_or words first d ∷ []
last_alone words first d last =
    drop_more words first d (omega (arith, last)) ∙ ap (λ rest. get_or words first d ∷ rest) (drop_all (first + 1) words (omega (arith, last)))

pub merge_file_alone : (words : List (String Global)) (common : Bool) (first : ℕ) (d : String Global) → command_of (map string_bytes words) ≡ Some (Merge common first) → first + 1 ≡ length words
    → files_of (map string_bytes words) ≡ string_bytes (get_or words first d) ∷ []
merge_file_alone words common first d is last = merge_files_are words common first is ∙ ap (map string_bytes) (last_alone words first d last)

pub unit_asked_is : (told : Option Told) (words : List (String Global)) (common : Bool) (first : ℕ) (d : String Global) → command_of (map string_bytes words) ≡ Some (Merge common first) → first + 1 ≡ length words
    → unit_asked told (map string_bytes words) ≡ file_under told (string_bytes (get_or words first d))
unit_asked_is told words common first d is last =
    ap (λ names. option_and_then (file_under told) (alone names)) (merged_files_are words common first is ∙ (drop-map string_bytes first words ∙ ap (map string_bytes) (last_alone words first d last)))

pub merged_several : (words : List (String Global)) (common : Bool) (first : ℕ) → command_of (map string_bytes words) ≡ Some (Merge common first) → merged_files (map string_bytes words) ≡ map string_bytes (drop first words)
merged_several words common first is = merged_files_are words common first is ∙ drop-map string_bytes first words

pub merged_alone : (words : List (String Global)) (common : Bool) (first : ℕ) (d : String Global) → command_of (map string_bytes words) ≡ Some (Merge common first) → first + 1 ≡ length words
    → merged_files (map string_bytes words) ≡ string_bytes (get_or words first d) ∷ []
merged_alone words common first d is last = merged_several words common first is ∙ ap (map string_bytes) (last_alone words first d last)

-- no other command merges files
pub merged_by_run : (words : List (List ℕ)) (steps file : ℕ) → command_of words ≡ Some (Run steps file) → merged_files words ≡ []
merged_by_run words steps file is = ap (λ command. unwrap_or (option_map (λ at. drop at words) (option_and_then merged_position command)) []) is

pub merged_by_sample : (words : List (List ℕ)) (seed units : ℕ) → command_of words ≡ Some (Sample seed units) → merged_files words ≡ []
merged_by_sample words seed units is = ap (λ command. unwrap_or (option_map (λ at. drop at words) (option_and_then merged_position command)) []) is

pub merged_by_none : (words : List (List ℕ)) → command_of words ≡ None → merged_files words ≡ []
merged_by_none words is = ap (λ command. unwrap_or (option_map (λ at. drop at words) (option_and_then merged_position command)) []) is

pub common_is : (words : List (String Global)) (common : Bool) (first : ℕ) → command_of (map string_bytes words) ≡ Some (Merge common first) → common_asked (map string_bytes words) ≡ common
common_is words common first is = ap (λ command. unwrap_or (option_map is_common command) false) is

-- several files are no unit alone
two_left : (names : List (List ℕ)) → length names ≢ 1 → alone names ≡ None
two_left [] several = refl
two_left (name ∷ []) several = absurd (several refl)
two_left (name ∷ other ∷ names) several = refl

pub several_asked : (told : Option Told) (words : List (String Global)) (common : Bool) (first : ℕ) → command_of (map string_bytes words) ≡ Some (Merge common first) → first + 1 ≢ length words
    → unit_asked told (map string_bytes words) ≡ None
several_asked told words common first is several =
    ap (option_and_then (file_under told))
    (ap alone (merged_files_are words common first is ∙ drop-map string_bytes first words)
    ∙ two_left (map string_bytes (drop first words)) (λ one. several (omega (arith, one, length-map (drop first words) string_bytes, length-drop first words, merge_within words common first is))))

-- what is said of one file that is read
pub one_missing : (told : Option Told) (files : List (List ℕ)) (name : List ℕ) (Says : Type 0) → files ≡ name ∷ [] → IfSome told (λ t. find_file name t.names ≡ None → Says) → IfSome told (λ t. found_all t.names files ≡ None → Says)
one_missing None files name Says is says = tt
one_missing (Some t) files name Says is says = λ none. says (one (find_file name t.names) (sym (ap (found_all t.names) is) ∙ none))
  where
    one : (o : Option (List ℕ)) → option_and_then (λ bytes. option_map (λ more. bytes ∷ more) (Some [])) o ≡ None → o ≡ None
    one None none = refl
    one (Some bytes) none = cc

pub one_stray : (told : Option Told) (files : List (List ℕ)) (name : List ℕ) (Says : Type 0) → files ≡ name ∷ [] → IfSome (bytes_under told name) (λ _. Says) → IfSome (all_under told files) (λ _. Says)
one_stray told files name Says is says = subst (λ names. IfSome (all_under told names) (λ _. Says)) (sym is) (by told says)
  where
    found : (o : Option (List ℕ)) → IfSome o (λ _. Says) → IfSome (option_and_then (λ bytes. option_map (λ more. bytes ∷ more) (Some [])) o) (λ _. Says)
    found None says = tt
    found (Some bytes) says = says

    by : (o : Option Told) → IfSome (bytes_under o name) (λ _. Says) → IfSome (all_under o (name ∷ [])) (λ _. Says)
    by None says = tt
    by (Some t) says = found (find_file name t.names) says

-- `run` asks for no unit
pub no_unit_asked : (told : Option Told) (words : List (List ℕ)) (steps file : ℕ) → command_of words ≡ Some (Run steps file) → unit_asked told words ≡ None
no_unit_asked told words steps file is = ap (λ command. option_and_then (file_under told) (alone (unwrap_or (option_map (λ at. drop at words) (option_and_then merged_position command)) []))) is

pub no_unit_by_none : (told : Option Told) (words : List (List ℕ)) → command_of words ≡ None → unit_asked told words ≡ None
no_unit_by_none told words is = ap (λ command. option_and_then (file_under told) (alone (unwrap_or (option_map (λ at. drop at words) (option_and_then merged_position command)) []))) is

pub merge_file_is : (words : List (String Global)) (common : Bool) (first : ℕ) (d : String Global) → command_of (map string_bytes words) ≡ Some (Merge common first)
    → file_of (map string_bytes words) ≡ Some (string_bytes (get_or words first d))
merge_file_is words common first d is =
    ap (λ command. option_and_then (slice_get (map string_bytes words)) (option_and_then file_position command)) is ∙ word_at words first d (merge_within words common first is)

pub run_file_is : (words : List (String Global)) (steps file : ℕ) (d : String Global) → command_of (map string_bytes words) ≡ Some (Run steps file)
    → file_of (map string_bytes words) ≡ Some (string_bytes (get_or words file d))
run_file_is words steps file d is =
    ap (λ command. option_and_then (slice_get (map string_bytes words)) (option_and_then file_position command)) is ∙ word_at words file d (run_within words steps file is)

run_name_is : (words : List (String Global)) (steps file : ℕ) (d : String Global) → command_of (map string_bytes words) ≡ Some (Run steps file)
    → run_file (map string_bytes words) ≡ Some (string_bytes (get_or words file d))
run_name_is words steps file d is =
    ap (λ command. option_and_then (slice_get (map string_bytes words)) (option_and_then run_position command)) is ∙ word_at words file d (run_within words steps file is)

words_given_are : (words : List (List ℕ)) (steps file : ℕ) → command_of words ≡ Some (Run steps file) → words_given words ≡ drop file words
words_given_are words steps file is = ap (λ command. unwrap_or (option_map (λ at. drop at words) (option_and_then run_position command)) []) is

-- `run` asks for one
pub run_is_asked : (words : List (String Global)) (steps file : ℕ) (d : String Global) → command_of (map string_bytes words) ≡ Some (Run steps file) → IsSome (run_file (map string_bytes words))
run_is_asked words steps file d is = subst IsSome (sym (run_name_is words steps file d is)) refl

pub is_asked : (asked : Option (List ℕ)) → IsSome asked → asked ≡ None → ⊥
is_asked None some none = let clash : false ≡ true = some in cc
is_asked (Some name) some none = let clash : Some name ≡ None = none in cc

steps_asked_is : (words : List (List ℕ)) (steps file : ℕ) → command_of words ≡ Some (Run steps file) → steps_asked words ≡ steps
steps_asked_is words steps file is = ap (λ command. unwrap_or (option_map bound_of command) 0) is

-- what is said of one value is said of an equal one
pub if_some_by : {A : Type 0} (asked there : Option A) (P : A → Type 0) → asked ≡ there → IfSome there P → IfSome asked P
if_some_by asked there P is says = subst (λ o. IfSome o P) (sym is) says

pub run_files_are : (words : List (String Global)) (steps file : ℕ) (d : String Global) → command_of (map string_bytes words) ≡ Some (Run steps file)
    → files_of (map string_bytes words) ≡ string_bytes (get_or words file d) ∷ []
run_files_are words steps file d is = ap (files_by (map string_bytes words)) is ∙ ap option_to_list (word_at words file d (run_within words steps file is))

-- what `run` answers, said in terms of the words
pub asked_run : (idle unread failed : Type 0) (told : Option Told) (words args : List (String Global)) (steps file : ℕ) (d : String Global) (name : List ℕ) (status : Status) (left left' taken taken' : Option (List ℕ))
    → command_of (map string_bytes words) ≡ Some (Run steps file) → name ≡ string_bytes (get_or words file d) → args ≡ drop file words
    → RunSays idle unread failed (bytes_under told name) (map string_bytes args) steps status left left' taken taken'
    → IfSome (run_file (map string_bytes words)) (λ n. RunSays idle unread failed (bytes_under told n) (words_given (map string_bytes words)) (steps_asked (map string_bytes words)) status left left' taken taken')
asked_run idle unread failed told words args steps file d name status left left' taken taken' is same behind says =
    if_some_by (run_file (map string_bytes words)) (Some name) (λ n. RunSays idle unread failed (bytes_under told n) (words_given (map string_bytes words)) (steps_asked (map string_bytes words)) status left left' taken taken')
    (run_name_is words steps file d is ∙ ap Some (sym same))
    (subst (λ given. RunSays idle unread failed (bytes_under told name) given (steps_asked (map string_bytes words)) status left left' taken taken')
    (ap (map string_bytes) behind ∙ sym (words_given_are (map string_bytes words) steps file is ∙ drop-map string_bytes file words))
    (subst (λ n. RunSays idle unread failed (bytes_under told name) (map string_bytes args) n status left left' taken taken') (sym (steps_asked_is (map string_bytes words) steps file is)) says))

-- the names behind a command
pub names_begin : (names : List (List ℕ)) (words : List (List ℕ)) (name word : List ℕ) → Begins (name ∷ []) names → file_of words ≡ Some word → name ≡ word → Begins (names_asked words) names
names_begin names words name word begins file same =
    subst (λ ns. Begins ns names) (ap (λ t. t ∷ []) same ∙ sym (ap option_to_list file)) begins

pub run_names : (told : Option Told) (words names : List (List ℕ)) (status : Status) (steps at : ℕ) (name word : List ℕ) → command_of words ≡ Some (Run steps at) → names ≡ name ∷ [] → file_of words ≡ Some word → name ≡ word → HasFiles (length names) status → AreNames told words status names
run_names told words names status steps at name word command is file same files = record {
  files = files;
  begin = record { more = []; is = is ∙ (ap (λ t. t ∷ []) same ∙ (sym (ap option_to_list file) ∙ sym (append-nil _))) };
  refused = if_some_by (unit_asked told words) None (λ unit. IfRefused status (λ refusal. IsRefused unit refusal names)) (no_unit_asked told words steps at command) tt;
}

-- the first of several files names the pool's first name
pub several_begin : (words : List (String Global)) (common : Bool) (first : ℕ) (names : List (List ℕ)) → command_of (map string_bytes words) ≡ Some (Merge common first)
    → ((file : List ℕ) (more : List (List ℕ)) → map string_bytes (drop first words) ≡ file ∷ more → Begins (file ∷ []) names) → Begins (names_asked (map string_bytes words)) names
several_begin words common first names is begins = by (drop first words) refl
  where
    by : (rest : List (String Global)) → drop first words ≡ rest → Begins (names_asked (map string_bytes words)) names
    by [] none = absurd (omega (arith, ap length none, length-drop first words, merge_within words common first is))
    by (w ∷ ws) some =
        let same : w ∷ ws ≡ get_or words first w ∷ drop (first + 1) words = sym some ∙ drop_more words first w (merge_within words common first is) in
        let head : w ≡ get_or words first w = cc in
        subst (λ ns. Begins ns names) (sym (ap option_to_list (merge_file_is words common first w is) ∙ ap (λ v. string_bytes v ∷ []) (sym head)))
        (begins (string_bytes w) (map string_bytes ws) (ap (map string_bytes) some))
