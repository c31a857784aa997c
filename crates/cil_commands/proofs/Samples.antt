-- What the words of a sample ask for, and what is said of it.
use Rattle.std.proofs.Common.{◌≡◌, ◌≢◌, ℕ, List, [], Option, Some, None, length, drop, refl, ap, sym, subst, ◌∙◌, ◌↔◌, unwrap_or, slice_get}
use Rattle.std.specs.Option.{option_map, option_and_then, option_to_list}
use Rattle.outside.specs.Named.{Told}
use Rattle.cil_words.specs.Command.{command_of, files_of, files_by, alone, file_position, merged_position, run_position, sample_in, sample_asked, run_file}
use Rattle.cil_sources.specs.Files.{bytes_under}
use Rattle.sample_command.specs.Answers.{SampleSays, IsSampleAnswer}
use Rattle.cil_commands.specs.Answers.{IsAnswerBy, IsAnswerTo}
use Rattle.cil_commands.specs.Execute.{text_asked}
use Rattle.cil_commands.specs.Merge.{unit_asked, file_under, IsRefused, IfRefused}
use Rattle.cil_commands.specs.Several.{SampledSays}
use Rattle.cil_commands.specs.Messages.{names_asked, Begins, AreNames}
use Rattle.cil_commands.proofs.Words.{if_some_by}
use Rattle.cil_lines.specs.Messages.{HasFiles}
use Rattle.cil_words.specs.declared.command.Command.TheVariants.{Sample}
use Rattle.cil_lines.specs.declared.status.Status.{Status}
use Rattle.cil_lines.specs.declared.status.Status.TheVariants.{Done, Exited, StillRunning, WentUndefined, Usage, Refused, NotCil, ReadFault, WriteFault, Memory}

pub sample_kind : (seed units : ℕ) (pool : List (List ℕ)) (status : Status) (taken taken' : Option (List ℕ)) → SampleSays seed units pool status taken taken' → IsSampleAnswer units status
sample_kind seed units pool Done taken taken' says = tt
sample_kind seed units pool (Exited s) taken taken' says = says
sample_kind seed units pool StillRunning taken taken' says = tt
sample_kind seed units pool WentUndefined taken taken' says = tt
sample_kind seed units pool Usage taken taken' says = says
sample_kind seed units pool (Refused r) taken taken' says = (says.fault, says.unit, says.other)
sample_kind seed units pool (NotCil k) taken taken' says = says
sample_kind seed units pool ReadFault taken taken' says = says
sample_kind seed units pool WriteFault taken taken' says = tt
sample_kind seed units pool Memory taken taken' says = tt

some_none : {A : Type 0} (a : A) → Some a ≡ None → ⊥
some_none a is = cc

module _ (words : List (List ℕ)) (seed units : ℕ) (is : command_of words ≡ Some (Sample seed units)) where
  pub sample_is : sample_asked words ≡ Some (record { seed = seed; units = units })
  sample_is = ap (option_and_then sample_in) is

  pub is_asked_for : sample_asked words ≢ None
  is_asked_for none = some_none _ (sym sample_is ∙ none)

  pub no_unit : (told : Option Told) → unit_asked told words ≡ None
  no_unit told = ap (λ command. option_and_then (file_under told) (alone (unwrap_or (option_map (λ at. drop at words) (option_and_then merged_position command)) []))) is

  pub no_run : run_file words ≡ None
  no_run = ap (λ command. option_and_then (slice_get words) (option_and_then run_position command)) is

  pub no_text : (told : Option Told) → text_asked told words ≡ None
  no_text told = ap (option_and_then (bytes_under told)) no_run

  pub no_file : files_of words ≡ []
  no_file = ap (files_by words) is

  pub sample_answer : (pool : List (List ℕ)) (status : Status) (taken taken' : Option (List ℕ)) → SampleSays seed units pool status taken taken' → IsAnswerTo words status
  sample_answer pool status taken taken' says = subst (λ command. IsAnswerBy (files_of words) command status) (sym is) (sample_kind seed units pool status taken taken' says)

  pub sample_says : (pool : List (List ℕ)) (status : Status) (taken taken' : Option (List ℕ)) → SampleSays seed units pool status taken taken' → SampledSays words pool status taken taken'
  sample_says pool status taken taken' says = if_some_by (sample_asked words) (Some (record { seed = seed; units = units })) (λ asked. SampleSays asked.seed asked.units pool status taken taken') sample_is says

  pub sample_usage : (pool : List (List ℕ)) (status : Status) (taken taken' : Option (List ℕ)) → SampleSays seed units pool status taken taken' → (status ≡ Usage) ↔ (command_of words ≡ None)
  sample_usage pool status taken taken' says = (
    (λ usage. absurd (subst (λ s. SampleSays seed units pool s taken taken') usage says)),
    (λ none. absurd (some_none _ (sym is ∙ none))),
  )

  first_names : names_asked words ≡ []
  first_names = ap (λ command. option_to_list (option_and_then (slice_get words) (option_and_then file_position command))) is

  pub sample_names : (told : Option Told) (status : Status) (names : List (List ℕ)) → HasFiles (length names) status → AreNames told words status names
  sample_names told status names files = record {
    begin = subst (λ first. Begins first names) (sym first_names) (record { more = names; is = refl });
    files = files;
    refused = if_some_by (unit_asked told words) None (λ unit. IfRefused status (λ refusal. IsRefused unit refusal names)) (no_unit told) tt;
  }

-- it reads nothing
pub no_read : (seed units : ℕ) (pool : List (List ℕ)) (status : Status) (taken taken' : Option (List ℕ)) → SampleSays seed units pool status taken taken' → status ≢ ReadFault
no_read seed units pool status taken taken' says is = subst (λ s. SampleSays seed units pool s taken taken') is says

-- no other command says anything of a sample
pub sampled_none : (words pool : List (List ℕ)) (status : Status) (taken taken' : Option (List ℕ)) → sample_asked words ≡ None → SampledSays words pool status taken taken'
sampled_none words pool status taken taken' none = if_some_by (sample_asked words) None (λ asked. SampleSays asked.seed asked.units pool status taken taken') none tt
