-- Definition: the statuses that each command answers (own).
use Rattle.std.specs.Prelude.{ℕ, List, length, Option, Some, None}
use Rattle.cil_commands.specs.Merge.{IsMergeAnswer}
use Rattle.cil_commands.specs.Execute.{IsRunAnswer}
use Rattle.sample_command.specs.Answers.{IsSampleAnswer}
use Rattle.cil_words.specs.Command.{command_of, files_of}
use Rattle.cil_words.specs.declared.command.Command.{Command}
use Rattle.cil_words.specs.declared.command.Command.TheVariants.{Merge, Run, Sample}
use Rattle.cil_lines.specs.declared.status.Status.{Status}
use Rattle.cil_lines.specs.declared.status.Status.TheVariants.{Usage}

abbrev pub IsUsage : Status → Type 0
IsUsage Usage = Unit {0}
IsUsage _ = ⊥

-- words that are no command are answered by Usage alone
abbrev pub IsAnswerBy : List (List ℕ) → Option Command → Status → Type 0
IsAnswerBy files None status = IsUsage status
IsAnswerBy files (Some (Merge common first)) status = IsMergeAnswer (length files) status
IsAnswerBy files (Some (Run steps file)) status = IsRunAnswer status
IsAnswerBy files (Some (Sample seed units)) status = IsSampleAnswer units status

abbrev pub IsAnswerTo : List (List ℕ) → Status → Type 0
IsAnswerTo words status = IsAnswerBy (files_of words) (command_of words) status
