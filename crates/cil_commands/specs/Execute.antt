-- Definition: what `run` answers (own).
use Rattle.std.specs.Prelude.{◌≡◌, ℕ, Bool, true, false, List, [], ◌∷◌, ◌++◌, ◌⊎◌, Option, IfSome}
use Rattle.std.specs.Option.{option_and_then}
use Rattle.cil_base.specs.declared.kinds.Abi.TheVariants.{Lp64}
use Rattle.cil_base.specs.declared.runs.Outcome.{Outcome}
use Rattle.cil_base.specs.declared.runs.Outcome.TheVariants.{Exit, Running, Undefined}
use Rattle.cil_base.specs.Outcome.{output, IsPrefix}
use Rattle.cil_tree.specs.Tree.{Program}
use Rattle.cil_tree.specs.Programs.{IsTextOf}
use Rattle.cil_tree.specs.LaidOut.{bad_place}
use Rattle.cil_semantics.specs.Runs.{RunCil, FindsEnd}
use Rattle.cil_semantics.specs.Modes.{mode_of}
use Rattle.cil_reader.specs.Stops.{IsNoText}
use Rattle.cil_turns.specs.Ends.{ReadAsNeeded}
use Rattle.outside.specs.Moves.{WasRead, Wrote}
use Rattle.outside.specs.Named.{Told}
use Rattle.cil_words.specs.Command.{run_file}
use Rattle.cil_sources.specs.Files.{bytes_under}
use Rattle.cil_lines.specs.declared.status.Status.{Status}
use Rattle.cil_lines.specs.declared.status.Status.TheVariants.{Done, Exited, StillRunning, WentUndefined, Usage, Refused, NotCil, ReadFault, WriteFault, Memory}

-- the text that the words ask to be run, where the files tell it
abbrev pub text_asked : Option Told → List (List ℕ) → Option (List ℕ)
text_asked told words = option_and_then (bytes_under told) (run_file words)

-- the status that tells how a run ends
abbrev pub status_of : Outcome → Status
status_of (Exit status text) = Exited status
status_of (Running text) = StillRunning
status_of (Undefined text) = WentUndefined

-- the status tells how the run ends, and the text is its output
pub record Tells (status : Status) (text : List ℕ) (outcome : Outcome) : Type 0 where
  pub end : status ≡ status_of outcome
  pub whole : text ≡ output outcome

-- the status tells how the run ends, and what was taken is its output
pub record AnswersAs (outcome : Outcome) (status : Status) (taken taken' : Option (List ℕ)) : Type 0 where
  pub end : status ≡ status_of outcome
  pub wrote : Wrote taken taken' (output outcome)

-- a read of input failed behind the bytes that it had given: the text is a front of the run's output, and had the input ended there, a call of getchar in the run would have found no input left
pub record WantsMore (p : Program) (words : List (List ℕ)) (steps : ℕ) (got tail text : List ℕ) : Type 0 where
  pub front : IsPrefix text (output (RunCil (p ∷ []) (mode_of p) words (got ++ tail) steps))
  pub end : FindsEnd (p ∷ []) (mode_of p) words got steps ≡ true

-- what a status says of the run of a program in its mode, with these words, bounded by so many steps, where input gave `got` and has the tail still to give, and out took the text
abbrev pub Says : Program → List (List ℕ) → ℕ → Status → List ℕ → List ℕ → List ℕ → Type 0
Says p words steps (Exited status) got tail text = Tells (Exited status) text (RunCil (p ∷ []) (mode_of p) words (got ++ tail) steps)
Says p words steps StillRunning got tail text = Tells StillRunning text (RunCil (p ∷ []) (mode_of p) words (got ++ tail) steps)
Says p words steps WentUndefined got tail text = Tells WentUndefined text (RunCil (p ∷ []) (mode_of p) words (got ++ tail) steps)
Says p words steps ReadFault got tail text = WantsMore p words steps got tail text
Says p words steps WriteFault got tail text = IsPrefix text (output (RunCil (p ∷ []) (mode_of p) words (got ++ tail) steps))
Says p words steps Memory got tail text = IsPrefix text (output (RunCil (p ∷ []) (mode_of p) words (got ++ tail) steps))
Says p words steps Done got tail text = ⊥
Says p words steps Usage got tail text = ⊥
Says p words steps (Refused refusal) got tail text = ⊥
Says p words steps (NotCil byte) got tail text = ⊥

-- a program was run with these words, bounded by so many steps: the bytes that input gave, whether it gave its end, the text that out took, and what the status says, whatever input has still to give, which is nothing where it gave its end; each read was needed, and no read behind the end fails
pub record RanAs (p : Program) (words : List (List ℕ)) (steps : ℕ) (status : Status) (left left' taken taken' : Option (List ℕ)) : Type 0 where
  pub got : List ℕ
  pub ended : Bool
  pub text : List ℕ
  pub read : WasRead left left' got
  pub asked : ReadAsNeeded (λ input. FindsEnd (p ∷ []) (mode_of p) words input steps ≡ true) false got ended
  pub finds : ended ≡ true → IfSome left' (λ rest. rest ≡ [])
  pub stops : status ≡ ReadFault → ended ≡ false
  pub wrote : Wrote taken taken' text
  pub says : (tail : List ℕ) → (ended ≡ true → tail ≡ []) → Says p words steps status got tail text

-- the bytes of the file, where they are told, are the text of a program of LP64 that was run so
pub record Ran (asked : Option (List ℕ)) (words : List (List ℕ)) (steps : ℕ) (status : Status) (left left' taken taken' : Option (List ℕ)) : Type 0 where
  pub program : Program
  pub bytes : List ℕ
  pub file : IfSome asked (λ told. told ≡ bytes)
  pub model : program.graph.abi ≡ Lp64
  pub text : IsTextOf bytes program
  pub run : RanAs program words steps status left left' taken taken'

-- what a status of `run` says, where `idle` is that input and out are as before, `file_failed` that a call on the files failed, and `input_failed` that one on input did and none on the files:
-- a program ran so; or the bytes of the file are no text of LP64, which is told by the place that is defined for them, and nothing ran; or the file could not be read, and nothing ran; or memory was wanting before anything ran
abbrev pub RunSays : (idle file_failed input_failed : Type 0) → Option (List ℕ) → List (List ℕ) → ℕ → Status → (left left' taken taken' : Option (List ℕ)) → Type 0
RunSays idle file_failed input_failed asked words steps (Exited status) left left' taken taken' = Ran asked words steps (Exited status) left left' taken taken'
RunSays idle file_failed input_failed asked words steps StillRunning left left' taken taken' = Ran asked words steps StillRunning left left' taken taken'
RunSays idle file_failed input_failed asked words steps WentUndefined left left' taken taken' = Ran asked words steps WentUndefined left left' taken taken'
RunSays idle file_failed input_failed asked words steps (NotCil byte) left left' taken taken' = idle × IfSome asked (λ bytes. (byte ≡ bad_place bytes) × IsNoText Lp64 bytes)
RunSays idle file_failed input_failed asked words steps ReadFault left left' taken taken' = (file_failed × idle) ⊎ (input_failed × Ran asked words steps ReadFault left left' taken taken')
RunSays idle file_failed input_failed asked words steps WriteFault left left' taken taken' = Ran asked words steps WriteFault left left' taken taken'
RunSays idle file_failed input_failed asked words steps Memory left left' taken taken' = idle ⊎ Ran asked words steps Memory left left' taken taken'
RunSays idle file_failed input_failed asked words steps Done left left' taken taken' = ⊥
RunSays idle file_failed input_failed asked words steps Usage left left' taken taken' = ⊥
RunSays idle file_failed input_failed asked words steps (Refused refusal) left left' taken taken' = ⊥

-- the statuses that tell how a run ended
abbrev pub IsEnd : Status → Type 0
IsEnd (Exited status) = Unit {0}
IsEnd StillRunning = Unit {0}
IsEnd WentUndefined = Unit {0}
IsEnd _ = ⊥

-- the statuses that `run` answers
abbrev pub IsRunAnswer : Status → Type 0
IsRunAnswer Done = ⊥
IsRunAnswer (Exited status) = Unit {0}
IsRunAnswer StillRunning = Unit {0}
IsRunAnswer WentUndefined = Unit {0}
IsRunAnswer Usage = ⊥
IsRunAnswer (Refused refusal) = ⊥
IsRunAnswer (NotCil byte) = Unit {0}
IsRunAnswer ReadFault = Unit {0}
IsRunAnswer WriteFault = Unit {0}
IsRunAnswer Memory = Unit {0}
