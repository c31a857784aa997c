-- Definition: what is told of a sample: figures of its program and of the program's run, a line each (own).
use Rattle.std.specs.Prelude.{◌≡◌, ℕ, List, [], ◌∷◌, ◌++◌, length, codes, decimal}
use Rattle.std.specs.List.{concat}
use Rattle.cil_base.specs.Limits.{run_steps}
use Rattle.cil_base.specs.declared.runs.Outcome.{Outcome}
use Rattle.cil_base.specs.declared.runs.Outcome.TheVariants.{Exit, Running, Undefined as WentUndefined}
use Rattle.execution.specs.Laws.{IsLeastBound}
use Rattle.cil_tree.specs.Tree.{Program}
use Rattle.cil_semantics.specs.Runs.{RunCil}
use Rattle.cil_semantics.specs.Modes.{mode_of}
use Rattle.sample_summary.specs.declared.stop.SampleStop.{SampleStop}
use Rattle.sample_summary.specs.declared.stop.SampleStop.TheVariants.{StillRunning, Undefined, Memory}

-- a line that tells a figure
abbrev pub line : List ℕ → ℕ → List ℕ
line words n = concat (words ∷ decimal n ∷ codes "\n" ∷ [])

-- the numbers of translation units, of structs, unions and enums, and of bytes of output, the exit status, and the number of steps
abbrev pub summary : (units types output status steps : ℕ) → List ℕ
summary units types output status steps = line (codes "units ") units ++ (line (codes "types ") types ++ (line (codes "output ") output ++ (line (codes "status ") status ++ line (codes "steps ") steps)))

-- the program is run with its name alone, without input, and bounded by so many steps
abbrev pub sample_words : List (List ℕ)
sample_words = codes "sample" ∷ []

abbrev pub run_of : Program → ℕ → Outcome
run_of p steps = RunCil (p ∷ []) (mode_of p) sample_words [] steps

-- the run exits with that status and so many bytes of output, and that is the least bound at which it does
pub record ExitsSo (p : Program) (output status steps : ℕ) : Type 0 where
  pub text : List ℕ
  pub exit : run_of p run_steps ≡ Exit status text
  pub size : output ≡ length text
  pub least : IsLeastBound (run_of p) run_steps steps

-- the text is the summary of a program that is made of so many units
pub record IsSummary (units : ℕ) (p : Program) (text : List ℕ) : Type 0 where
  pub output : ℕ
  pub status : ℕ
  pub steps : ℕ
  pub ends : ExitsSo p output status steps
  pub lines : text ≡ summary units (length p.graph.aggs) output status steps

-- why a program has no summary: at the bound its run goes on, or is undefined; want of memory says nothing
abbrev pub StopsSo : Program → SampleStop → Type 0
StopsSo p StillRunning = (text : List ℕ) × (run_of p run_steps ≡ Running text)
StopsSo p Undefined = (text : List ℕ) × (run_of p run_steps ≡ WentUndefined text)
StopsSo p Memory = Unit {0}
