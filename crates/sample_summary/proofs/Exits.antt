-- What the run over objects in memory tells of the program's meaning.
use Rattle.std.proofs.Common.{◌≡◌, ℕ, ◌++◌, List, [], ◌∷◌, Option, Some, None, length, refl, sym, ap, ◌∙◌, subst}
use Rattle.std.specs.Option.{option_map}
use Rattle.cil_base.specs.Limits.{run_steps}
use Rattle.cil_base.specs.declared.runs.Outcome.TheVariants.{Exit, Running, Undefined as WentUndefined}
use Rattle.cil_tree.specs.Tree.{Program}
use Rattle.cil_semantics.specs.Runs.{RunCil}
use Rattle.cil_semantics.specs.Modes.{HaveModel, mode_of}
use Rattle.cil_semantics.proofs.Modes.{one_has}
use Rattle.execution.specs.Laws.{IsLeastBound}
use Rattle.cil_turns.specs.declared.ends.RunEnd.{RunEnd}
use Rattle.cil_turns.specs.declared.ends.RunEnd.TheVariants as end
use Rattle.cil_runner.specs.Machine.{RunsAs}
use Rattle.cil_runner.specs.Outcomes.{EndsAs, GoesOn}
use Rattle.sample_summary.specs.Summary.{run_of, sample_words, ExitsSo, StopsSo}
use Rattle.sample_summary.specs.declared.stop.SampleStop.TheVariants.{StillRunning, Undefined, Memory}

some_is : {A : Type 0} (a b : A) → Some a ≡ Some b → a ≡ b
some_is a b e = cc

-- a program has the data model of its own mode
pub in_own_mode : (p : Program) → HaveModel (mode_of p).abi (p ∷ [])
in_own_mode p = one_has p.graph.abi p refl

-- nothing was there to be read
nothing_got : (left' : Option (List ℕ)) (got : List ℕ) → Some [] ≡ option_map (λ rest. got ++ rest) left' → got ≡ []
nothing_got None got is = cc
nothing_got (Some rest) [] is = refl
nothing_got (Some rest) (b ∷ bs) is = cc

-- the run of a machine over objects in memory, which begin empty
pub runs_told : (e : RunEnd) (p : Program) (used told : ℕ) (read left before taken text : List ℕ) → read ≡ [] → before ≡ [] → text ≡ taken → told ≡ used
    → RunsAs e (p ∷ []) (mode_of p) sample_words run_steps used (Some read) (Some left) (Some before) (Some taken)
    → RunsAs e (p ∷ []) (mode_of p) sample_words run_steps told (Some []) (Some left) (Some []) (Some text)
runs_told e p used told read left before taken text is empty same count runs =
    subst (λ bytes. RunsAs e (p ∷ []) (mode_of p) sample_words run_steps told (Some bytes) (Some left) (Some []) (Some text)) is
    (subst (λ bytes. RunsAs e (p ∷ []) (mode_of p) sample_words run_steps told (Some read) (Some left) (Some bytes) (Some text)) empty
    (subst (λ bytes. RunsAs e (p ∷ []) (mode_of p) sample_words run_steps told (Some read) (Some left) (Some before) (Some bytes)) (sym same)
    (subst (λ n. RunsAs e (p ∷ []) (mode_of p) sample_words run_steps n (Some read) (Some left) (Some before) (Some taken)) (sym count) runs)))

module _ (p : Program) (used : ℕ) (left' : Option (List ℕ)) (taken : List ℕ) where
  abbrev Runs : RunEnd → Type 0
  Runs e = RunsAs e (p ∷ []) (mode_of p) sample_words run_steps used (Some []) left' (Some []) (Some taken)

  input_is : (e : RunEnd) (r : Runs e) → r.got ++ [] ≡ []
  input_is e r = ap (λ got. got ++ []) (nothing_got left' r.got r.read)

  pub exit_so : (status size : ℕ) → Runs (end.Exited status) → size ≡ length taken → ExitsSo p size status used
  exit_so status size r same =
      let means : EndsAs (p ∷ []) (mode_of p) sample_words [] run_steps used (Exit status r.sent) = subst (λ input. EndsAs (p ∷ []) (mode_of p) sample_words input run_steps used (Exit status r.sent)) (input_is (end.Exited status) r) (r.means [] (λ e. refl)) in
      record {
        text = taken;
        exit = means.outcome ∙ ap (Exit status) (sym (some_is taken r.sent r.sends));
        size = same;
        least = means.least;
      }

  pub running_so : Runs end.StillRunning → StopsSo p StillRunning
  running_so r =
      let means : GoesOn (p ∷ []) (mode_of p) sample_words [] run_steps used (Running r.sent) = subst (λ input. GoesOn (p ∷ []) (mode_of p) sample_words input run_steps used (Running r.sent)) (input_is end.StillRunning r) (r.means [] (λ e. refl)) in
      (r.sent, means.outcome)

  pub undefined_so : Runs end.Undefined → StopsSo p Undefined
  undefined_so r =
      let means : EndsAs (p ∷ []) (mode_of p) sample_words [] run_steps used (WentUndefined r.sent) = subst (λ input. EndsAs (p ∷ []) (mode_of p) sample_words input run_steps used (WentUndefined r.sent)) (input_is end.Undefined r) (r.means [] (λ e. refl)) in
      (r.sent, means.outcome)
