use Rattle.std.proofs.Common.{◌≡◌, ◌∙◌, ap, subst, refl, map, List, ℕ, [], ◌∷◌, Some}
use Rattle.std.specs.String.{string_bytes}
use Rattle.outside.specs.InMemory.{SourceState, SinkState}
use Rattle.cil_tree.specs.Tree.{Program}
use Rattle.cil_tree.specs.View.{program_of}
use Rattle.cil_semantics.specs.Modes.{mode_of}
use Rattle.cil_runner.specs.Machine.{Loads}
use Rattle.sample_summary.specs.Summary.{sample_words}
use Rattle.sample_summary.proofs.Exits.{in_own_mode, runs_told}
use Rattle.sample_summary.proofs.running.program_run.Goals as goal

pub returns : goal.returns
returns c =
    let p : Program = program_of c.args.names.now c.args.program.now in
    let loads : Loads c.in_ok-machine.machine (p ∷ []) (mode_of p) sample_words = subst (λ (ws : List (List ℕ)). Loads c.in_ok-machine.machine (p ∷ []) (mode_of p) ws) (ap (map string_bytes) c.deref.ensures.value ∙ c.in_ok-words.ensures) (c.in_ok-machine.ensures.loads (mode_of p) (in_own_mode p)) in
    c.exit_of.ensures p (Some _) c.taken.result.now
    (runs_told c.run-end.result p _ c.used.result _ _ _ _ c.taken.result.now
    (ap (λ (s : SourceState). s.left) c.new-input.ensures ∙ c.new.ensures.items)
    (ap (λ (s : SinkState). s.taken) c.in_ok-out.ensures)
    c.taken.ensures
    c.used.ensures
    (c.run-end.ensures.runs (p ∷ []) (mode_of p) sample_words loads))
    refl
