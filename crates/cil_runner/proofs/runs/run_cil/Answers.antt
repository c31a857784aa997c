use Rattle.std.proofs.Common.{List, ℕ, map, ap, subst, ◌∙◌}
use Rattle.outside.specs.InMemory.{SourceState, SinkState}
use Rattle.cil_tree.specs.View.{program_of}
use Rattle.cil_runner.specs.Machine.{Loads}
use Rattle.cil_runner.proofs.Telling.{outcome_ok}
use Rattle.cil_runner.proofs.runs.run_cil.Goals as goal

pub returns : goal.returns
returns c = λ mode model separate.
    let programs = map (program_of c.args.names.now) c.args.units.now in
    let words = c.args.env.now.args.items in
    let loads : Loads c.in_ok-machine.machine programs mode words = subst (λ (ws : List (List ℕ)). Loads c.in_ok-machine.machine programs mode ws) c.as_slice.ensures.value (c.in_ok-machine.ensures.loads mode model separate) in
    outcome_ok programs mode words c.args.n _ c.outcome.result c.run-end.result c.args.env.now.input _ _ _ _ _
    (ap (λ (s : SourceState). s.left) c.new-input.ensures ∙ c.in_ok-bytes.ensures.items_if_clones_equal (λ x y e. e) ∙ c.as_slice-2.ensures)
    (ap (λ (s : SinkState). s.taken) c.in_ok-out.ensures)
    (c.new-4.ensures ∙ c.in_ok-text.ensures.items_if_clones_equal (λ x y e. e) ∙ c.taken.ensures)
    (c.run-end.ensures.runs programs mode words loads) c.outcome.ensures
