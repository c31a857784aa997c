use Rattle.std.proofs.Common.{[], ◌∷◌, Some, subst}
use Rattle.cil_base.specs.Limits.{run_steps}
use Rattle.cil_semantics.specs.Modes.{mode_of}
use Rattle.cil_runner.specs.Machine.{RunsAs}
use Rattle.sample_summary.specs.Summary.{sample_words}
use Rattle.sample_summary.proofs.Exits.{exit_so, running_so, undefined_so}
use Rattle.sample_summary.proofs.running.exit_of.Goals as goal

pub returns-in-Exited : goal.returns-in-Exited
returns-in-Exited c p left taken runs same = exit_so p c.args.steps left taken c.in-Exited.status c.args.output (subst (λ e. RunsAs e (p ∷ []) (mode_of p) sample_words run_steps c.args.steps (Some []) left (Some []) (Some taken)) c.in-Exited.is runs) same

pub returns-in-StillRunning : goal.returns-in-StillRunning
returns-in-StillRunning c p left taken runs same = running_so p c.args.steps left taken (subst (λ e. RunsAs e (p ∷ []) (mode_of p) sample_words run_steps c.args.steps (Some []) left (Some []) (Some taken)) c.in-StillRunning.is runs)

pub returns-in-Undefined : goal.returns-in-Undefined
returns-in-Undefined c p left taken runs same = undefined_so p c.args.steps left taken (subst (λ e. RunsAs e (p ∷ []) (mode_of p) sample_words run_steps c.args.steps (Some []) left (Some []) (Some taken)) c.in-Undefined.is runs)
