use Rattle.std.proofs.Common.{Some, ap, ◌∙◌}
use Rattle.byte_mem.specs.Store.{memory}
use Rattle.execution.specs.Calls.{scalar_arguments}
use Rattle.cil_frames.specs.Entering.{arguments_of}
use Rattle.cil_turns.proofs.HostTurns.{asked, no_result, no_arguments, no_memory}
use Rattle.cil_turns.proofs.hosts.ask.Goals as goal

pub returns-in_default-clause-asked : goal.returns-in_default-clause-asked
returns-in_default-clause-asked g c = no_result c.args.run.now.mem.abi c.args.name c.args.e.now (memory c.args.run.now.mem) c.args.run.now.streams _ _ c.in_default.ensures

pub returns-in-Err-clause-asked : goal.returns-in-Err-clause-asked
returns-in-Err-clause-asked g c = no_memory c.args.run.now.mem.abi c.args.name c.args.e.now (memory c.args.run.now.mem) c.args.run.now.streams _ _

pub returns-in-Ok-None-clause-asked : goal.returns-in-Ok-None-clause-asked
returns-in-Ok-None-clause-asked g c =
    let h = rw c.in-Ok-None.field-0-is at c.in-Ok-None.ensures in
    no_arguments c.args.run.now.mem.abi c.args.name c.args.e.now (memory c.args.run.now.mem) c.args.run.now.streams _ _ (h ∙ ap (λ xs. scalar_arguments (arguments_of xs)) c.deref.ensures.value)

pub returns-in-Ok-Some-clause-asked : goal.returns-in-Ok-Some-clause-asked
returns-in-Ok-Some-clause-asked g c =
    let h = rw c.in-Ok-Some.field-0-is at c.in-Ok-Some.ensures in
    asked c.call.result c.args.run.now.mem.abi c.args.name c.args.e.now c.in-Some.wanted c.deref-in-Ok-Some.result.now (memory c.args.run.now.mem) (memory c.call.new.mem) c.args.run.now.streams c.call.new.self _ _ _ _ c.in-Some.ensures
    (ap Some c.deref-in-Ok-Some.ensures.value ∙ (h ∙ ap (λ xs. scalar_arguments (arguments_of xs)) c.deref.ensures.value)) c.call.ensures.answers
