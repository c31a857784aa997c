use Rattle.std.proofs.Common.{rules, subst}
use Rattle.outside.specs.Moves.{Began, Wrote}
use Rattle.cil_tree.specs.View.{program_of}
use Rattle.sample_summary.specs.Summary.{StopsSo}
use Rattle.sample_summary.specs.declared.stop.SampleStop.TheVariants as stop
use Rattle.sample_command.proofs.Summaries.{sent}
use Rattle.sample_command.proofs.command.tell.Goals as goal

pub returns-in-Ok-clause-says : goal.returns-in-Ok-clause-says
returns-in-Ok-clause-says g c = λ seed of.
    sent seed c.args.units c.args.names.now c.args.program.now c.in-Ok.lines c.send.result (g.O.Sink.taken c.args.out.now) (g.O.Sink.taken c.send.new.out) c.in-Ok.ensures
    (λ done. subst (Wrote (g.O.Sink.taken c.args.out.now) (g.O.Sink.taken c.send.new.out)) c.as_slice.ensures (c.send.ensures.done done)) (subst (Began (g.O.Sink.taken c.args.out.now) (g.O.Sink.taken c.send.new.out)) c.as_slice.ensures c.send.ensures.began) c.send.ensures.two of

pub returns-in-Err-StillRunning-clause-says : goal.returns-in-Err-StillRunning-clause-says
returns-in-Err-StillRunning-clause-says g c =
    let stops : StopsSo (program_of c.args.names.now c.args.program.now) stop.StillRunning = search rules in
    λ seed of. record { program = c.args.program.now; of = of; stops = stops }

pub returns-in-Err-Undefined-clause-says : goal.returns-in-Err-Undefined-clause-says
returns-in-Err-Undefined-clause-says g c =
    let stops : StopsSo (program_of c.args.names.now c.args.program.now) stop.Undefined = search rules in
    λ seed of. record { program = c.args.program.now; of = of; stops = stops }
