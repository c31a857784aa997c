use Rattle.std.proofs.Common.{[], ◌∷◌, map, sym, subst}
use Rattle.std.specs.String.{string_bytes}
use Rattle.cil_tree.specs.View.{program_of}
use Rattle.cil_semantics.specs.Modes.{mode_of}
use Rattle.cil_commands.specs.Execute.{RanAs}
use Rattle.cil_commands.proofs.Runs.{ran_nothing, in_own_mode, ran_by}
use Rattle.cil_commands.proofs.execute.run_program.Goals as goal

pub returns-in_default-clause-ran : goal.returns-in_default-clause-ran
returns-in_default-clause-ran g c =
    ran_nothing (program_of c.args.names.now c.args.unit.now) (map string_bytes c.args.words.now) c.args.steps (g.I.Source.left c.args.input.now) (g.O.Sink.taken c.args.out.now)

pub returns-clause-ran : goal.returns-clause-ran
returns-clause-ran g c =
    subst (λ status. RanAs (program_of c.args.names.now c.args.unit.now) (map string_bytes c.args.words.now) c.args.steps status
    (g.I.Source.left c.args.input.now) (g.I.Source.left c.run.new.input) (g.O.Sink.taken c.args.out.now) (g.O.Sink.taken c.run.new.out)) (sym c.status_of.ensures)
    (ran_by c.run.result (program_of c.args.names.now c.args.unit.now) (map string_bytes c.args.words.now) c.args.steps c.run.new.self.used
    (g.I.Source.left c.args.input.now) (g.I.Source.left c.run.new.input) (g.O.Sink.taken c.args.out.now) (g.O.Sink.taken c.run.new.out)
    (c.run.ensures.runs (program_of c.args.names.now c.args.unit.now ∷ []) (mode_of (program_of c.args.names.now c.args.unit.now)) (map string_bytes c.args.words.now)
    (c.in-Ok.ensures.loads (mode_of (program_of c.args.names.now c.args.unit.now)) (in_own_mode (program_of c.args.names.now c.args.unit.now)))))
