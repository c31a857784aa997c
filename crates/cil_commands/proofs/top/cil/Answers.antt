use Rattle.std.proofs.Common.{◌∙◌, ap, subst, map, unwrap_or}
use Rattle.std.specs.Option.{option_map}
use Rattle.std.specs.String.{string_bytes}
use Rattle.outside.specs.Counts.{Rose}
use Rattle.cil_words.specs.Command.{bound_of, run_file, words_given, steps_asked}
use Rattle.cil_commands.specs.Execute.{text_asked}
use Rattle.cil_sources.specs.Files.{bytes_under}
use Rattle.cil_lines.specs.Sent.{Sent}
use Rattle.cil_commands.proofs.Answered.{line_by}
use Rattle.cil_commands.proofs.Ran.{runs_asked, answers_by, not_cil_asked}
use Rattle.cil_commands.proofs.top.cil.Goals as goal

pub returns-clause-runs : goal.returns-clause-runs
returns-clause-runs g c =
    runs_asked _ _ _ (Rose (g.I.Source.faults c.args.input.now) (g.I.Source.faults c.run_command-status.new.input)) (Rose (g.O.Sink.faults c.args.out.now) (g.O.Sink.faults c.run_command-status.new.out))
    (bytes_under (g.F.Files.told c.args.files.now)) (run_file (map string_bytes c.args.words.now)) (words_given (map string_bytes c.args.words.now)) (steps_asked (map string_bytes c.args.words.now))
    c.run_command-status.result _ _ _ _ c.run_command-status.ensures.writes.failed c.run_command-status.ensures.ran

pub returns-clause-answers : goal.returns-clause-answers
returns-clause-answers g c =
    answers_by _ _ _ (text_asked (g.F.Files.told c.args.files.now) (map string_bytes c.args.words.now)) (g.I.Source.left c.args.input.now) (words_given (map string_bytes c.args.words.now)) (steps_asked (map string_bytes c.args.words.now))
    c.run_command-status.result _ _ _ (returns-clause-runs g c)

pub returns-clause-not_cil : goal.returns-clause-not_cil
returns-clause-not_cil g c =
    not_cil_asked _ _ _ (bytes_under (g.F.Files.told c.args.files.now)) (run_file (map string_bytes c.args.words.now)) (words_given (map string_bytes c.args.words.now)) (steps_asked (map string_bytes c.args.words.now))
    c.run_command-status.result _ _ _ _ c.run_command-status.ensures.ran

pub returns-clause-line : goal.returns-clause-line
returns-clause-line g c =
    let one = line_by (g.F.Files.told c.args.files.now) (map string_bytes c.args.words.now) c.run_command-status.new.names c.steps_of.result c.run_command-status.result (g.O.Sink.taken c.args.out.now) (g.O.Sink.taken c.run_command-status.new.out) c.run_command-status.ensures.names (record { units = c.run_command-status.ensures.units; links = c.run_command-status.ensures.links; sampled = c.run_command-status.ensures.sampled })
    (c.steps_of.ensures ∙ ap (λ command. unwrap_or (option_map bound_of command) 0) c.read_words-command.ensures) in
    (one.known, one.are, one.says, subst (λ text. Sent (g.E.Sink.taken c.args.err.now) (g.E.Sink.taken c.report.new.err) (g.E.Sink.faults c.args.err.now) (g.E.Sink.faults c.report.new.err) text) one.line c.report.ensures.sent)

pub returns-clause-units : goal.returns-clause-units
returns-clause-units g c = (c.run_command-status.new.names, c.run_command-status.ensures.units)

pub returns-clause-links : goal.returns-clause-links
returns-clause-links g c = (c.run_command-status.new.names, c.run_command-status.ensures.links)

pub returns-clause-sampled : goal.returns-clause-sampled
returns-clause-sampled g c = (c.run_command-status.new.names, c.run_command-status.ensures.sampled)

pub returns-clause-accepted : goal.returns-clause-accepted
returns-clause-accepted g c = c.run_command-status.ensures.unit.accepted

pub returns-clause-refuses : goal.returns-clause-refuses
returns-clause-refuses g c = c.run_command-status.ensures.unit.refuses

pub returns-clause-refused : goal.returns-clause-refused
returns-clause-refused g c = c.run_command-status.ensures.unit.refused

pub returns-clause-write : goal.returns-clause-write
returns-clause-write g c = c.run_command-status.ensures.writes.failed

pub returns-clause-write_told : goal.returns-clause-write_told
returns-clause-write_told g c = c.run_command-status.ensures.writes.calm

pub returns-clause-out_later : goal.returns-clause-out_later
returns-clause-out_later g c = c.run_command-status.ensures.writes.later

pub returns-clause-missing : goal.returns-clause-missing
returns-clause-missing g c = c.run_command-status.ensures.leaves.missing

pub returns-clause-names_stay : goal.returns-clause-names_stay
returns-clause-names_stay g c = c.run_command-status.ensures.leaves.names_stay

pub returns-clause-strays : goal.returns-clause-strays
returns-clause-strays g c = c.run_command-status.ensures.leaves.strays_stay
