use Rattle.std.proofs.Common.{◌≡◌, [], None, inl, map, ap, sym, ◌∙◌, arith}
use Rattle.std.specs.String.{string_bytes}
use Rattle.cil_words.specs.Command.{command_of, files_by}
use Rattle.cil_lines.specs.declared.status.Status.TheVariants.{Usage}
use Rattle.cil_commands.proofs.Several.{says_other, few_links}
use Rattle.cil_commands.proofs.Counts.{none_opened}
use Rattle.cil_commands.proofs.Words.{merged_by_none, no_unit_by_none}
use Rattle.cil_commands.proofs.Written.{none_answered}
use Rattle.cil_commands.proofs.top.run_command.Goals as goal

pub returns-in-Some-Sample-clause-names : goal.returns-in-Some-Sample-clause-names
returns-in-Some-Sample-clause-names g c = λ known. c.sample_words.ensures.names (g.F.Files.told c.args.files.now)

pub returns-in-None-clause-units : goal.returns-in-None-clause-units
returns-in-None-clause-units g c = λ known.
    (let none : command_of (map string_bytes c.args.words.now) ≡ None = sym c.requires.command ∙ c.in-None.is in
    says_other (g.F.Files.told c.args.files.now) (map string_bytes c.args.words.now) c.args.names.now Usage (merged_by_none (map string_bytes c.args.words.now) none) tt)

pub returns-in-Some-Sample-clause-links : goal.returns-in-Some-Sample-clause-links
returns-in-Some-Sample-clause-links g c = c.sample_words.ensures.links (g.F.Files.told c.args.files.now)

pub returns-in-None-clause-links : goal.returns-in-None-clause-links
returns-in-None-clause-links g c =
    let none : command_of (map string_bytes c.args.words.now) ≡ None = sym c.requires.command ∙ c.in-None.is in
    few_links (g.F.Files.told c.args.files.now) (map string_bytes c.args.words.now) [] c.args.names.now Usage (g.O.Sink.taken c.args.out.now) (g.O.Sink.taken c.args.out.now) (merged_by_none (map string_bytes c.args.words.now) none) (omega arith)

pub returns-in-Some-Merge-clause-done : goal.returns-in-Some-Merge-clause-done
returns-in-Some-Merge-clause-done g c = λ none done. c.merge_words.ensures.written.done done

pub returns-in-Some-Merge-clause-part : goal.returns-in-Some-Merge-clause-part
returns-in-Some-Merge-clause-part g c = λ run none failed. c.merge_words.ensures.written.part failed

pub returns-in-Some-Merge-clause-read_told : goal.returns-in-Some-Merge-clause-read_told
returns-in-Some-Merge-clause-read_told g c = c.merge_words.ensures.reads.calm

pub returns-in-Some-Merge-clause-files_later : goal.returns-in-Some-Merge-clause-files_later
returns-in-Some-Merge-clause-files_later g c = c.merge_words.ensures.reads.later

pub returns-in-Some-Merge-clause-read : goal.returns-in-Some-Merge-clause-read
returns-in-Some-Merge-clause-read g c = λ failed. inl (c.merge_words.ensures.reads.failed failed)

pub returns-in-Some-Sample-clause-unit : goal.returns-in-Some-Sample-clause-unit
returns-in-Some-Sample-clause-unit g c = none_answered _ c.sample_words.result _ _ (c.sample_words.ensures.no_unit (g.F.Files.told c.args.files.now))

pub returns-in-Some-Run-clause-unit : goal.returns-in-Some-Run-clause-unit
returns-in-Some-Run-clause-unit g c = none_answered _ c.run_words.result _ _ c.run_words.ensures.no_unit

pub returns-in-None-clause-unit : goal.returns-in-None-clause-unit
returns-in-None-clause-unit g c = none_answered _ Usage _ _ (no_unit_by_none (g.F.Files.told c.args.files.now) (map string_bytes c.args.words.now) (sym c.requires.command ∙ c.in-None.is))

pub returns-in-Some-Sample-clause-leaves : goal.returns-in-Some-Sample-clause-leaves
returns-in-Some-Sample-clause-leaves g c = none_opened c.sample_words.result _ (g.F.Files.told c.args.files.now) (g.F.Files.strays c.args.files.now) c.sample_words.ensures.no_file

pub returns-in-None-clause-leaves : goal.returns-in-None-clause-leaves
returns-in-None-clause-leaves g c = none_opened Usage _ (g.F.Files.told c.args.files.now) (g.F.Files.strays c.args.files.now) (ap (files_by (map string_bytes c.args.words.now)) (sym c.requires.command ∙ c.in-None.is))
