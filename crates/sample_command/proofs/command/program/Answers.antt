use Rattle.std.proofs.Common.{◌∙◌, None, length, map, ap, subst, IfOk, false}
use Rattle.std.specs.String.{string_bytes}
use Rattle.c_lexer.specs.Lexed.{IfRefused}
use Rattle.merge_refusals.specs.Refusals.{IsMergeRefusal}
use Rattle.unit_merger.specs.Units.{AreMerged, IsRefusedAmong}
use Rattle.unit_merger.specs.Linking.{IsProgramOf, SaysOfLinks}
use Rattle.sample_units.specs.Units.{unit_texts, file_names}
use Rattle.sample_command.proofs.Files.{as_many, of_both}
use Rattle.sample_command.proofs.Summaries.{formed_of}
use Rattle.sample_command.proofs.command.program.Goals as goal

pub returns-clause-refused : goal.returns-clause-refused
returns-clause-refused c = subst (λ n. IfRefused c.units_program.result (IsMergeRefusal n (length c.units_program.new.names))) (as_many string_bytes _ c.args.units (ap (map string_bytes) c.deref-2.ensures.value ∙ c.in_ok-files.ensures)) c.units_program.ensures.refused

pub returns-clause-program : goal.returns-clause-program
returns-clause-program c =
    formed_of c.args.seed c.args.units c.units_program.new.names c.units_program.result
    (of_both (λ us fs. IfOk c.units_program.result (λ _. AreMerged us None fs)) _ (unit_texts c.args.seed c.args.units) _ (file_names c.args.units) (c.deref.ensures.value ∙ c.in_ok-sources.ensures) (ap (map string_bytes) c.deref-2.ensures.value ∙ c.in_ok-files.ensures)
    c.units_program.ensures.merged)
    c.units_program.ensures.program c.units_program.ensures.short
    (of_both (λ us fs. IfOk c.units_program.result (IsProgramOf false us fs c.units_program.new.names)) _ (unit_texts c.args.seed c.args.units) _ (file_names c.args.units) (c.deref.ensures.value ∙ c.in_ok-sources.ensures) (ap (map string_bytes) c.deref-2.ensures.value ∙ c.in_ok-files.ensures)
    c.units_program.ensures.of)

pub returns-clause-among : goal.returns-clause-among
returns-clause-among c =
    of_both (λ us fs. IfRefused c.units_program.result (IsRefusedAmong us None fs c.units_program.new.names)) _ (unit_texts c.args.seed c.args.units) _ (file_names c.args.units) (c.deref.ensures.value ∙ c.in_ok-sources.ensures) (ap (map string_bytes) c.deref-2.ensures.value ∙ c.in_ok-files.ensures)
    c.units_program.ensures.cause

pub returns-clause-links : goal.returns-clause-links
returns-clause-links c =
    of_both (λ us fs. SaysOfLinks false us fs c.units_program.new.names c.units_program.result) _ (unit_texts c.args.seed c.args.units) _ (file_names c.args.units) (c.deref.ensures.value ∙ c.in_ok-sources.ensures) (ap (map string_bytes) c.deref-2.ensures.value ∙ c.in_ok-files.ensures)
    c.units_program.ensures.links
