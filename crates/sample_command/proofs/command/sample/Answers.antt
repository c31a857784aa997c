use Rattle.std.proofs.Common.{rules, None, false, length, subst}
use Rattle.c_lexer.specs.Lexed.{IfRefused}
use Rattle.merge_refusals.specs.Refusals.{IsMergeRefusal, PrintedIfLong}
use Rattle.unit_merger.specs.Units.{IsRefusedAmong}
use Rattle.unit_merger.specs.Linking.{SaysOfLinks}
use Rattle.sample_units.specs.Units.{unit_texts, file_names}
use Rattle.sample_command.specs.Answers.{IsSampleRefusal}
use Rattle.sample_command.proofs.Summaries.{stopped, refused_so}
use Rattle.sample_command.proofs.command.sample.Goals as goal

pub returns-in-Ok-clause-says : goal.returns-in-Ok-clause-says
returns-in-Ok-clause-says g c = c.tell.ensures.says c.args.seed c.in-Ok.ensures.program

pub returns-in-Err-Refused-clause-says : goal.returns-in-Err-Refused-clause-says
returns-in-Err-Refused-clause-says g c =
    let says : IsSampleRefusal c.args.seed c.args.units c.program.new.names c.in-Err-Refused.refusal =
    refused_so c.args.seed c.args.units (length c.program.new.names) c.program.new.names c.in-Err-Refused.refusal
    (subst (λ s. IfRefused (stopped s) (IsMergeRefusal c.args.units (length c.program.new.names))) c.in-Err-Refused.field-0-is c.in-Err-Refused.ensures.refused)
    (subst (λ s. IfRefused (stopped s) PrintedIfLong) c.in-Err-Refused.field-0-is c.in-Err-Refused.ensures.printed)
    (subst (λ s. IfRefused (stopped s) (IsRefusedAmong (unit_texts c.args.seed c.args.units) None (file_names c.args.units) c.program.new.names)) c.in-Err-Refused.field-0-is c.in-Err-Refused.ensures.among)
    (subst (λ s. SaysOfLinks false (unit_texts c.args.seed c.args.units) (file_names c.args.units) c.program.new.names (stopped s)) c.in-Err-Refused.field-0-is c.in-Err-Refused.ensures.links) in
    search rules
