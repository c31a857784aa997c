use Rattle.unit_merger.proofs.Texts.{text_alone}
use Rattle.unit_merger.proofs.merger.unit_text.Goals as goal

pub returns-clause-text : goal.returns-clause-text
returns-clause-text c = text_alone c.unit_printed.result c.args.tokens.now c.args.names.now c.merged_unit.new.names c.in_ok-program.program c.unit_printed.ensures.text c.in_ok-program.ensures.program

pub returns-clause-cause : goal.returns-clause-cause
returns-clause-cause c = c.unit_printed.ensures.cause c.args.names.now c.in_ok-program.ensures.program
