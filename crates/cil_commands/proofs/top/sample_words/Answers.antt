use Rattle.std.proofs.Common.{[], map, arith}
use Rattle.std.specs.String.{string_bytes}
use Rattle.cil_commands.proofs.Samples.{sample_answer, sample_usage, sample_names, sample_says, is_asked_for, no_unit, no_run, no_text, no_file, no_read}
use Rattle.cil_commands.proofs.Several.{few_links}
use Rattle.cil_commands.proofs.Words.{merged_by_sample}
use Rattle.cil_commands.proofs.top.sample_words.Goals as goal

pub returns-clause-kind : goal.returns-clause-kind
returns-clause-kind g c = sample_answer (map string_bytes c.args._words.now) c.args.seed c.args.units c.requires.command c.sample.new.names c.sample.result _ _ c.sample.ensures.says

pub returns-clause-usage : goal.returns-clause-usage
returns-clause-usage g c = sample_usage (map string_bytes c.args._words.now) c.args.seed c.args.units c.requires.command c.sample.new.names c.sample.result _ _ c.sample.ensures.says

pub returns-clause-names : goal.returns-clause-names
returns-clause-names g c = λ told. sample_names (map string_bytes c.args._words.now) c.args.seed c.args.units c.requires.command told c.sample.result c.sample.new.names c.sample.ensures.files

pub returns-clause-sampled : goal.returns-clause-sampled
returns-clause-sampled g c = sample_says (map string_bytes c.args._words.now) c.args.seed c.args.units c.requires.command c.sample.new.names c.sample.result _ _ c.sample.ensures.says

pub returns-clause-asked : goal.returns-clause-asked
returns-clause-asked g c = is_asked_for (map string_bytes c.args._words.now) c.args.seed c.args.units c.requires.command

pub returns-clause-no_unit : goal.returns-clause-no_unit
returns-clause-no_unit g c = no_unit (map string_bytes c.args._words.now) c.args.seed c.args.units c.requires.command

pub returns-clause-no_run : goal.returns-clause-no_run
returns-clause-no_run g c = no_run (map string_bytes c.args._words.now) c.args.seed c.args.units c.requires.command

pub returns-clause-no_text : goal.returns-clause-no_text
returns-clause-no_text g c = no_text (map string_bytes c.args._words.now) c.args.seed c.args.units c.requires.command

pub returns-clause-no_file : goal.returns-clause-no_file
returns-clause-no_file g c = no_file (map string_bytes c.args._words.now) c.args.seed c.args.units c.requires.command

pub returns-clause-no_read : goal.returns-clause-no_read
returns-clause-no_read g c = no_read c.args.seed c.args.units c.sample.new.names c.sample.result _ _ c.sample.ensures.says

pub returns-clause-links : goal.returns-clause-links
returns-clause-links g c = λ told.
    few_links told (map string_bytes c.args._words.now) [] c.sample.new.names c.sample.result _ _ (merged_by_sample (map string_bytes c.args._words.now) c.args.seed c.args.units c.requires.command) (omega arith)
