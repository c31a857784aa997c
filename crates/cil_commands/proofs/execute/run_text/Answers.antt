use Rattle.std.proofs.Common.{map}
use Rattle.std.specs.String.{string_bytes}
use Rattle.cil_commands.proofs.Ran.{says_ran}
use Rattle.cil_commands.proofs.execute.run_text.Goals as goal

pub returns-in-Ok-clause-says : goal.returns-in-Ok-clause-says
returns-in-Ok-clause-says g c =
    says_ran _ _ c.args.bytes.now _ (map string_bytes c.args.words.now) c.args.steps c.run_program.result _ _ _ _ c.in-Ok.ensures.text c.in-Ok.ensures.model c.run_program.ensures.reads.failed c.run_program.ensures.ran
