use Rattle.cil_base.proofs.PoolLemmas.{stays_then}
use Rattle.unit_front.proofs.Files.{grows_stays}
use Rattle.cil_commands.proofs.merge.merged_text.Goals as goal

pub returns-clause-stays : goal.returns-clause-stays
returns-clause-stays c = stays_then c.args.names.now c.unit_tokens.new.names c.tokens_text.new.names (grows_stays c.args.names.now c.unit_tokens.new.names c.unit_tokens.ensures.pool) c.tokens_text.ensures.stays
