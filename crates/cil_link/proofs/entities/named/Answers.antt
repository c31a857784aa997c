use Rattle.cil_link.proofs.HostNames.{named_is}
use Rattle.cil_link.proofs.entities.named.Goals as goal

pub returns : goal.returns
returns c = named_is c.of.result c.args.text.now c.of.ensures
