use Rattle.type_partition.specs.Keys.{num_at}
use Rattle.type_things.specs.Webs.{things_of}
use Rattle.type_partition.proofs.RefineLaws.{signed_none}
use Rattle.type_partition.proofs.refining.signature.Goals as goal

pub returns-in-None-clause-signed : goal.returns-in-None-clause-signed
returns-in-None-clause-signed c = signed_none (things_of c.args.web.now) c.number.result c.number.new.keys.keys (num_at c.args.numbers.now) c.args.x c.in_ok-parts.field-0 c.in_ok-parts.ensures c.in-None.is c.number.ensures.there
