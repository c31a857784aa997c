use Rattle.std.proofs.Common.{arith}
use Rattle.type_things.specs.Heads.{parts_of}
use Rattle.type_things.specs.Webs.{things_of}
use Rattle.type_iso.proofs.OrderSteps.{only_of}
use Rattle.type_iso.proofs.ordering.only_part.Goals as goal

pub returns : goal.returns
returns c = only_of (parts_of (things_of c.args.web.now) c.args.x) c.in_ok-parts.parts.now _ c.in_ok-parts.ensures (omega arith)
