use Rattle.unit_lower.proofs.ExternalLaws.{places_end}
use Rattle.unit_lower.proofs.sites.found_sites.Goals as goal

pub returns : goal.returns
returns c = places_end c.args.globals.now c.loop-i.sites.items c.loop-i.i c.loop-i-test.false c.loop-i.invariant
