use Rattle.cil_link.proofs.EntityLaws.{first_next}
use Rattle.cil_link.proofs.entities.first_numbers.Goals as goal

pub loop-n-preserved : goal.loop-n-preserved
loop-n-preserved c = first_next c.args.names.now c.loop-n.n c.text.result.now c.loop-n.known.items c.push.new.self.items c.first_number.result c.text.ensures.text c.first_number.ensures c.in_ok-push.ensures.items c.loop-n.invariant
