use Rattle.cil_bodies.proofs.BodyLaws.{names_next}
use Rattle.cil_bodies.proofs.bodies.names_of.Goals as goal

pub loop-i-preserved : goal.loop-i-preserved
loop-i-preserved c = names_next c.args.locals.now c.loop-i.i _ c.loop-i.names.items c.push.new.self.items c.loop-i-test.true c.loop-i.invariant c.in_ok-push.ensures.items
