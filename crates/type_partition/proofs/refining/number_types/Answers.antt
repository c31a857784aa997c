use Rattle.type_things.specs.Webs.{things_of}
use Rattle.type_partition.proofs.RefineLaws.{types_step}
use Rattle.type_partition.proofs.refining.number_types.Goals as goal

pub loop-x-preserved : goal.loop-x-preserved
loop-x-preserved c =
    types_step (things_of c.args.web.now) c.args.web.now.aggregates c.loop-x.keys.keys c.signature.new.keys.keys c.args.numbers.now.items c.loop-x.numbers.items c.deref.result.now c.push.new.self.items c.loop-x.x c.in_ok-n.n c.in_ok-sum.field-0
    c.deref.ensures.value c.loop-x.invariant c.in_ok-n.ensures.grown c.in_ok-n.ensures.distinct c.loop-x.auto.x c.in_ok-n.ensures.signed c.in_ok-n.ensures.below c.in_ok-sum.ensures c.in_ok-push.ensures.items
