use Rattle.cil_reader.proofs.AddedTrees.{called_adds}
use Rattle.cil_reader.proofs.instructions.read_assigned.Goals as goal

pub returns-in-Some-clause-adds : goal.returns-in-Some-clause-adds
returns-in-Some-clause-adds c = λ f adds. c.read_call.ensures.adds f (called_adds f c.args.r.now.graph c.args.x.place c.args.value.exp.value c.in-Some.callee c.in-Some.ensures adds)
