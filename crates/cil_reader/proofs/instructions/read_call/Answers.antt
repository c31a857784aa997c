use Rattle.cil_reader.proofs.InstructionLaws.{call_known}
use Rattle.cil_reader.proofs.AddedTrees.{call_adds}
use Rattle.cil_reader.proofs.instructions.read_call.Goals as goal

pub returns-clause-known : goal.returns-clause-known
returns-clause-known c =
    call_known c.args.r.now.graph c.read_args.new.r.graph c.args.to c.args.callee c.call.result c.in_ok-args.args.items c.call.ensures c.requires.to c.requires.callee c.in_ok-args.ensures.known c.read_args.ensures.on.grows

pub returns-clause-adds : goal.returns-clause-adds
returns-clause-adds c = λ f adds.
    call_adds f c.args.r.now.graph c.read_args.new.r.graph c.args.to c.args.callee c.in_ok-args.args.items c.call.result c.requires.to c.requires.callee c.read_args.ensures.on.grows c.call.ensures adds c.in_ok-args.ensures.adds
