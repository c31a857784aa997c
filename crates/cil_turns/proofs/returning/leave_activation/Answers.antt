use Rattle.std.proofs.Common.{refl}
use Rattle.cil_turns.proofs.Returns.{left_is}
use Rattle.cil_turns.proofs.returning.leave_activation.Goals as goal

pub returns-clause-ended : goal.returns-clause-ended
returns-clause-ended c = left_is c.args.run.now _ c.leave.new.mem c.args.act c.in_ok-arguments.arguments c.args.f.now c.deref.result.now c.in_ok-arguments.ensures c.deref.ensures.value c.leave.ensures refl
