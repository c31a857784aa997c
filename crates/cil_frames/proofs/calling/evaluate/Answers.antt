use Rattle.cil_frames.proofs.Passed.{no_callee, no_arguments, all_evaluated}
use Rattle.cil_frames.proofs.calling.evaluate.Goals as goal

pub returns-in-None : goal.returns-in-None
returns-in-None c =
    no_arguments c.args.mem.now c.args.act c.args.call.now c.in-Some.to c.in-Some-term_value.callee c.deref.result.now c.in_ok-arguments.field-0 c.in-Some.ensures c.in-Some-term_value.ensures.value c.deref.ensures.value c.in_ok-arguments.ensures c.in-None.is

pub returns-in-Some-2 : goal.returns-in-Some-2
returns-in-Some-2 c =
    all_evaluated c.args.mem.now c.args.act c.args.call.now c.in-Some.to c.in-Some-term_value.callee c.deref.result.now c.in_ok-arguments.field-0 c.in-Some-2.arguments c.in-Some.ensures c.in-Some-term_value.ensures.value c.deref.ensures.value c.in_ok-arguments.ensures c.in-Some-2.is

pub returns-in_default-term_value : goal.returns-in_default-term_value
returns-in_default-term_value c = no_callee c.args.mem.now c.args.act c.args.call.now c.in-Some.to c.in-Some.ensures c.in_default-term_value.ensures.value
