use Rattle.cil_code.proofs.Takes.{leave_with, leave_broken}
use Rattle.cil_code.proofs.taking.take_leave.Goals as goal

pub returns-in-Some-2 : goal.returns-in-Some-2
returns-in-Some-2 c = rw c.in-Some.is (leave_with c.args.mem.now c.args.act c.args.p c.in-Some.o c.in-Some-2.d (rw c.in-Some-2.is at c.in_ok-d-in-Some.ensures))

pub returns-in-None-2 : goal.returns-in-None-2
returns-in-None-2 c = rw c.in-Some.is (leave_broken c.args.mem.now c.args.act c.args.p c.in-Some.o (rw c.in-None-2.is at c.in_ok-d-in-Some.ensures))
