use Rattle.cil_code.proofs.Takes.{zero_took}
use Rattle.cil_code.proofs.taking.take_zero.Goals as goal

pub returns-in_ok-next-in-Some : goal.returns-in_ok-next-in-Some
returns-in_ok-next-in-Some c = zero_took c.args.mem.now c.zero_place.new.mem c.args.act c.args.p c.in_ok-next-in-Some.field-0 c.args.size c.args.place.now c.zero_place.result c.in-Some.field-0 c.in-Some.is c.in_ok-next-in-Some.ensures c.zero_place.ensures
