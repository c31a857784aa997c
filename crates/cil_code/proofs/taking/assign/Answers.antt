use Rattle.cil_code.proofs.Takes.{set_single, set_all_bytes}
use Rattle.cil_code.proofs.taking.assign.Goals as goal

pub returns-in-Single : goal.returns-in-Single
returns-in-Single c = set_single c.set_place.result c.args.mem.now c.set_place.new.mem c.args.act c.args.place.now c.args.o.now c.in-Single.of c.in-Single.e c.in-Single.is c.set_place.ensures

pub returns-in-Bytes : goal.returns-in-Bytes
returns-in-Bytes c = set_all_bytes c.copy_place.result c.args.mem.now c.copy_place.new.mem c.args.act c.args.place.now c.args.o.now c.in-Bytes.size c.in-Bytes.from c.in-Bytes.is c.copy_place.ensures.ok
