use Rattle.std.proofs.Common.{◌++◌, map}
use Rattle.cil_check.specs.NameLists.{member_id}
use Rattle.cil_check.proofs.NameSteps.{ids_grow}
use Rattle.cil_check.proofs.names.add_member_names.Goals as goal

pub loop-i-preserved : goal.loop-i-preserved
loop-i-preserved c = ids_grow member_id c.args.members.now c.loop-i.i _ c.push.new.self.items c.loop-i.ids.items (c.args.ids.now.items ++ map member_id c.args.members.now) c.loop-i-test.true c.in_ok-push.ensures.items c.loop-i.invariant
