use Rattle.type_compat.proofs.Parameters.{each_at}
use Rattle.std.proofs.Common.{length}
use Rattle.type_compat.proofs.compatibility.plain.Goals as goal

pub promotes_to_itself-requires : goal.promotes_to_itself-requires
promotes_to_itself-requires c = each_at (length c.args.g.now.nodes) c.args.params.now c.loop-p.p-index _ c.requires c.loop-p-test.true
