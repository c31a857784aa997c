use Rattle.std.proofs.Common.{ap, refl}
use Rattle.byte_mem.specs.Change.{stored_live}
use Rattle.byte_mem.proofs.FrameLemmas.{local_changed, local_absent, rising_set}
use Rattle.byte_mem.proofs.frames.store_in.Goals as goal

pub returns-in-Some-clause-stored : goal.returns-in-Some-clause-stored
returns-in-Some-clause-stored c =
    local_changed _ c.args.frames.now c.args.activation c.in-Some.k c.args.i c.index-frames-k.result c.store.new.self (stored_live c.args.abi c.args.at.offset c.args.s c.args.v) c.requires c.in-Some.ensures c.store.ensures

pub returns-in-Some-clause-rising : goal.returns-in-Some-clause-rising
returns-in-Some-clause-rising c = rising_set c.args.frames.now c.in-Some.k c.index-frames-k.result c.store.new.self c.requires c.in-Some.ensures.0

pub returns-in-None-clause-stored : goal.returns-in-None-clause-stored
returns-in-None-clause-stored c =
    (ap (stored_live c.args.abi c.args.at.offset c.args.s c.args.v) (local_absent c.args.frames.now c.args.activation c.args.i c.in-None.ensures), refl)
