use Rattle.std.proofs.Common.{ap, refl}
use Rattle.byte_mem.specs.Change.{changed_live}
use Rattle.byte_mem.proofs.FrameLemmas.{local_changed, local_absent, rising_set}
use Rattle.byte_mem.proofs.frames.change_in.Goals as goal

pub returns-in-Some-clause-changed : goal.returns-in-Some-clause-changed
returns-in-Some-clause-changed c =
    local_changed _ c.args.frames.now c.args.activation c.in-Some.k c.args.i c.index-frames-k.result c.change.new.self (changed_live c.args.at.offset c.args.change) c.requires c.in-Some.ensures c.change.ensures

pub returns-in-Some-clause-rising : goal.returns-in-Some-clause-rising
returns-in-Some-clause-rising c = rising_set c.args.frames.now c.in-Some.k c.index-frames-k.result c.change.new.self c.requires c.in-Some.ensures.0

pub returns-in-None-clause-changed : goal.returns-in-None-clause-changed
returns-in-None-clause-changed c =
    (ap (changed_live c.args.at.offset c.args.change) (local_absent c.args.frames.now c.args.activation c.args.i c.in-None.ensures), refl)
