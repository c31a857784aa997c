use Rattle.byte_mem.proofs.FrameLemmas.{local_cleared, local_nowhere, rising_set}
use Rattle.byte_mem.proofs.frames.clear_in.Goals as goal

pub returns-in-Some-clause-cleared : goal.returns-in-Some-clause-cleared
returns-in-Some-clause-cleared c = local_cleared c.args.frames.now c.args.activation c.in-Some.k c.args.i c.index-frames-k.result c.clear.new.self c.requires c.in-Some.ensures c.clear.ensures

pub returns-in-Some-clause-rising : goal.returns-in-Some-clause-rising
returns-in-Some-clause-rising c = rising_set c.args.frames.now c.in-Some.k c.index-frames-k.result c.clear.new.self c.requires c.in-Some.ensures.0

pub returns-in-None-clause-cleared : goal.returns-in-None-clause-cleared
returns-in-None-clause-cleared c = local_nowhere c.args.frames.now c.args.activation c.args.i c.in-None.ensures
