use Rattle.byte_mem.proofs.FrameLemmas.{local_put, rising_set}
use Rattle.byte_mem.proofs.frames.put_in.Goals as goal

pub returns-clause-put : goal.returns-clause-put
returns-clause-put c = local_put _ c.args.frames.now c.args.activation c.args.k c.args.i c.index-frames-k.result c.put.new.self _ c.requires.rising c.requires.found c.put.ensures

pub returns-clause-rising : goal.returns-clause-rising
returns-clause-rising c = rising_set c.args.frames.now c.args.k c.index-frames-k.result c.put.new.self c.requires.rising c.requires.found.0
