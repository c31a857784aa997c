use Rattle.byte_mem.proofs.FrameLemmas.{local_taken, rising_taken}
use Rattle.byte_mem.proofs.frames.shed.Goals as goal

pub returns-clause-same : goal.returns-clause-same
returns-clause-same c a k = rw c.truncate.ensures.items (local_taken _ c.used-last.result a k (simp c.deref.ensures.value at c.used-last.ensures.rest))

pub returns-clause-rising : goal.returns-clause-rising
returns-clause-rising c = simp c.truncate.ensures.items (rising_taken _ c.used-last.result c.requires)
