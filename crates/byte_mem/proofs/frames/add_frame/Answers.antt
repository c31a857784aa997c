use Rattle.byte_mem.proofs.FrameLemmas.{local_inserted, rising_inserted}
use Rattle.byte_mem.proofs.frames.add_frame.Goals as goal

pub returns-clause-put : goal.returns-clause-put
returns-clause-put c =
    simp c.in_ok-insert.ensures.items
    (local_inserted c.args.frames.now.items c.args.activation c.position-k.result c.args.i c.new-slots.result c.put.new.self _ c.requires.absent
    (simp c.deref.ensures.value at c.position-k.ensures.within) c.new-slots.ensures c.in_ok-put.ensures)

pub returns-clause-rising : goal.returns-clause-rising
returns-clause-rising c =
    simp c.in_ok-insert.ensures.items
    (rising_inserted c.args.frames.now.items c.args.activation c.position-k.result c.put.new.self c.requires.rising c.requires.absent
    (simp c.deref.ensures.value at c.position-k.ensures.within) (simp c.deref.ensures.value at c.position-k.ensures.below) (simp c.deref.ensures.value at c.position-k.ensures.above))
