use Rattle.byte_mem.proofs.ContentsLemmas.{kept_put_part}
use Rattle.byte_mem.proofs.contents.Contents.put_part.Goals as goal

pub invariant_of-self : goal.invariant_of-self
invariant_of-self c =
    rw c.set_pointer.ensures.items (kept_put_part _ _ c.args.i c.args.k _ _ c.args.p c.self.invariant c.set_pointer.ensures.room)
