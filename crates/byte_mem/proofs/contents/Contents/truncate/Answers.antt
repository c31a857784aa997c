use Rattle.byte_mem.proofs.ContentsLemmas.{kept_taken, seen_taken}
use Rattle.byte_mem.proofs.contents.Contents.truncate.Goals as goal

pub invariant_of-self : goal.invariant_of-self
invariant_of-self c = rw c.truncate.ensures.items (kept_taken c.args.n _ _ _ c.self.invariant)

pub returns : goal.returns
returns c = rw (c.truncate.ensures.items, ← c.self.view_is) (seen_taken c.args.n c.self.inside.cells.items c.self.inside.pointers.items)
