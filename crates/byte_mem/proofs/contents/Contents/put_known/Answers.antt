use Rattle.byte_mem.proofs.ContentsLemmas.{kept_set_plain}
use Rattle.byte_mem.proofs.contents.Contents.put_known.Goals as goal

pub invariant_of-self : goal.invariant_of-self
invariant_of-self c = kept_set_plain _ _ c.args.i c.args.b _ c.self.invariant
