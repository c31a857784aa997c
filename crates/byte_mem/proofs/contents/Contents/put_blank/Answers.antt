use Rattle.byte_mem.proofs.ContentsLemmas.{kept_set_blank}
use Rattle.byte_mem.proofs.contents.Contents.put_blank.Goals as goal

pub invariant_of-self : goal.invariant_of-self
invariant_of-self c = kept_set_blank _ _ c.args.i _ c.self.invariant
