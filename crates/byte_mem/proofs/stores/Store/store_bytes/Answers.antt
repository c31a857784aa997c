use Rattle.byte_mem.proofs.StoreLemmas.{copied}
use Rattle.byte_mem.proofs.stores.Store.store_bytes.Goals as goal

pub returns : goal.returns
returns c = copied c.change.result c.args.self.now c.change.new.self c.args.at c.as_slice.result c.args.b.now c.as_slice.ensures c.change.ensures
