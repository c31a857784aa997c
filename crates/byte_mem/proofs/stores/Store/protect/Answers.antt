use Rattle.byte_mem.proofs.StoreLemmas.{protected_is}
use Rattle.byte_mem.proofs.stores.Store.protect.Goals as goal

pub returns : goal.returns
returns c = protected_is c.change.result c.args.self.now c.change.new.self c.args.n c.args.read_only c.change.ensures
