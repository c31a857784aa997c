use Rattle.std.proofs.Common.{arith, length, ◌/◌, ◌<◌}
use Rattle.byte_mem.specs.Change.{stored_live}
use Rattle.byte_mem.proofs.SlotLemmas.{page_read, paged_changed}
use Rattle.byte_mem.proofs.pages.Pages.store.Goals as goal

pub returns-then-page-len : goal.returns-then-page-len
returns-then-page-len c =
    let low : c.args.i / 64 < length c.self.inside.pages.items = omega (arith, c.self.inside.pages.ok.0, c.len.ensures, c.if-page-len.true) in
    rw (← c.self.view_is)
    (paged_changed c.store.result c.self.inside.pages.items c.args.i c.index_mut.result.now c.store.new.self (stored_live c.args.abi c.args.at.offset c.args.s c.args.v) low (page_read c.self.inside.pages.items (c.args.i / 64) c.index_mut.result.now low c.index_mut.ensures.value)
    c.store.ensures)
