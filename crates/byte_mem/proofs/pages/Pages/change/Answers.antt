use Rattle.std.proofs.Common.{arith, length, ◌/◌, ◌<◌}
use Rattle.byte_mem.specs.Change.{changed_live}
use Rattle.byte_mem.proofs.SlotLemmas.{page_read, paged_changed}
use Rattle.byte_mem.proofs.pages.Pages.change.Goals as goal

pub returns-then-page-len : goal.returns-then-page-len
returns-then-page-len c =
    let low : c.args.i / 64 < length c.self.inside.pages.items = omega (arith, c.self.inside.pages.ok.0, c.len.ensures, c.if-page-len.true) in
    rw (← c.self.view_is)
    (paged_changed c.change.result c.self.inside.pages.items c.args.i c.index_mut.result.now c.change.new.self (changed_live c.args.at.offset c.args.change) low (page_read c.self.inside.pages.items (c.args.i / 64) c.index_mut.result.now low c.index_mut.ensures.value)
    c.change.ensures)
