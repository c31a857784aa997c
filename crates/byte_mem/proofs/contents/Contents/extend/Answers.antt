use Rattle.std.proofs.Common.{arith, length, ap, sym, ◌≡◌, ◌∙◌, ◌+◌, ◌<◌, ◌^◌, vec_len}
use Rattle.byte_mem.proofs.ContentsLemmas.{extended_kept, extended_seen, length_seen}
use Rattle.byte_mem.proofs.contents.Contents.extend.Goals as goal

pub invariant_of-self-2 : goal.invariant_of-self-2
invariant_of-self-2 c =
    let long : length c.self.inside.cells.items ≡ length c.args.self.now = sym (length_seen c.self.inside.cells.items c.self.inside.pointers.items) ∙ ap length c.self.view_is in
    let many = c.self.inside.cells.ok.0 in
    let room : vec_len c.self.inside.cells + c.args.n < 2 ^ 32 = omega (arith, many, c.requires.room) in
    rw c.take_room.ensures.items
    (extended_kept c.self.inside.cells.items c.resize.new.self.items c.self.inside.pointers.items c.args.n (vec_len c.self.inside.cells) _ c.plain_cell.result c.args.fill c.requires.plain c.plain_cell.ensures many (simp c.len.ensures at c.in_ok-resize.ensures.items)
    c.self.invariant.0 (simp c.len.ensures at c.in_ok-take_room.ensures.taken) room)

pub returns : goal.returns
returns c =
    rw (c.take_room.ensures.items, ← c.self.view_is)
    (extended_seen c.self.inside.cells.items c.resize.new.self.items c.self.inside.pointers.items c.args.n (vec_len c.self.inside.cells) c.plain_cell.result c.args.fill c.requires.plain c.plain_cell.ensures c.self.inside.cells.ok.0 (simp c.len.ensures at c.in_ok-resize.ensures.items))
