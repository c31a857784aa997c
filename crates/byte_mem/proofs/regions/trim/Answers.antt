use Rattle.std.proofs.Common.{arith, length, ◌≤◌, ◌<◌}
use Rattle.byte_mem.proofs.PlaceLemmas.{trimmed_is, trimmed_past}
use Rattle.byte_mem.proofs.regions.trim.Goals as goal

pub returns-then-r-len : goal.returns-then-r-len
returns-then-r-len c =
    let low : c.args.r < length c.args.regions.now.items = omega (arith, c.args.regions.now.ok.0, c.len.ensures, c.if-r-len.true) in
    trimmed_is c.args.regions.now.items c.args.places.now c.args.r c.top_of-top.result c.index_mut.result.now c.cut.new.c low c.index_mut.ensures.value c.top_of-top.ensures c.cut.ensures

pub returns-else-r-len : goal.returns-else-r-len
returns-else-r-len c =
    let high : length c.args.regions.now.items ≤ c.args.r = omega (arith, c.args.regions.now.ok.0, c.len.ensures, c.if-r-len.false) in
    trimmed_past c.args.regions.now.items c.args.places.now c.args.r high
