use Rattle.std.proofs.Common.{arith}
use Rattle.byte_mem.proofs.PlaceLemmas.{place_found, within_read}
use Rattle.byte_mem.proofs.slots.Slots.get.Goals as goal

pub index-requires : goal.index-requires
index-requires c =
    let e = place_found c.self.inside.places.items c.deref.result.now c.args.i c.place_at.result c.in-Some.place c.deref.ensures.value c.place_at.ensures c.in-Some.is in
    let w = c.self.invariant.0 c.args.i c.in-Some.place e in
    omega (arith, w.0)

pub new-requires : goal.new-requires
new-requires c =
    let e = place_found c.self.inside.places.items c.deref.result.now c.args.i c.place_at.result c.in-Some.place c.deref.ensures.value c.place_at.ensures c.in-Some.is in
    within_read c.self.inside.regions.items c.self.inside.places.items c.args.i c.in-Some.place c.index.result.now c.self.invariant.0 e c.index.ensures
