use Rattle.byte_mem.specs.Object.{store_held}
use Rattle.byte_mem.proofs.PlaceLemmas.{place_found, place_below, stored_apart, slots_stored, slots_refused}
use Rattle.byte_mem.proofs.slots.Slots.store.Goals as goal

pub store_in-requires : goal.store_in-requires
store_in-requires c = c.self.invariant.0 c.args.i c.in_ok-place.place (place_found c.self.inside.places.items c.deref.result.now c.args.i c.place_at.result c.in_ok-place.place c.deref.ensures.value c.place_at.ensures c.in_ok-place.was)

pub invariant_of-self : goal.invariant_of-self
invariant_of-self c = rw c.in_err-_same.ensures.changed.1 c.self.invariant

pub returns-in_err-_same : goal.returns-in_err-_same
returns-in_err-_same c =
    let e = place_found c.self.inside.places.items c.deref.result.now c.args.i c.place_at.result c.in_ok-place.place c.deref.ensures.value c.place_at.ensures c.in_ok-place.was in
    rw (c.from_residual-in_err-_same.ensures, ← c.self.view_is)
    (slots_refused c.self.inside.regions.items c.store_in.new.regions.items c.self.inside.places.items c.args.i c.in_ok-place.place (λ h. store_held c.args.abi h c.args.at.offset c.args.s c.args.v) e c.in_err-_same.ensures.changed)

pub invariant_of-self-2 : goal.invariant_of-self-2
invariant_of-self-2 c =
    let e = place_found c.self.inside.places.items c.deref.result.now c.args.i c.place_at.result c.in_ok-place.place c.deref.ensures.value c.place_at.ensures c.in_ok-place.was in
    stored_apart c.in_ok-_same._same c.self.inside.regions.items c.store_in.new.regions.items c.self.inside.places.items c.args.i c.in_ok-place.place _ (place_below _ _ _ e) c.self.invariant e c.in_ok-_same.ensures.same c.in_ok-_same.ensures.changed

pub returns : goal.returns
returns c =
    let e = place_found c.self.inside.places.items c.deref.result.now c.args.i c.place_at.result c.in_ok-place.place c.deref.ensures.value c.place_at.ensures c.in_ok-place.was in
    rw (← c.self.view_is)
    (slots_stored _ c.in_ok-_same._same c.self.inside.regions.items c.store_in.new.regions.items c.self.inside.places.items c.args.i c.in_ok-place.place (λ h. store_held c.args.abi h c.args.at.offset c.args.s c.args.v) (place_below _ _ _ e) c.self.invariant e c.in_ok-_same.ensures.same c.in_ok-_same.ensures.changed)
