use Rattle.byte_mem.specs.Change.{changed_held}
use Rattle.byte_mem.proofs.PlaceLemmas.{place_found, place_below, changed_apart, slots_changed, slots_refused}
use Rattle.byte_mem.proofs.slots.Slots.change.Goals as goal

pub change_in-requires : goal.change_in-requires
change_in-requires c = c.self.invariant.0 c.args.i c.in_ok-place.place (place_found c.self.inside.places.items c.deref.result.now c.args.i c.place_at.result c.in_ok-place.place c.deref.ensures.value c.place_at.ensures c.in_ok-place.was)

pub invariant_of-self : goal.invariant_of-self
invariant_of-self c = rw c.in_err-changed.ensures.1 c.self.invariant

pub returns-in_err-changed : goal.returns-in_err-changed
returns-in_err-changed c =
    let e = place_found c.self.inside.places.items c.deref.result.now c.args.i c.place_at.result c.in_ok-place.place c.deref.ensures.value c.place_at.ensures c.in_ok-place.was in
    rw (c.from_residual-in_err-changed.ensures, ← c.self.view_is)
    (slots_refused c.self.inside.regions.items c.change_in.new.regions.items c.self.inside.places.items c.args.i c.in_ok-place.place (changed_held c.args.at.offset c.args.change) e c.in_err-changed.ensures)

pub invariant_of-self-2 : goal.invariant_of-self-2
invariant_of-self-2 c =
    let e = place_found c.self.inside.places.items c.deref.result.now c.args.i c.place_at.result c.in_ok-place.place c.deref.ensures.value c.place_at.ensures c.in_ok-place.was in
    changed_apart c.in_ok-changed.changed c.self.inside.regions.items c.change_in.new.regions.items c.self.inside.places.items c.args.i c.in_ok-place.place _ (place_below _ _ _ e) c.self.invariant e c.in_ok-changed.ensures

pub returns : goal.returns
returns c =
    let e = place_found c.self.inside.places.items c.deref.result.now c.args.i c.place_at.result c.in_ok-place.place c.deref.ensures.value c.place_at.ensures c.in_ok-place.was in
    rw (← c.self.view_is)
    (slots_changed _ c.in_ok-changed.changed c.self.inside.regions.items c.change_in.new.regions.items c.self.inside.places.items c.args.i c.in_ok-place.place (changed_held c.args.at.offset c.args.change) (place_below _ _ _ e) c.self.invariant e c.in_ok-changed.ensures)
