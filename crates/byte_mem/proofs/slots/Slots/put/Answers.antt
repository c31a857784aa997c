use Rattle.std.proofs.Common.{arith, length, ◌<◌}
use Rattle.byte_mem.proofs.SlotLemmas.{put_failed}
use Rattle.byte_mem.proofs.PlaceLemmas.{added_apart, added_slot, failed_apart, failed_slot, same_slot}
use Rattle.byte_mem.proofs.slots.Slots.put.Goals as goal

pub returns-in_err-grow : goal.returns-in_err-grow
returns-in_err-grow c =
    rw (← c.self.view_is) (put_failed c.from_residual.result _ _ c.args.i _ c.from_residual.ensures.0 (λ k. same_slot c.self.inside.regions.items c.self.inside.places.items c.grow.new.places.items k c.grow.ensures.same))

pub invariant_of-self-in_err-place : goal.invariant_of-self-in_err-place
invariant_of-self-in_err-place c = failed_apart _ _ _ _ c.self.invariant c.grow.ensures.same c.place_new.ensures.grown

pub returns-in_err-place : goal.returns-in_err-place
returns-in_err-place c =
    rw (← c.self.view_is)
    (put_failed c.from_residual-in_err-place.result _ _ c.args.i _ c.from_residual-in_err-place.ensures.0
    (λ k. failed_slot c.self.inside.regions.items c.place_new.new.regions.items c.self.inside.places.items c.grow.new.places.items k c.self.invariant c.grow.ensures.same c.place_new.ensures.grown))

pub invariant_of-self-2 : goal.invariant_of-self-2
invariant_of-self-2 c =
    let low : c.args.i < length c.grow.new.places.items = omega (arith, c.grow.new.places.ok.0, c.in_ok-grow.ensures.long) in
    added_apart c.self.inside.regions.items c.place_new.new.regions.items c.give_up.new.regions.items c.self.inside.places.items c.grow.new.places.items c.deref-2.result.now c.args.i c.args.b.now c.in_ok-place.place c.place_at-before.result c.self.invariant c.grow.ensures.same low
    c.place_new.ensures.grown c.in_ok-place.ensures.placed c.deref-2.ensures.value c.give_up.ensures

pub returns : goal.returns
returns c =
    let low : c.args.i < length c.grow.new.places.items = omega (arith, c.grow.new.places.ok.0, c.in_ok-grow.ensures.long) in
    rw (← c.self.view_is)
    (added_slot c.self.inside.regions.items c.place_new.new.regions.items c.give_up.new.regions.items c.self.inside.places.items c.grow.new.places.items c.deref-2.result.now c.args.i c.args.b.now c.in_ok-place.place c.place_at-before.result c.self.invariant c.grow.ensures.same low
    c.place_new.ensures.grown c.in_ok-place.ensures.placed c.deref-2.ensures.value c.give_up.ensures)
