use Rattle.byte_mem.proofs.PlaceLemmas.{cleared_apart, cleared_slot}
use Rattle.byte_mem.proofs.slots.Slots.clear.Goals as goal

pub invariant_of-self : goal.invariant_of-self
invariant_of-self c =
    cleared_apart c.self.inside.regions.items c.give_up.new.regions.items c.self.inside.places.items c.empty.new.places.items c.deref-2.result.now c.deref-3.result.now c.truncate.new.self.items c.args.i c.used-last.result c.empty.ensures c.self.invariant c.place_at-before.result
    c.deref-2.ensures.value c.give_up.ensures c.deref-3.ensures.value c.used-last.ensures.rest c.truncate.ensures.items

pub returns : goal.returns
returns c =
    rw (← c.self.view_is)
    (cleared_slot c.self.inside.regions.items c.give_up.new.regions.items c.self.inside.places.items c.empty.new.places.items c.deref-2.result.now c.deref-3.result.now c.truncate.new.self.items c.args.i c.used-last.result c.empty.ensures c.self.invariant c.place_at-before.result c.deref-2.ensures.value
    c.give_up.ensures c.deref-3.ensures.value c.used-last.ensures.rest c.truncate.ensures.items)
