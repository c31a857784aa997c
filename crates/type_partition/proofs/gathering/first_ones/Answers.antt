use Rattle.std.proofs.Common.{length, refl, ap, ◌∙◌, arith}
use Rattle.type_things.proofs.WebLaws.{push_length}
use Rattle.type_partition.proofs.FoundLaws.{things_step, firsts_step, firsts_end, fits_below, are_firsts}
use Rattle.type_partition.proofs.gathering.first_ones.Goals as goal

pub loop-x-preserved : goal.loop-x-preserved
loop-x-preserved c = record {
  found = c.in_ok-first_of.ensures.found;
  count = (let h = ap length c.in_ok-push.ensures.items ∙ push_length c.loop-x.all.items c.in_ok-first_of.field-0 in omega (arith, h, c.loop-x.invariant.count));
  things = things_step c.args.numbers.now c.loop-x.found.numbers.keys c.loop-x.found.things.items c.first_of.new.found.numbers.keys c.first_of.new.found.things.items c.loop-x.x _ (omega (arith, c.loop-x-test.true, c.in_ok-x-end.ensures)) refl c.in_ok-first_of.ensures.each c.loop-x.invariant.things;
  firsts = firsts_step c.args.numbers.now c.loop-x.found.numbers.keys c.loop-x.found.things.items c.first_of.new.found.numbers.keys c.first_of.new.found.things.items c.loop-x.all.items c.push.new.self.items c.loop-x.x _ c.in_ok-first_of.field-0 (omega (arith, c.loop-x-test.true, c.in_ok-x-end.ensures)) refl c.loop-x.invariant.count c.in_ok-push.ensures.items c.in_ok-first_of.ensures.grown.0 c.in_ok-first_of.ensures.grown.1 c.in_ok-first_of.ensures.there c.loop-x.invariant.firsts;
}

pub returns-clause-firsts : goal.returns-clause-firsts
returns-clause-firsts c =
    are_firsts c.args.numbers.now c.loop-x.all.items c.loop-x.found.numbers.keys c.loop-x.found.things.items c.loop-x.invariant.found.once (omega (arith, c.loop-x.invariant.count, c.loop-x-test.false, c.loop-x.auto.x-end, c.in_ok-x-end.ensures))
    (fits_below c.args.numbers.now c.type_inv.numbers) c.loop-x.invariant.things
    (firsts_end c.args.numbers.now c.loop-x.all.items c.loop-x.found.numbers.keys c.loop-x.found.things.items c.loop-x.x (omega (arith, c.loop-x-test.false, c.loop-x.auto.x-end, c.in_ok-x-end.ensures)) c.loop-x.invariant.firsts)
