use Rattle.std.proofs.Common.{subst, arith}
use Rattle.cil_bodies.specs.Maps.{MapsItem}
use Rattle.cil_bodies.proofs.DefinitionLaws.{items_map}
use Rattle.cil_bodies.proofs.Replaced.{replaced_start, replaced_next}
use Rattle.cil_bodies.proofs.definitions.map_image.Goals as goal

pub loop-i-init : goal.loop-i-init
loop-i-init c = replaced_start (MapsItem c.args.m.now) c.args.items.now.items

pub loop-i-preserved : goal.loop-i-preserved
loop-i-preserved c =
    replaced_next (MapsItem c.args.m.now) c.loop-i.i c.args.items.now.items c.loop-i.items.items c.index_mut.result.now c.map_item.new.item (omega (arith, c.loop-i-test.true, c.len-i-end.ensures)) c.loop-i.invariant
    (subst (λ x. MapsItem c.args.m.now x c.map_item.new.item) c.index_mut.ensures.value c.in_ok-map_item.ensures)

pub returns : goal.returns
returns c = items_map c.args.m.now c.loop-i.i c.args.items.now.items c.loop-i.items.items (omega (arith, c.loop-i-test.false, c.len-i-end.ensures)) c.loop-i.invariant
