use Rattle.std.proofs.lemmas.Grind.{common_steps}
use Rattle.std.proofs.Common.{subst, arith}
use Rattle.cil_tree.specs.declared.expressions.Exp as declared
use Rattle.cil_bodies.specs.Maps.{MapsLval, MapsOffset}
use Rattle.cil_bodies.proofs.MapLaws.{value_maps, address_maps, start_maps, offsets_map}
use Rattle.cil_bodies.proofs.Replaced.{on_ok, replaced_start, replaced_next, unvisited_next}
use Rattle.cil_bodies.proofs.expressions.+rewrite.Goals as goal

pub map_exp-returns-in-Lval : goal.map_exp-returns-in-Lval
unfolding declared.out-Exp denote.Hole.Carrier.out
map_exp-returns-in-Lval t c =
    on_ok c.map_place.result (λ is. rw c.in-Lval.is (value_maps c.args.m.now c.in-Lval.place c.map_place.new.place (subst (λ k. MapsLval c.args.m.now k c.map_place.new.place) c.in-Lval.place-is is))) c.map_place.ensures

pub map_exp-returns-in-AddrOf : goal.map_exp-returns-in-AddrOf
unfolding declared.out-Exp denote.Hole.Carrier.out
map_exp-returns-in-AddrOf t c =
    on_ok c.map_place-in-AddrOf.result (λ is. rw c.in-AddrOf.is (address_maps c.args.m.now c.in-AddrOf.place c.map_place-in-AddrOf.new.place (subst (λ k. MapsLval c.args.m.now k c.map_place-in-AddrOf.new.place) c.in-AddrOf.place-is is))) c.map_place-in-AddrOf.ensures

pub map_exp-returns-in-StartOf : goal.map_exp-returns-in-StartOf
unfolding declared.out-Exp denote.Hole.Carrier.out
map_exp-returns-in-StartOf t c =
    on_ok c.map_place-in-StartOf.result (λ is. rw c.in-StartOf.is (start_maps c.args.m.now c.in-StartOf.place c.map_place-in-StartOf.new.place (subst (λ k. MapsLval c.args.m.now k c.map_place-in-StartOf.new.place) c.in-StartOf.place-is is))) c.map_place-in-StartOf.ensures

pub map_offsets-loop-i-init : goal.map_offsets-loop-i-init
map_offsets-loop-i-init t c = record { unvisited = grind (arith, common_steps); replaced = replaced_start (MapsOffset c.args.m.now) c.args.offsets.now.items }

pub map_offsets-loop-i-preserved : goal.map_offsets-loop-i-preserved
map_offsets-loop-i-preserved t c = record {
  unvisited = unvisited_next c.loop-i.i c.args.offsets.now.items c.loop-i.offsets.items c.map_offset.new.offset c.loop-i.invariant.unvisited;
  replaced =
      replaced_next (MapsOffset c.args.m.now) c.loop-i.i c.args.offsets.now.items c.loop-i.offsets.items c.index_mut.result.now c.map_offset.new.offset (omega (arith, c.loop-i-test.true, c.len-i-end.ensures)) c.loop-i.invariant.replaced
      (subst (λ o. MapsOffset c.args.m.now o c.map_offset.new.offset) c.index_mut.ensures.value c.in_ok-map_offset.ensures);
}

pub map_offsets-returns : goal.map_offsets-returns
map_offsets-returns t c = offsets_map c.args.m.now c.loop-i.i c.args.offsets.now.items c.loop-i.offsets.items (omega (arith, c.loop-i-test.false, c.len-i-end.ensures)) c.loop-i.invariant.replaced
