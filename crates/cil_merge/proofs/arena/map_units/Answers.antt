use Rattle.std.proofs.Common.{ℕ, length, get_or, refl, sym, subst}
use Rattle.cil_merge.specs.Classes.{AreClassesOf}
use Rattle.cil_merge.proofs.ClassLaws.{mapped_next}
use Rattle.cil_merge.proofs.GainLaws.{gains_more}
use Rattle.cil_merge.proofs.arena.map_units.Goals as goal

pub loop-u-preserved : goal.loop-u-preserved
loop-u-preserved c = (
  mapped_next c.args.classes.now c.args.units.now c.loop-u.graph c.map_graph.new.to c.loop-u.all.items c.push.new.self.items c.loop-u.u (get_or c.args.units.now c.loop-u.u c.index-units-u.result) c.index-units-u.result c.deref.result.now c.in_ok-map_graph.field-0 c.loop-u.invariant.0 c.in_ok-map_graph.ensures.grows c.loop-u-test.true refl
      (subst (AreClassesOf c.args.classes.now c.loop-u.u (length (get_or c.args.units.now c.loop-u.u c.index-units-u.result).cil.graph.aggs)) (sym c.deref.ensures.value) (subst (λ (w : ℕ). AreClassesOf c.args.classes.now w (length (get_or c.args.units.now c.loop-u.u c.index-units-u.result).cil.graph.aggs) c.in_ok-table.table.items) c.in_ok-unit_number.ensures.is c.in_ok-table.ensures)) c.in_ok-map_graph.ensures.count c.in_ok-map_graph.ensures.maps c.in_ok-push.ensures.items,
  gains_more c.args.graph.now c.loop-u.graph c.map_graph.new.to c.loop-u.invariant.1 c.in_ok-map_graph.ensures.grows c.in_ok-map_graph.ensures.aggregates.0,
)
