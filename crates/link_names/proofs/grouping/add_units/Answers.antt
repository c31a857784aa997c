use Rattle.link_names.proofs.GroupingLaws.{next_unit}
use Rattle.link_names.specs.Grouping.{found}
use Rattle.link_names.proofs.grouping.add_units.Goals as goal

pub loop-u-preserved : goal.loop-u-preserved
loop-u-preserved c = (
  c.in_ok-add_unit.ensures.step,
  next_unit c.args.units.now c.loop-u.u c.in_ok-unit_number.field-0 c.index-units-u.result _ _ (found c.loop-u.f) (found c.add_unit.new.f) _
      c.loop-u-test.true c.in_ok-unit_number.ensures.is c.index-units-u.is c.deref.ensures.value c.deref-in-loop-u.ensures.value c.in_ok-add_unit.ensures.added c.loop-u.invariant.1,
)
