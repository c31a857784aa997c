use Rattle.std.proofs.Common.{[], get_or, refl, ◌∙◌}
use Rattle.cil_merge.specs.Listing.{marks_of}
use Rattle.cil_merge.specs.Numbering.{with_marks, marks}
use Rattle.cil_merge.proofs.ListingLaws.{units_next, units_end, listed}
use Rattle.cil_merge.proofs.globals.all_globals.Goals as goal

pub loop-u-preserved : goal.loop-u-preserved
loop-u-preserved c = (
  c.in_ok-add_unit.ensures.known,
  units_next c.args.units.now c.loop-u.u (get_or c.args.units.now c.loop-u.u c.index-units-u.result) c.index-units-u.result (marks c.loop-u.globals) (marks c.add_unit.new.self) (with_marks [] (marks_of c.args.units.now)) c.loop-u-test.true refl c.in_ok-add_unit.ensures.marks c.loop-u.invariant.1,
)

pub returns : goal.returns
returns c = units_end c.args.units.now c.loop-u.u (marks c.loop-u.globals) (with_marks [] (marks_of c.args.units.now)) c.loop-u-test.false c.loop-u.invariant.1 ∙ listed (marks_of c.args.units.now)
