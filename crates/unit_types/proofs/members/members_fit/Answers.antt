use Rattle.unit_types.proofs.MemberLists.{fit_stops, fit_next, fit_ends}
use Rattle.unit_types.proofs.members.members_fit.Goals as goal

pub returns-then-not-member_fits : goal.returns-then-not-member_fits
returns-then-not-member_fits c = fit_stops c.args.g.now c.args.kind c.args.members.now c.loop-i.i _ _ c.loop-i-test.true c.member_fits.ensures c.if-not-member_fits.true c.loop-i.invariant

pub loop-i-preserved : goal.loop-i-preserved
loop-i-preserved c = fit_next c.args.g.now c.args.kind c.args.members.now c.loop-i.i _ _ c.loop-i-test.true c.member_fits.ensures c.if-not-member_fits.false c.loop-i.invariant

pub returns : goal.returns
returns c = fit_ends c.args.g.now c.args.kind c.args.members.now c.loop-i.i c.loop-i-test.false c.loop-i.invariant
