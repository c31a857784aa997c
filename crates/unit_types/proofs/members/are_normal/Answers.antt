use Rattle.std.proofs.Common.{sym, ◌∙◌}
use Rattle.unit_types.proofs.MemberLists.{normal_stops, normal_next, normal_ends}
use Rattle.unit_types.proofs.members.are_normal.Goals as goal

pub returns-then-not-has_normal_form : goal.returns-then-not-has_normal_form
returns-then-not-has_normal_form c = normal_stops c.args.g.now c.args.members.now c.loop-i.i _ c.loop-i-test.true (sym c.has_normal_form.ensures ∙ c.if-not-has_normal_form.true) c.loop-i.invariant

pub loop-i-preserved : goal.loop-i-preserved
loop-i-preserved c = normal_next c.args.g.now c.args.members.now c.loop-i.i _ c.loop-i-test.true (sym c.has_normal_form.ensures ∙ c.if-not-has_normal_form.false) c.loop-i.invariant

pub returns : goal.returns
returns c = normal_ends c.args.g.now c.args.members.now c.loop-i.i c.loop-i-test.false c.loop-i.invariant
