use Rattle.std.proofs.Common.{get_or, arith}
use Rattle.type_things.specs.Units.{member_part}
use Rattle.type_things.proofs.WeaveLaws.{label_part, members_start, members_next, members_end}
use Rattle.type_things.proofs.web.Weaving.push_members.Goals as goal

pub loop-m-init : goal.loop-m-init
loop-m-init c = λ names h. members_start (member_part names c.args.kind c.args.self.now.first.ty) c.args.parts.now.items c.args.members.now

pub loop-m-preserved : goal.loop-m-preserved
loop-m-preserved c = λ names h. members_next (member_part names c.args.kind c.args.self.now.first.ty) c.loop-m.parts.items c.push_part.new.parts.items c.args.parts.now.items c.args.members.now c.loop-m.m-index _ c.loop-m-test.true
    (label_part names c.args.kind c.args.self.now.first.ty (get_or c.args.members.now c.loop-m.m-index _) c.in_ok-label.label c.loop-m.parts.items c.push_part.new.parts.items (c.in_ok-label.ensures names h) c.in_ok-push_part.ensures) (c.loop-m.invariant names h)

pub returns : goal.returns
returns c = λ names h. members_end (member_part names c.args.kind c.args.self.now.first.ty) c.loop-m.parts.items c.args.parts.now.items c.args.members.now c.loop-m.m-index (omega (arith, c.loop-m-test.false)) (c.loop-m.invariant names h)
