use Rattle.std.proofs.Common.{arith}
use Rattle.type_things.specs.Units.{type_thing}
use Rattle.type_things.proofs.WovenSteps.{adds_start, adds_next, adds_end}
use Rattle.type_things.proofs.web.Weaving.add_types.Goals as goal

pub loop-t-init : goal.loop-t-init
loop-t-init c = adds_start (type_thing c.args.self.now.first.aggregate c.args.self.now.first.ty) c.args.g.now.nodes c.args.web.now c.requires

pub add_type-requires : goal.add_type-requires
add_type-requires c = c.loop-t.invariant.spanned

pub loop-t-preserved : goal.loop-t-preserved
loop-t-preserved c = adds_next (type_thing c.args.self.now.first.aggregate c.args.self.now.first.ty) c.args.g.now.nodes c.loop-t.t c.node.result.now c.args.web.now c.loop-t.web c.add_type.new.web c.node.ensures.node c.loop-t.invariant c.in_ok-add_type.ensures

pub returns : goal.returns
returns c = adds_end (type_thing c.args.self.now.first.aggregate c.args.self.now.first.ty) c.args.g.now.nodes c.loop-t.t c.args.web.now c.loop-t.web (omega (arith, c.loop-t-test.false, c.len-t-end.ensures.count)) c.loop-t.invariant
