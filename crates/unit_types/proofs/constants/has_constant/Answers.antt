use Rattle.unit_types.proofs.ConstantLaws.{itself, by_part, outside}
use Rattle.unit_types.proofs.constants.has_constant.Goals as goal

pub returns-then-q : goal.returns-then-q
returns-then-q c = itself c.args.g.now c.args.q.quals _ c.if-q.true

pub returns-then-q-len : goal.returns-then-q-len
returns-then-q-len c = by_part c.args.g.now c.args.q.quals _ _ c.if-q.false c.has_constant_part.ensures

pub returns-else-q-len : goal.returns-else-q-len
returns-else-q-len c = outside c.args.g.now c.args.q.quals c.args.q.of.0 c.len.result c.if-q.false c.len.ensures.count c.if-q-len.false
