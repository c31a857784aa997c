use Rattle.type_graph.specs.Shapes.{shape}
use Rattle.init_expand.proofs.ImageLaws.{rises_with, scalars_with}
use Rattle.init_expand.proofs.growing.Growing.add.Goals as goal

pub returns-clause-rises : goal.returns-clause-rises
returns-clause-rises c =
    rises_with c.args.types.now (shape c.args.types.now.nodes c.args.ty.0) (shape c.args.types.now.nodes c.in-Some.at.ty.0) c.args.self.now.least c.in-Some.at.offset c.in-Some-checked_add.least c.args.self.now.items.items c.push.new.self.items c.args.item c.deref.result.now
    c.deref.ensures.value c.in-Some.ensures.part c.if-at-self.false c.in-Some-checked_add.ensures.1 c.in_ok-push.ensures.items

pub returns-clause-scalars : goal.returns-clause-scalars
returns-clause-scalars c =
    scalars_with c.args.types.now (shape c.args.types.now.nodes c.args.ty.0) (shape c.args.types.now.nodes c.in-Some.at.ty.0) c.in-Some.at.offset c.args.self.now.items.items c.push.new.self.items c.args.item c.deref.result.now
    c.deref.ensures.value c.in-Some.ensures.part c.in-Some.ensures.scalar c.in_ok-push.ensures.items
