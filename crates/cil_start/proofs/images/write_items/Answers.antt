use Rattle.std.proofs.Common.{map, ◌∙◌, arith}
use Rattle.type_graph.specs.Shapes.{shape}
use Rattle.cil_tree.specs.View.{item_of}
use Rattle.cil_start.specs.Loads.{program_in}
use Rattle.cil_start.proofs.Writings.{item_at, writing_next, writing_done}
use Rattle.cil_start.proofs.images.write_items.Goals as goal

pub write_item-requires-clause-model : goal.write_item-requires-clause-model
write_item-requires-clause-model c = c.loop-i.invariant.abi ∙ c.requires.model

pub write_item-requires-clause-fits : goal.write_item-requires-clause-fits
write_item-requires-clause-fits c =
    item_at (program_in c.args.l.now) (shape c.args.l.now.unit.now.graph.nodes c.args.t.0) c.args.items.now c.loop-i.i c.index-items-i.result c.requires.fits (omega arith) c.index-items-i.is

pub loop-i-preserved : goal.loop-i-preserved
loop-i-preserved c =
    writing_next c.args.l.now c.args.t.0 c.args.e c.args.mem.now c.loop-i.mem c.write_item.new.mem (map item_of c.args.items.now) c.args.items.now c.loop-i.i c.index-items-i.result c.requires.ready
    (item_at (program_in c.args.l.now) (shape c.args.l.now.unit.now.graph.nodes c.args.t.0) c.args.items.now c.loop-i.i c.index-items-i.result c.requires.fits (omega arith) c.index-items-i.is)
    (omega arith) c.index-items-i.is c.loop-i.invariant c.write_item.ensures

pub returns : goal.returns
returns c =
    writing_done c.args.l.now.unit.now.graph c.args.l.now.entities.now (shape c.args.l.now.unit.now.graph.nodes c.args.t.0) c.args.e c.args.mem.now c.loop-i.mem (map item_of c.args.items.now) c.args.items.now c.loop-i.i (omega arith) c.loop-i.invariant
