use Rattle.byte_mem.specs.declared.pointers.ObjName.TheVariants.{Entity}
use Rattle.byte_mem.specs.Store.{memory}
use Rattle.cil_tree.specs.View.{item_of}
use Rattle.cil_start.proofs.Writings.{item_low, item_put, item_none}
use Rattle.cil_start.proofs.images.write_item.Goals as goal

pub put-requires : goal.put-requires
put-requires c = item_low c.args.l.now c.args.t.0 (item_of c.args.x.now) (memory c.args.mem.now (Entity c.args.e)) c.in-Some.w c.requires.ready c.requires.fits c.requires.object c.in-Some.ensures

pub returns-in-Some : goal.returns-in-Some
returns-in-Some c = item_put c.args.l.now c.args.t.0 (item_of c.args.x.now) c.args.e c.args.mem.now c.put.new.mem c.in-Some.w c.requires.ready c.requires.model c.requires.fits c.requires.object c.in-Some.ensures c.put.ensures

pub returns-in-None : goal.returns-in-None
returns-in-None c = absurd (item_none c.args.l.now c.args.t.0 (item_of c.args.x.now) (memory c.args.mem.now (Entity c.args.e)) c.requires.ready c.requires.fits c.requires.object c.in-None.ensures)
