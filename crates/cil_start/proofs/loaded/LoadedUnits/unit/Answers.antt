use Rattle.std.proofs.Common.{get_or, arith, refl, ap}
use Rattle.cil_link.proofs.UnitLaws.{numbers_there}
use Rattle.cil_start.proofs.UnitLaws.{layouts_there, unit_ready, unit_seen}
use Rattle.cil_start.proofs.loaded.LoadedUnits.unit.Goals as goal

pub bounds-self-k-2 : goal.bounds-self-k-2
bounds-self-k-2 c = layouts_there c.args.self.now c.args.k c.requires.ready c.requires.there

pub index-requires : goal.index-requires
index-requires c = omega (arith, numbers_there c.args.self.now.linked c.args.k c.requires.ready.linked c.requires.there, c.args.self.now.linked.entities.now.numbers.ok.0)

pub returns-clause-ready : goal.returns-clause-ready
returns-clause-ready c =
    let l = c.args.self.now in
    unit_ready l c.args.k _ c.index.result.now c.requires.ready c.requires.there (ap (get_or l.linked.units.now c.args.k) c.index-self-k.is) refl (ap (get_or l.layouts.now c.args.k) c.index-self-k-2.is) c.index.ensures c.as_slice.ensures.value

pub returns-clause-unit : goal.returns-clause-unit
returns-clause-unit c =
    let l = c.args.self.now in
    unit_seen l c.args.k _ c.index.result.now c.as_slice.result.now c.requires.ready c.requires.there (ap (get_or l.linked.units.now c.args.k) c.index-self-k.is) c.index.ensures c.as_slice.ensures.value
