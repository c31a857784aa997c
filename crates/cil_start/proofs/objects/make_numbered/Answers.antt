use Rattle.std.proofs.Common.{◌≡◌, get_or, sym, rules, arith}
use Rattle.cil_link.specs.Units.{programs_in, units_in}
use Rattle.cil_link.proofs.UnitLaws.{unit_there}
use Rattle.cil_start.specs.Loads.{loaded_in}
use Rattle.cil_start.proofs.UnitLaws.{loaded_low, model_at}
use Rattle.cil_start.proofs.ObjectLaws.{global_at, numbered_made}
use Rattle.cil_start.proofs.objects.make_numbered.Goals as goal

pub unit-u-requires-clause-there : goal.unit-u-requires-clause-there
unit-u-requires-clause-there c = unit_there c.args.l.now.linked c.args.unit c.args.global c.requires.there

pub index-x-requires : goal.index-x-requires
index-x-requires c =
    let r = c.unit-u.result in
    omega (arith, loaded_low c.args.l.now.linked c.args.unit c.args.global r c.requires.there c.unit-u.ensures.unit, r.unit.now.globals.ok.0)

pub make_global-requires-clause-model : goal.make_global-requires-clause-model
make_global-requires-clause-model c = sym (model_at c.args.mem.now.abi (programs_in c.args.l.now.linked) c.args.unit.0 (loaded_in c.unit-u.result) c.requires.model c.unit-u.ensures.unit)

pub make_global-requires-clause-fits : goal.make_global-requires-clause-fits
make_global-requires-clause-fits c =
    let r = c.unit-u.result in
    let is : c.index-x.result.now ≡ get_or r.unit.now.globals.items c.args.global.0 c.index-x.result.now = search rules in
    global_at r c.args.global.0 c.index-x.result.now c.unit-u.ensures.ready (loaded_low c.args.l.now.linked c.args.unit c.args.global r c.requires.there c.unit-u.ensures.unit) is

pub returns : goal.returns
returns c =
    let r = c.unit-u.result in
    let is : c.index-x.result.now ≡ get_or r.unit.now.globals.items c.args.global.0 c.index-x.result.now = search rules in
    numbered_made (units_in c.args.l.now.linked) r c.make_global.result c.args.mem.now c.make_global.new.mem c.args.e c.args.global c.args.unit c.index-x.result.now c.unit-u.ensures.unit
    (loaded_low c.args.l.now.linked c.args.unit c.args.global r c.requires.there c.unit-u.ensures.unit) is c.make_global.ensures
