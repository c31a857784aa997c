use Rattle.std.proofs.Common.{◌≡◌, get_or, rules, arith}
use Rattle.cil_tree.specs.View.{global_of}
use Rattle.cil_link.specs.Units.{programs_in}
use Rattle.cil_link.proofs.UnitLaws.{unit_there}
use Rattle.cil_link.proofs.Programs.{global_there}
use Rattle.cil_start.specs.Loads.{loaded_in}
use Rattle.cil_start.proofs.UnitLaws.{loaded_low}
use Rattle.cil_table.proofs.Tables.{numbered_entry}
use Rattle.cil_table.proofs.table.load_numbered.Goals as goal

pub unit-u-requires-clause-there : goal.unit-u-requires-clause-there
unit-u-requires-clause-there c = unit_there c.args.l.now.linked c.args.unit c.args.global c.requires.there

pub index-x-requires : goal.index-x-requires
index-x-requires c =
    let r = c.unit-u.result in
    omega (arith, loaded_low c.args.l.now.linked c.args.unit c.args.global r c.requires.there c.unit-u.ensures.unit, r.unit.now.globals.ok.0)

pub load_global-requires-clause-global : goal.load_global-requires-clause-global
load_global-requires-clause-global c =
    let l = c.unit-u.result in
    let is : c.index-x.result.now ≡ get_or l.unit.now.globals.items c.args.global.0 c.index-x.result.now = search rules in
    record { number = c.args.global.0; there = global_there l.unit.now l.names.now c.args.global.0 c.index-x.result.now (loaded_low c.args.l.now.linked c.args.unit c.args.global l c.requires.there c.unit-u.ensures.unit) is }

pub returns : goal.returns
returns c =
    let l = c.unit-u.result in
    let is : c.index-x.result.now ≡ get_or l.unit.now.globals.items c.args.global.0 c.index-x.result.now = search rules in
    numbered_entry (programs_in c.args.l.now.linked) c.args.unit c.args.global (loaded_in l) (global_of l.unit.now.graph.nodes l.names.now c.index-x.result.now) c.load_global.result c.unit-u.ensures.unit
    (global_there l.unit.now l.names.now c.args.global.0 c.index-x.result.now (loaded_low c.args.l.now.linked c.args.unit c.args.global l c.requires.there c.unit-u.ensures.unit) is) c.load_global.ensures
