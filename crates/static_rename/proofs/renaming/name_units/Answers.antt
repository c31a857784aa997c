use Rattle.std.proofs.Common.{arith}
use Rattle.static_rename.specs.Tagging.{named_by}
use Rattle.static_rename.specs.Unit.{NamesUnit}
use Rattle.static_rename.proofs.EachLaws.{as_many}
use Rattle.static_rename.proofs.renaming.name_units.Goals as goal

pub index_mut-requires : goal.index_mut-requires
index_mut-requires c =
    let many = as_many (NamesUnit (named_by c.args.types.now) c.args.file.now.names.taken.keys c.loop-u.names c.args.types.now.bases c.args.filed.now) c.loop-u.u c.args.units.now.items c.loop-u.units.items c.loop-u.invariant.3 in
    omega (arith, many, c.loop-u-test.true, c.len-u-end.ensures)
