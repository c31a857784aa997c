use Rattle.std.proofs.Common.{◌<◌, length, rules}
use Rattle.static_rename.proofs.FilingLaws.{files_next}
use Rattle.static_rename.proofs.files.file_units.Goals as goal

pub loop-u-preserved : goal.loop-u-preserved
loop-u-preserved c =
    let few : c.loop-u.u < length c.args.stands.now = search rules in
    files_next c.args.bases c.args.stands.now c.args.units.now c.loop-u.u c.index-stands-u.result c.deref.result.now c.index-units-u.result c.args.fresh.now.taken.keys c.loop-u.fresh.taken.keys c.file_unit.new.fresh.taken.keys c.loop-u.fresh.next.entries c.file_unit.new.fresh.next.entries c.args.names.now c.loop-u.names c.file_unit.new.names c.loop-u.all.items c.push.new.self.items c.in_ok-file_unit.field-0
    few c.loop-u-test.true c.index-stands-u.is c.deref.ensures.value c.index-units-u.is c.loop-u.invariant c.in_ok-file_unit.ensures.filed c.in_ok-push.ensures.items
