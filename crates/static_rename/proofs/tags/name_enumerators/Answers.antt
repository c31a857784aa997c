use Rattle.static_rename.specs.Tagging.{lists, given_filed}
use Rattle.static_rename.proofs.TagLaws.{enumerators_named}
use Rattle.static_rename.proofs.tags.name_enumerators.Goals as goal

pub returns : goal.returns
returns c = enumerators_named c.args.classes.now (given_filed 0 c.args.filed.now) c.args.units.now c.args.stands.now (lists c.in_ok-all.all.items) (lists c.put_all_things.new.all.items) c.in_ok-all.ensures c.in_ok-put_all_things.ensures
