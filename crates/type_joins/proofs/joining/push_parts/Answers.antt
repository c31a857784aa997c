use Rattle.type_things.specs.Webs.{things_of}
use Rattle.type_joins.proofs.AgreeLaws.{carried_full, carried_first, carried_second}
use Rattle.type_joins.proofs.joining.push_parts.Goals as goal

pub returns-in-Some-Some : goal.returns-in-Some-Some
returns-in-Some-Some c =
    carried_full (things_of c.args.web.now) c.push_zipped.result c.args.work.now.items c.push_zipped.new.work.items c.args.s c.args.t c.in_ok-inside.field-0 c.in_ok-right.field-0 c.in-Some-Some.left c.in-Some-Some.right
    c.in_ok-inside.ensures c.in_ok-right.ensures c.in-Some-Some.is-0 c.in-Some-Some.is-1 c.push_zipped.ensures

pub returns-in_default : goal.returns-in_default
returns-in_default c = carried_second (things_of c.args.web.now) c.args.work.now.items c.args.s c.args.t c.in_ok-right.field-0 c.in_ok-right.ensures c.in_default.is-1

pub returns-in_default-2 : goal.returns-in_default-2
returns-in_default-2 c = carried_first (things_of c.args.web.now) c.args.work.now.items c.args.s c.args.t c.in_ok-inside.field-0 c.in_ok-inside.ensures c.in_default.is-0
