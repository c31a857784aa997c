use Rattle.type_things.specs.Webs.{things_of}
use Rattle.type_joins.proofs.AgreeLaws.{heads_apart, agree_both, agree_first, agree_second}
use Rattle.type_joins.proofs.joining.agree.Goals as goal

pub returns-then-ne : goal.returns-then-ne
returns-then-ne c = heads_apart (things_of c.args.web.now) c.args.s c.args.t c.in_ok-head.field-0 c.in_ok-head-2.field-0 c.ne.result c.in_ok-head.ensures c.in_ok-head-2.ensures c.if-ne.true c.ne.ensures

pub returns-in-Some-Some : goal.returns-in-Some-Some
returns-in-Some-Some c =
    agree_both (things_of c.args.web.now) c.args.s c.args.t c.in_ok-head.field-0 c.in_ok-head-2.field-0 c.in_ok-inside.field-0 c.in_ok-right.field-0 c.in-Some-Some.left c.in-Some-Some.right c.same_labels.result c.ne.result c.in_ok-head.ensures c.in_ok-head-2.ensures c.if-ne.false c.ne.ensures
    c.in_ok-inside.ensures c.in_ok-right.ensures c.in-Some-Some.is-0 c.in-Some-Some.is-1 c.same_labels.ensures.same c.same_labels.ensures.apart

pub returns-in_default : goal.returns-in_default
returns-in_default c = agree_second (things_of c.args.web.now) c.args.s c.args.t c.in_ok-head.field-0 c.in_ok-head-2.field-0 c.in_ok-right.field-0 c.ne.result c.in_ok-head.ensures c.in_ok-head-2.ensures c.if-ne.false c.ne.ensures c.in_ok-right.ensures c.in_default.is-1

pub returns-in_default-2 : goal.returns-in_default-2
returns-in_default-2 c = agree_first (things_of c.args.web.now) c.args.s c.args.t c.in_ok-head.field-0 c.in_ok-head-2.field-0 c.in_ok-inside.field-0 c.ne.result c.in_ok-head.ensures c.in_ok-head-2.ensures c.if-ne.false c.ne.ensures c.in_ok-inside.ensures c.in_default.is-0
