use Rattle.type_things.specs.Webs.{things_of}
use Rattle.type_joins.proofs.AgreeLaws.{choose_full, choose_none}
use Rattle.type_joins.proofs.joining.choose.Goals as goal

pub returns-then-branch : goal.returns-then-branch
returns-then-branch c = choose_full (things_of c.args.web.now) c.args.s c.args.t c.in_ok-is_complete.field-0 c.in_ok-is_complete.ensures c.if-branch.true

pub returns : goal.returns
returns c = choose_none (things_of c.args.web.now) c.args.s c.args.t c.in_ok-is_complete.field-0 c.in_ok-is_complete.ensures c.if-branch.false
