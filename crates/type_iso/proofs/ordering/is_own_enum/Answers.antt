use Rattle.std.proofs.Common.{sym, ◌∙◌}
use Rattle.type_things.specs.Webs.{things_of}
use Rattle.type_iso.proofs.OrderSteps.{own_enum}
use Rattle.type_iso.proofs.ordering.is_own_enum.Goals as goal

pub returns-then-own-a : goal.returns-then-own-a
returns-then-own-a c = λ i. c.if-own-a.true (sym (c.in_ok-own.ensures.is c.args.a) ∙ i.0)

pub returns : goal.returns
returns c = own_enum (things_of c.args.web.now) c.args.standing.now c.args.a c.in_ok-head.field-0 c.is_enum.result c.in_ok-head.ensures c.is_enum.ensures (c.in_ok-own.ensures.is c.args.a ∙ c.if-own-a.false)
