use Rattle.std.proofs.Common.{inl, sym, ◌∙◌}
use Rattle.type_iso.proofs.OrderSteps.{own_settled}
use Rattle.type_iso.proofs.ordering.aggregate_settled.Goals as goal

pub returns-then-own-x-clause-which : goal.returns-then-own-x-clause-which
returns-then-own-x-clause-which c = inl (λ e. c.if-own-x.true (sym (c.in_ok-own.ensures.is c.args.x) ∙ e))

pub returns-clause-which : goal.returns-clause-which
returns-clause-which c = own_settled c.args.standing.now c.args.head c.args.x c.is_enum.result c.is_enum.ensures (c.in_ok-own.ensures.is c.args.x ∙ c.if-own-x.false)
