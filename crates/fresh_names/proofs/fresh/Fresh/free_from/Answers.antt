use Rattle.std.proofs.Common.{sym, ◌∙◌}
use Rattle.fresh_names.proofs.NamingLaws.{next_taken, least_found, stays_twice}
use Rattle.fresh_names.proofs.fresh.Fresh.free_from.Goals as goal

pub returns-then-not-has-clause-least : goal.returns-then-not-has-clause-least
returns-then-not-has-clause-least c =
    least_found c.args.self.now.taken.keys c.loop-number.names c.suffixed.new.names c.args.base c.in_ok-name.name c.args.from c.loop-number.number c.in_ok-name.ensures.stays c.loop-number.invariant.1 c.in_ok-name.ensures.text (sym c.has.ensures ∙ c.if-not-has.true) c.loop-number.auto.number

pub loop-number-preserved : goal.loop-number-preserved
loop-number-preserved c = (
  stays_twice c.args.names.now c.loop-number.names c.suffixed.new.names c.loop-number.invariant.0 c.in_ok-name.ensures.stays,
  next_taken c.args.self.now.taken.keys c.loop-number.names c.suffixed.new.names c.args.base c.in_ok-name.name c.args.from c.loop-number.number c.in_ok-name.ensures.stays c.loop-number.invariant.1 c.in_ok-name.ensures.text (sym c.has.ensures ∙ c.if-not-has.false),
)
