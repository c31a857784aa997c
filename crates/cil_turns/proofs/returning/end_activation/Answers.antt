use Rattle.std.proofs.Common.{ℕ, ap, subst}
use Rattle.cil_code.specs.Taking.{datum_of}
use Rattle.cil_turns.specs.Standing.{waiting_burden, Falls}
use Rattle.cil_turns.proofs.Returns.{ends_turned}
use Rattle.cil_turns.proofs.returning.end_activation.Goals as goal

pub returns-in-Ok-clause-turned : goal.returns-in-Ok-clause-turned
returns-in-Ok-clause-turned c table w =
    ends_turned table c.args.run.now c.leave_activation.new.run c.resume.new.run c.args.act c.args.f.now (datum_of c.args.d.now) c.resume.result c.in-Ok.ensures.ended w (c.resume.ensures.turned table)

pub returns-in-Ok-clause-falls : goal.returns-in-Ok-clause-falls
returns-in-Ok-clause-falls c table =
    subst (λ (n : ℕ). Falls table n c.resume.new.run c.resume.result) (ap (waiting_burden table) c.in-Ok.ensures.ended.others) (c.resume.ensures.falls table)
