use Rattle.std.proofs.Common.{refl, subst}
use Rattle.cil_frames.specs.declared.courses.Stop.{Stop}
use Rattle.cil_turns.specs.Turning.{StopsAt}
use Rattle.cil_turns.proofs.Courses.{stands_there, ended_none, ended_some, ended_falls}
use Rattle.cil_turns.proofs.turns.behind_course.Goals as goal

pub call_at-requires-clause-stands : goal.call_at-requires-clause-stands
call_at-requires-clause-stands g c =
    stands_there c.args.table.now c.args.run.now c.args.x _ c.args.f.now c.in-Call.q (subst (λ (y : Stop). StopsAt c.args.table.now c.args.run.now c.args.x c.args.f.now y) c.in-Call.is c.requires) refl

pub returns-in-Ended-None-clause-turned : goal.returns-in-Ended-None-clause-turned
returns-in-Ended-None-clause-turned g c =
    ended_none c.args.table.now c.args.run.now c.end_activation.new.run c.args.x c.args.f.now c.args.stop c.in-Ended-None.field-0 c.end_activation.result _ _ c.in-Ended-None.is c.in-Ended-None.field-0-is (c.end_activation.ensures.turned c.args.table.now c.requires.waits)

pub returns-in-Ended-None-clause-falls : goal.returns-in-Ended-None-clause-falls
returns-in-Ended-None-clause-falls g c = ended_falls c.args.table.now c.args.run.now c.end_activation.new.run c.args.x c.args.stop c.in-Ended-None.field-0 c.end_activation.result c.in-Ended-None.is (c.end_activation.ensures.falls c.args.table.now)

pub returns-in-Ended-Some-clause-turned : goal.returns-in-Ended-Some-clause-turned
returns-in-Ended-Some-clause-turned g c =
    ended_some c.args.table.now c.args.run.now c.end_activation-in-Ended-Some.new.run c.args.x c.args.f.now c.args.stop c.in-Ended-Some.field-0 c.in-Ended-Some.d c.end_activation-in-Ended-Some.result _ _ c.in-Ended-Some.is c.in-Ended-Some.field-0-is (c.end_activation-in-Ended-Some.ensures.turned c.args.table.now c.requires.waits)

pub returns-in-Ended-Some-clause-falls : goal.returns-in-Ended-Some-clause-falls
returns-in-Ended-Some-clause-falls g c = ended_falls c.args.table.now c.args.run.now c.end_activation-in-Ended-Some.new.run c.args.x c.args.stop c.in-Ended-Some.field-0 c.end_activation-in-Ended-Some.result c.in-Ended-Some.is (c.end_activation-in-Ended-Some.ensures.falls c.args.table.now)
