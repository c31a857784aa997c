use Rattle.std.proofs.Common.{refl}
use Rattle.cil_turns.specs.Turning.{StandsAtCall}
use Rattle.cil_turns.proofs.Begins.{wants_at}
use Rattle.cil_turns.proofs.Courses.{parts_wrong}
use Rattle.cil_turns.proofs.calls.call_with.Goals as goal

pub returns-in-Err-clause-turned : goal.returns-in-Err-clause-turned
returns-in-Err-clause-turned g c = wants_at c.args.table.now c.args.run.now c.args.run.now c.args.x c.requires.stands refl refl _ _

pub returns-in-Ok-None-clause-turned : goal.returns-in-Ok-None-clause-turned
returns-in-Ok-None-clause-turned g c =
    let h = rw c.in-Ok-None.field-0-is at c.in-Ok-None.ensures in
    parts_wrong c.args.table.now c.args.run.now c.args.x c.args.behind c.args.k.now c.requires h _ _

pub returns-in-Ok-Some-clause-turned : goal.returns-in-Ok-Some-clause-turned
returns-in-Ok-Some-clause-turned g c =
    let h = rw c.in-Ok-Some.field-0-is at c.in-Ok-Some.ensures in
    let stands : StandsAtCall c.args.table.now c.args.run.now c.args.x c.args.behind c.in-Ok-Some.e = record { call = c.args.k.now; before = c.requires; parts = h } in
    c.call.ensures.turned c.args.x stands

pub returns-in-Ok-Some-clause-falls : goal.returns-in-Ok-Some-clause-falls
returns-in-Ok-Some-clause-falls g c =
    let h = rw c.in-Ok-Some.field-0-is at c.in-Ok-Some.ensures in
    let stands : StandsAtCall c.args.table.now c.args.run.now c.args.x c.args.behind c.in-Ok-Some.e = record { call = c.args.k.now; before = c.requires; parts = h } in
    c.call.ensures.falls c.args.x stands
