use Rattle.std.proofs.Common.{◌≡◌, true, false, sym, ap, ◌∙◌}
use Rattle.cil_turns.specs.Turning.{kinds_agree}
use Rattle.cil_turns.proofs.Begins.{enters, entering_falls, misfits, lacks}
use Rattle.cil_turns.proofs.entering.call_function.Goals as goal

pub returns-then-not-kinds_agree-clause-turned : goal.returns-then-not-kinds_agree-clause-turned
returns-then-not-kinds_agree-clause-turned c table x h calls there left taken =
    let fits : kinds_agree c.args.f.now c.args.e.now.result c.args.e.now.arguments.items ≡ false = ap (kinds_agree c.args.f.now c.args.e.now.result) (sym c.deref.ensures.value) ∙ (sym c.kinds_agree.ensures ∙ c.if-not-kinds_agree.true) in
    misfits table c.args.run.now x c.args.behind c.args.callee c.args.f.now c.args.e.now h calls there fits left taken

pub returns-then-run-eq0-clause-turned : goal.returns-then-run-eq0-clause-turned
returns-then-run-eq0-clause-turned c table x h calls there left taken =
    let fits : kinds_agree c.args.f.now c.args.e.now.result c.args.e.now.arguments.items ≡ true = ap (kinds_agree c.args.f.now c.args.e.now.result) (sym c.deref.ensures.value) ∙ (sym c.kinds_agree.ensures ∙ c.if-not-kinds_agree.false) in
    lacks table c.args.run.now x c.args.behind c.args.callee c.args.f.now c.args.e.now h calls there fits c.if-run-eq0.true left taken

pub returns-in-Ok-clause-turned : goal.returns-in-Ok-clause-turned
returns-in-Ok-clause-turned c table x h calls there left taken =
    let fits : kinds_agree c.args.f.now c.args.e.now.result c.args.e.now.arguments.items ≡ true = ap (kinds_agree c.args.f.now c.args.e.now.result) (sym c.deref.ensures.value) ∙ (sym c.kinds_agree.ensures ∙ c.if-not-kinds_agree.false) in
    enters table c.args.run.now c.push.new.run x c.args.behind c.in-Ok.x c.args.callee c.args.f.now c.args.e.now h calls there fits c.in-Ok.ensures.begun left taken

pub returns-in-Ok-clause-falls : goal.returns-in-Ok-clause-falls
returns-in-Ok-clause-falls c table x h there = entering_falls table c.args.run.now c.push.new.run x c.args.behind c.in-Ok.x c.args.callee c.args.f.now c.args.e.now h c.in-Ok.ensures.begun
