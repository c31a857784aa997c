use Rattle.std.proofs.Common.{◌≡◌, true, List, sym, ap, ◌∙◌, subst}
use Rattle.cil_frames.specs.declared.activations.Argument.{Argument}
use Rattle.cil_turns.specs.Turning.{kinds_agree, Begun}
use Rattle.cil_turns.proofs.Begins.{first_enters}
use Rattle.cil_turns.proofs.entering.call_first.Goals as goal

pub returns-in-Ok-clause-turned : goal.returns-in-Ok-clause-turned
returns-in-Ok-clause-turned c table h left taken =
    let fits : kinds_agree c.args.f.now c.args.call.now.result c.args.call.now.arguments.items ≡ true = ap (kinds_agree c.args.f.now c.args.call.now.result) (sym c.deref.ensures.value) ∙ (sym c.kinds_agree.ensures ∙ c.if-not-kinds_agree.false) in
    first_enters table c.args.run.now c.begin.new.run c.args.f.now c.args.call.now c.in-Ok.x h fits
    (subst (λ (xs : List Argument). Begun c.args.run.now c.begin.new.run c.args.run.now.frames.items c.args.call.now.callee c.args.f.now xs c.in-Ok.x) c.deref-2.ensures.value c.in-Ok.ensures.begun) left taken
