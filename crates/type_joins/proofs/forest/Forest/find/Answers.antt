use Rattle.std.proofs.Common.{sym, ap, subst, ◌∙◌}
use Rattle.type_joins.specs.Forests.{root, IsForest}
use Rattle.type_joins.proofs.StepLaws.{find_step, find_end}
use Rattle.type_joins.proofs.forest.Forest.find.Goals as goal

pub loop-step-preserved : goal.loop-step-preserved
loop-step-preserved c =
    let s = find_step c.loop-step.self.parents.items c.deref.result.now c.deref-in-loop-step.result.now c.put.new.table.items c.loop-step.x c.in_ok-parent.parent c.in_ok-above.above c.deref.ensures.value c.deref-in-loop-step.ensures.value c.loop-step.invariant.forest c.in_ok-parent.ensures.within c.in_ok-parent.ensures.is c.in_ok-above.ensures.is c.in_ok-put.ensures.set in
    record { forest = s.0; kept = λ y. s.1 y ∙ c.loop-step.invariant.kept y; here = s.2 ∙ c.loop-step.invariant.here }

pub returns-then-parent-x-clause-root : goal.returns-then-parent-x-clause-root
returns-then-parent-x-clause-root c = find_end c.loop-step.self.parents.items c.deref.result.now c.loop-step.x c.in_ok-parent.parent c.deref.ensures.value c.in_ok-parent.ensures.is c.if-parent-x.true ∙ c.loop-step.invariant.here

pub returns-in_err-put-clause-forest : goal.returns-in_err-put-clause-forest
returns-in_err-put-clause-forest c = subst IsForest (sym c.in_err-put.ensures.kept) c.loop-step.invariant.forest

pub returns-in_err-put-clause-kept : goal.returns-in_err-put-clause-kept
returns-in_err-put-clause-kept c = λ y. ap (λ l. root l y) c.in_err-put.ensures.kept ∙ c.loop-step.invariant.kept y
