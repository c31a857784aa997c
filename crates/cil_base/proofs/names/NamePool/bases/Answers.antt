use Rattle.std.proofs.Common.{◌∙◌}
use Rattle.cil_base.proofs.PoolLemmas.{Interns-stays, interns_two, interns_three, on_err, stays_then}
use Rattle.cil_base.proofs.names.NamePool.bases.Goals as goal

pub returns-in_err-temporary-clause-err : goal.returns-in_err-temporary-clause-err
returns-in_err-temporary-clause-err c = on_err c.from_residual-in_err-temporary.result (2, c.in_err-temporary.ensures.err ∙ interns_two _ _ _ _ _ _ _ c.in_ok-literal.ensures.ok c.in_ok-tagless.ensures.ok)

pub returns-in_err-label-clause-err : goal.returns-in_err-label-clause-err
returns-in_err-label-clause-err c = on_err c.from_residual-in_err-label.result (3, c.in_err-label.ensures.err ∙ interns_three _ _ _ _ _ _ _ _ _ _ c.in_ok-literal.ensures.ok c.in_ok-tagless.ensures.ok c.in_ok-temporary.ensures.ok)

pub returns-clause-numbers : goal.returns-clause-numbers
returns-clause-numbers c = record {
  literal = Interns-stays _ _ _ _ _ _ c.in_ok-label.ensures.ok (Interns-stays _ _ _ _ _ _ c.in_ok-temporary.ensures.ok (Interns-stays _ _ _ _ _ _ c.in_ok-tagless.ensures.ok c.in_ok-literal.ensures.ok.number));
  tagless = Interns-stays _ _ _ _ _ _ c.in_ok-label.ensures.ok (Interns-stays _ _ _ _ _ _ c.in_ok-temporary.ensures.ok c.in_ok-tagless.ensures.ok.number);
  temporary = Interns-stays _ _ _ _ _ _ c.in_ok-label.ensures.ok c.in_ok-temporary.ensures.ok.number;
  label = c.in_ok-label.ensures.ok.number;
}

pub returns-in_err-tagless-clause-stays : goal.returns-in_err-tagless-clause-stays
returns-in_err-tagless-clause-stays c = stays_then _ _ _ c.in_ok-literal.ensures.stays c.in_err-tagless.ensures.stays

pub returns-in_err-temporary-clause-stays : goal.returns-in_err-temporary-clause-stays
returns-in_err-temporary-clause-stays c = stays_then _ _ _ c.in_ok-literal.ensures.stays (stays_then _ _ _ c.in_ok-tagless.ensures.stays c.in_err-temporary.ensures.stays)

pub returns-in_err-label-clause-stays : goal.returns-in_err-label-clause-stays
returns-in_err-label-clause-stays c = stays_then _ _ _ c.in_ok-literal.ensures.stays (stays_then _ _ _ c.in_ok-tagless.ensures.stays (stays_then _ _ _ c.in_ok-temporary.ensures.stays c.in_err-label.ensures.stays))

pub returns-clause-stays : goal.returns-clause-stays
returns-clause-stays c = stays_then _ _ _ c.in_ok-literal.ensures.stays (stays_then _ _ _ c.in_ok-tagless.ensures.stays (stays_then _ _ _ c.in_ok-temporary.ensures.stays c.in_ok-label.ensures.stays))
