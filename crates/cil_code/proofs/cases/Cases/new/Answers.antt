use Rattle.std.proofs.Common.{rules}
use Rattle.std.proofs.lemmas.List.Sorted.{answers_always}
use Rattle.cil_code.proofs.CaseLemmas.{sorted_leads, permuted_leads}
use Rattle.cil_code.proofs.cases.Cases.new.Goals as goal

pub invariant_of-result : goal.invariant_of-result
invariant_of-result c = c.in_ok-sort_by_key.ensures.sorted (λ x. x.0) (answers_always _ _ _ (λ f a r next called. search rules))

pub returns-clause-same : goal.returns-clause-same
returns-clause-same c = sorted_leads _ _ (c.in_ok-sort_by_key.ensures.stable (λ x. x.0) (answers_always _ _ _ (λ f a r next called. search rules)))

pub returns-clause-leads : goal.returns-clause-leads
returns-clause-leads c = permuted_leads _ _ c.in_ok-sort_by_key.ensures.permutation
