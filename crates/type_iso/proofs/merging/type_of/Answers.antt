use Rattle.std.proofs.Common.{◌≡◌, Some, suc, slice_get, subst, ap, ◌∙◌, arith}
use Rattle.type_iso.proofs.merging.type_of.Goals as goal

pub returns-in-Some : goal.returns-in-Some
returns-in-Some c = record {
  first = c.in_ok-first.first;
  unit = subst (λ l. slice_get l c.in_ok-u.u.0 ≡ Some c.in_ok-first.first) c.firsts-3.ensures c.in_ok-first.ensures;
  number = omega (arith, c.in-Some.ensures);
  ends = λ f e. c.in_ok-check_end.ensures f (ap (λ l. slice_get l (suc c.in_ok-u.u.0)) c.firsts-2.ensures ∙ e);
  within = omega (arith, c.in_ok-check_below.ensures, c.in_ok-count.ensures);
}
