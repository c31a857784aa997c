use Rattle.std.proofs.Common.{slice_get, sym, ap, ◌∙◌}
use Rattle.type_iso.proofs.StandingLaws.{none_start, none_push, numbers_none}
use Rattle.type_iso.proofs.merging.no_numbers.Goals as goal

pub loop-a-init : goal.loop-a-init
loop-a-init c = none_start c.new-numbers.result.items c.new-numbers.ensures.items

pub loop-a-preserved : goal.loop-a-preserved
loop-a-preserved c = λ i n q. none_push c.loop-a.numbers.items c.loop-a.invariant i n (ap (λ l. slice_get l i) (sym c.in_ok-push.ensures.items) ∙ q)

pub returns : goal.returns
returns c = λ order. numbers_none order c.loop-a.numbers.items c.loop-a.invariant
