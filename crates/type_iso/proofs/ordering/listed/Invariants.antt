use Rattle.std.proofs.Common.{ℕ, Bool, List, Option}
use Rattle.type_things.specs.declared.web.Head.{Head}
use Rattle.type_things.specs.declared.web.Label.{Label}
use Rattle.type_things.specs.Things.{Thing}
use Rattle.type_order.specs.Order.{IsLeastFirst}
use Rattle.type_iso.specs.Ordering.{AreEnums, IsReckoned, AreListed}
use Rattle.type_iso.proofs.ordering.listed.Given as goal

abbrev pub invariant-loop-k : goal.invariant-loop-k
invariant-loop-k l = (ts : List (Thing Head Label)) (st : List ℕ) (vs : List (Option ℕ)) (settled : List Bool) (needs : ℕ → List ℕ) → IsReckoned ts l.aggregates st vs settled needs → IsLeastFirst needs l.aggregates settled l.come → AreEnums ts l.aggregates st l.fn.enums.items l.aggregates → AreListed ts l.aggregates st settled l.come l.order.items l.k
