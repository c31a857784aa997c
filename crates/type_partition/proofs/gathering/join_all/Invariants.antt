use Rattle.std.proofs.Common.{ℕ, List, get_or}
use Rattle.type_things.specs.declared.web.Head.{Head}
use Rattle.type_things.specs.declared.web.Label.{Label}
use Rattle.type_things.specs.Things.{Thing}
use Rattle.type_joins.specs.Forests.{root, IsForest}
use Rattle.type_partition.specs.Partition.{AreNumbers, AreFirsts, IsGathering}
use Rattle.type_partition.proofs.gathering.join_all.Given as goal

abbrev pub invariant-loop-x : goal.invariant-loop-x
invariant-loop-x l = record {
  forest : IsForest l.forest.parents.items;
  gathered : (ts : List (Thing Head Label)) (r i : ℕ → ℕ) → AreNumbers ts i → AreFirsts i (λ x. get_or l.others x x) → IsGathering ts r (λ x. get_or l.others x x) (root l.fn.forest.parents.items) 0 → IsGathering ts r (λ x. get_or l.others x x) (root l.forest.parents.items) l.x;
}
