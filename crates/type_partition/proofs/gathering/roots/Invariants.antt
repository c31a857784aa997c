use Rattle.std.proofs.Common.{◌≡◌, ◌<◌, ℕ, length, get_or}
use Rattle.type_joins.specs.Forests.{root, IsForest}
use Rattle.type_partition.proofs.gathering.roots.Given as goal

abbrev pub invariant-loop-x : goal.invariant-loop-x
invariant-loop-x l = record {
  forest : IsForest l.forest.parents.items;
  kept : (y : ℕ) → root l.forest.parents.items y ≡ root l.fn.forest.parents.items y;
  count : length l.all.items ≡ l.x;
  roots : (y : ℕ) → y < l.x → get_or l.all.items y y ≡ root l.fn.forest.parents.items y;
}
