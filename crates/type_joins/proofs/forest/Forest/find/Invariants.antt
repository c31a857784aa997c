use Rattle.std.proofs.Common.{◌≡◌, ℕ}
use Rattle.type_joins.specs.Forests.{root, IsForest}
use Rattle.type_joins.proofs.forest.Forest.find.Given as goal

abbrev pub invariant-loop-step : goal.invariant-loop-step
invariant-loop-step l = record {
  forest : IsForest l.self.parents.items;
  kept : (y : ℕ) → root l.self.parents.items y ≡ root l.fn.self.parents.items y;
  here : root l.self.parents.items l.x ≡ root l.fn.self.parents.items l.fn.x;
}
