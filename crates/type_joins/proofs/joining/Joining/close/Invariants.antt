use Rattle.std.proofs.Common.{ℕ, List}
use Rattle.type_joins.specs.Forests.{root, IsForest}
use Rattle.type_joins.specs.Joined.{IsJoining}
use Rattle.type_things.specs.Webs.{things_of}
use Rattle.type_joins.proofs.joining.Joining.close.Given as goal

abbrev pub invariant-loop-step : goal.invariant-loop-step
invariant-loop-step l = record {
  forest : IsForest l.self.forest.parents.items;
  joins : (done : List (ℕ × ℕ)) → IsJoining (things_of l.web) done (root l.fn.self.forest.parents.items) l.fn.self.stand.items l.fn.self.work.items → IsJoining (things_of l.web) done (root l.self.forest.parents.items) l.self.stand.items l.self.work.items;
}
