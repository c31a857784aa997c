use Rattle.std.proofs.Common.{◌≡◌, ◌<◌, ℕ, Bool, length}
use Rattle.type_things.specs.Things.{IsLocal}
use Rattle.type_partition.specs.Rounds.{IsCoarse}
use Rattle.type_partition.specs.Keys.{num_at}
use Rattle.type_things.specs.Webs.{things_of}
use Rattle.type_partition.proofs.refining.isomorphic.Given as goal

abbrev pub invariant-loop-round : goal.invariant-loop-round
invariant-loop-round l = record {
  count : length l.classes.items ≡ l.web.aggregates;
  few : (x : ℕ) → x < l.web.aggregates → num_at l.classes.items x < l.web.aggregates;
  coarse : (R : ℕ → ℕ → Bool) → IsLocal (things_of l.web) R → IsCoarse l.web.aggregates R (num_at l.classes.items);
}
