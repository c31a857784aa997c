use Rattle.std.proofs.Common.{◌≡◌, ℕ, List, []}
use Rattle.type_joins.specs.Forests.{root, IsForest}
use Rattle.type_joins.specs.Joined.{IsJoining}
use Rattle.type_things.specs.Webs.{things_of, first_pairs, AreWhole}
use Rattle.type_links.specs.Links.{side_of}
use Rattle.type_links.specs.Linking.{IsGroupUpTo}
use Rattle.type_links.proofs.linking.join_group.Given as goal

abbrev pub invariant-loop-later : goal.invariant-loop-later
invariant-loop-later l = record {
  forest : IsForest l.joining.forest.parents.items;
  empty : l.joining.work.items ≡ [];
  joins : (done : List (ℕ × ℕ)) → AreWhole (things_of l.web) → IsJoining (things_of l.web) done (root l.fn.joining.forest.parents.items) l.fn.joining.stand.items []
      → IsGroupUpTo (things_of l.web) (side_of (first_pairs l.web)) done l.parties l.later (root l.joining.forest.parents.items) l.joining.stand.items l.distinct.items;
}
