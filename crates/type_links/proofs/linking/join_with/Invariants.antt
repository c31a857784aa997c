use Rattle.std.proofs.Common.{◌≡◌, ℕ, List, [], ◌++◌, take}
use Rattle.type_joins.specs.Forests.{root, IsForest}
use Rattle.type_joins.specs.Joined.{IsJoining}
use Rattle.type_things.specs.Webs.{things_of}
use Rattle.type_links.specs.Links.{links_with}
use Rattle.type_links.specs.Linking.{sides_of}
use Rattle.type_links.proofs.linking.join_with.Given as goal

abbrev pub invariant-loop-i : goal.invariant-loop-i
invariant-loop-i l = record {
  forest : IsForest l.joining.forest.parents.items;
  empty : l.joining.work.items ≡ [];
  joins : (done : List (ℕ × ℕ)) → IsJoining (things_of l.web) done (root l.fn.joining.forest.parents.items) l.fn.joining.stand.items []
      → IsJoining (things_of l.web) (done ++ links_with (things_of l.web) (sides_of (take l.i l.distinct)) l.later) (root l.joining.forest.parents.items) l.joining.stand.items [];
}
