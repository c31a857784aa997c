use Rattle.std.proofs.Common.{◌≡◌, [], map, take}
use Rattle.type_joins.specs.Forests.{root, IsForest}
use Rattle.type_joins.specs.Joined.{IsJoining}
use Rattle.type_things.specs.Webs.{things_of, first_pairs, AreWhole}
use Rattle.type_links.specs.Links.{links_of, sides_in}
use Rattle.type_links.proofs.linking.join_groups.Given as goal

abbrev pub invariant-loop-g : goal.invariant-loop-g
invariant-loop-g l = record {
  forest : IsForest l.joining.forest.parents.items;
  empty : l.joining.work.items ≡ [];
  joins : AreWhole (things_of l.web) → IsJoining (things_of l.web) [] (root l.fn.joining.forest.parents.items) l.fn.joining.stand.items []
      → IsJoining (things_of l.web) (links_of (things_of l.web) (take l.g (map (sides_in (first_pairs l.web)) l.groups))) (root l.joining.forest.parents.items) l.joining.stand.items [];
}
