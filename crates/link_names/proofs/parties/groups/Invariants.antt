use Rattle.std.proofs.Common.{◌≡◌, ◌++◌, drop, map}
use Rattle.link_names.specs.Linking.{party_of}
use Rattle.link_names.specs.Grouping.{linked_of, group_of}
use Rattle.link_names.proofs.parties.groups.Given as goal

abbrev pub invariant-loop-name : goal.invariant-loop-name
invariant-loop-name l = map group_of l.all.items ++ map (λ k. map party_of k.1) (map linked_of (drop l.name-index l.names)) ≡ map (λ k. map party_of k.1) (map linked_of l.names)
