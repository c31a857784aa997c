use Rattle.std.proofs.Common.{◌≡◌, drop, map}
use Rattle.link_names.specs.Linking.{first_twice}
use Rattle.link_names.specs.Grouping.{linked_of}
use Rattle.link_names.proofs.duplicates.first_duplicate.Given as goal

abbrev pub invariant-loop-name : goal.invariant-loop-name
invariant-loop-name l = first_twice l.mode.common (map linked_of (drop l.name-index l.names)) ≡ first_twice l.mode.common (map linked_of l.names)
