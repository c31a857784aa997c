-- Definition: the answer to units whose external names are linked (C11 6.2.2p2), or to the first name that two of them define (6.9p5).
use Rattle.std.specs.Prelude.{◌≡◌, Bool, List, Some, None, map}
use Rattle.std.specs.Option.{option_map}
use Rattle.cil_base.specs.declared.faults.Stop.{Stop}
use Rattle.cil_base.specs.declared.faults.Stop.TheVariants.{Refused, Memory}
use Rattle.link_names.specs.declared.names.Links.{Links}
use Rattle.link_names.specs.Linking.{Linked, first_twice, duplicate_of, party_of}
use Rattle.link_names.specs.Grouping.{linked_of, group_of}

-- no name is defined twice, and the links are those of these names with all that is said of them
pub record AreLinks (ls : List Linked) (common : Bool) (links : Links) : Type 0 where
  pub once : first_twice common ls ≡ None
  pub names : map linked_of links.names.items ≡ ls
  pub groups : map group_of links.groups.items ≡ map (λ l. map party_of l.1) ls

-- it is refused for the first name that is defined twice; nothing is said where memory is wanting
abbrev pub IsDuplicate : List Linked → Bool → Stop → Type 0
IsDuplicate ls common (Refused refusal) = option_map duplicate_of (first_twice common ls) ≡ Some refusal
IsDuplicate ls common Memory = Unit {0}
