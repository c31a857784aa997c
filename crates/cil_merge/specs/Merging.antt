-- Definition: why units do not become one program: two of them define one name (C11 6.9p5), or else declare one with types that do not correspond (6.2.7p2), and then the first link that lets the links up to it correspond in no way is refused.
use Rattle.std.specs.Prelude.{◌≡◌, ℕ, Bool, List, Option, Some, None, map, slice_get}
use Rattle.cil_base.specs.declared.faults.Fault.TheVariants.{Incompatible}
use Rattle.cil_base.specs.declared.faults.Place.{Place}
use Rattle.cil_base.specs.declared.faults.Refusal.{Refusal}
use Rattle.cil_base.specs.declared.faults.Stop.{Stop}
use Rattle.cil_base.specs.declared.faults.Stop.TheVariants.{Refused, Memory}
use Rattle.type_graph.specs.Arena.{Graph}
use Rattle.link_names.specs.declared.names.LinkedSite.{LinkedSite}
use Rattle.link_names.specs.declared.units.Fronted.{Fronted}
use Rattle.link_names.specs.Linking.{Linked, first_twice, duplicate_of, party_of}
use Rattle.link_names.specs.Grouping.{group_of}
use Rattle.type_links.specs.declared.parties.Group.{Group}
use Rattle.type_things.specs.Things.{Joint}
use Rattle.type_things.specs.Units.{things}
use Rattle.type_links.specs.Links.{links_of, FailsFirst}
use Rattle.type_iso.specs.Classes.{sides}

-- the declarations of a name, which is given by its place among all
pub record AreSites (ls : List Linked) (name : ℕ) (sites : List LinkedSite) : Type 0 where
  pub linked : Linked
  pub linked_is : slice_get ls name ≡ Some linked
  pub sites_are : linked.1 ≡ sites

-- where a unit declares a name first: the name by its place among all, the unit among those that declare it
pub record IsSiteOf (ls : List Linked) (name unit : ℕ) (place : Place) : Type 0 where
  pub sites : List LinkedSite
  pub site : LinkedSite
  pub among : AreSites ls name sites
  pub site_is : slice_get sites unit ≡ Some site
  pub place_is : site.site.first ≡ place

-- the declarations of each name as they are compared
abbrev pub AreGroupsOf : List Linked → List Group → Type 0
AreGroupsOf ls groups = map group_of groups ≡ map (λ (l : Linked). map party_of l.1) ls

abbrev pub graphs_of : List Fronted → List Graph
graphs_of fs = map (λ (f : Fronted). f.cil.graph) fs

-- the link of two declarations of one name is refused at the later one, with the earlier one beside it
pub record IsLinkRefusal (ls : List Linked) (name earlier later : ℕ) (refusal : Refusal) : Type 0 where
  pub other : Place
  pub fault_is : refusal.fault ≡ Incompatible
  pub at_is : IsSiteOf ls name later refusal.at
  pub other_is : refusal.other ≡ Some other
  pub other_at : IsSiteOf ls name earlier other

module _ (names : List (List ℕ)) (gs : List Graph) (ls : List Linked) where
  -- two units declare one name with types that do not correspond: it is the first link that fails
  pub record IsClash (refusal : Refusal) : Type 0 where
    pub name : ℕ
    pub earlier : ℕ
    pub later : ℕ
    pub pair : ℕ × ℕ
    pub groups : List Group
    pub groups_are : AreGroupsOf ls groups
    pub fails : FailsFirst (things names gs) (sides gs groups) name earlier later pair
    pub refused : IsLinkRefusal ls name earlier later refusal

  -- some equivalence holds all links, and no two types that it holds differ
  pub record Correspond : Type 0 where
    pub groups : List Group
    pub groups_are : AreGroupsOf ls groups
    pub joint : Joint (things names gs) (links_of (things names gs) (sides gs groups))

abbrev pub IfRefused : Stop → (Refusal → Type 0) → Type 0
IfRefused (Refused refusal) P = P refusal
IfRefused Memory P = Unit {0}

-- a name that is defined twice comes before all that are declared with types that do not correspond
abbrev pub IsRefusal : Option (Place × Place) → List (List ℕ) → List Graph → List Linked → Refusal → Type 0
IsRefusal (Some places) names gs ls refusal = refusal ≡ duplicate_of places
IsRefusal None names gs ls refusal = IsClash names gs ls refusal

-- names are the texts of all names before anything gets a name
abbrev pub IsMergeRefusal : Bool → List (List ℕ) → List Graph → List Linked → Stop → Type 0
IsMergeRefusal common names gs ls stop = IfRefused stop (IsRefusal (first_twice common ls) names gs ls)
