-- Definition: what units declare of their external names, and the declarations of each name together (C11 6.2.2p2).
use Rattle.std.specs.Prelude.{ℕ, suc, Bool, ◌&&◌, not, if◌then◌else◌, List, [], ◌∷◌, ◌++◌, Option, Some, None, nat_eq, map, filter, slice_get}
use Rattle.std.specs.List.{filter_map}
use Rattle.cil_base.specs.declared.faults.Fault.TheVariants.{Duplicate}
use Rattle.cil_base.specs.declared.faults.Refusal.{Refusal}
use Rattle.cil_base.specs.declared.faults.Place.{Place}
use Rattle.cil_base.specs.declared.numbers.NameId.{NameId}
use Rattle.cil_base.specs.declared.numbers.UnitNo.{UnitNo}
use Rattle.link_names.specs.declared.units.Site.{Site}
use Rattle.cil_tree.specs.declared.globals.GlobalDecl.{GlobalDecl}
use Rattle.link_names.specs.declared.units.Fronted.{Fronted}
use Rattle.link_names.specs.declared.names.LinkedSite.{LinkedSite}
use Rattle.type_links.specs.declared.parties.Party.{Party}

-- a name, and what a unit says of it
abbrev pub Declared : Type 0
Declared = NameId × LinkedSite

-- a name with all that is said of it
abbrev pub Linked : Type 0
Linked = NameId × List LinkedSite

abbrev pub same_name : NameId → NameId → Bool
same_name a b = nat_eq a.0 b.0

-- what a unit says at a site
abbrev pub declared_at : UnitNo → List GlobalDecl → Site → List Declared
declared_at u globals s = elim (slice_get globals s.entity.0) [ None ↦ [] | Some g ↦ (g.name, record { unit = u; ty = g.ty; site = s }) ∷ [] ]

-- what a unit says of all its external names
abbrev pub declared_in : UnitNo → List GlobalDecl → List Site → List Declared
declared_in u globals [] = []
declared_in u globals (s ∷ sites) = declared_at u globals s ++ declared_in u globals sites

-- what units say, the first of which has this number
abbrev pub declared_from : ℕ → List Fronted → List Declared
declared_from n [] = []
declared_from n (f ∷ fs) = declared_in (record { 0 = n }) f.cil.globals.items f.sites.items ++ declared_from (suc n) fs

-- names, each once, in the order of their first appearances
abbrev pub once_each : List NameId → List NameId
once_each [] = []
once_each (n ∷ ns) = n ∷ filter (λ m. not (same_name n m)) (once_each ns)

-- what is said of a name
abbrev pub said_of : List Declared → NameId → List LinkedSite
said_of ds n = map (λ d. d.1) (filter (λ d. same_name n d.0) ds)

-- the external names in the order of their first appearances, each with all that is said of it
abbrev pub grouped : List Declared → List Linked
grouped ds = map (λ n. (n, said_of ds n)) (once_each (map (λ d. d.0) ds))

-- the place of a definition of a name that no other unit may define too (6.9p5): under common a tentative one may be one of several (J.5.11)
abbrev pub strong : Bool → Site → Option Place
strong common s = if common && s.tentative then None else s.defined

abbrev pub first_two : List Place → Option (Place × Place)
first_two [] = None
first_two (first ∷ []) = None
first_two (first ∷ second ∷ more) = Some (first, second)

-- the first two such definitions of a name
abbrev pub twice : Bool → Linked → Option (Place × Place)
twice common l = first_two (filter_map (λ (s : LinkedSite). strong common s.site) l.1)

-- those of the first name that has two
abbrev pub first_twice : Bool → List Linked → Option (Place × Place)
first_twice common [] = None
first_twice common (l ∷ ls) = elim (twice common l) [ None ↦ first_twice common ls | Some places ↦ Some places ]

-- two definitions are refused at the second, with the first beside it
abbrev pub duplicate_of : Place × Place → Refusal
duplicate_of places = record { fault = Duplicate; at = places.1; other = Some places.0 }

-- what the comparison of types asks of a declaration (6.2.7, 6.7.6.3p15)
abbrev pub party_of : LinkedSite → Party
party_of s = record { unit = s.unit; ty = s.ty; bare = s.site.bare }
