-- Definition: whether the declarations of each external name in several units correspond (C11 6.2.7p1, p2), and which two are the first that do not: their types are compared as graphs (`crates/type_things`, `crates/type_links`).
use Rattle.std.specs.Prelude.{◌≡◌, ℕ, ◌+◌, Bool, true, false, List, [], ◌∷◌, ◌++◌, Option, Some, None, map, slice_get}
use Rattle.std.specs.Option.{option_and_then}
use Rattle.cil_base.specs.declared.faults.Fault.TheVariants.{Incompatible}
use Rattle.cil_base.specs.declared.faults.Place.{Place}
use Rattle.cil_base.specs.declared.faults.Refusal.{Refusal}
use Rattle.cil_base.specs.declared.kinds.Mode.{Mode}
use Rattle.cil_base.specs.declared.numbers.NameId.{NameId}
use Rattle.type_graph.specs.Arena.{Graph}
use Rattle.type_things.specs.Units.{things, aggregate_count, firsts_from}
use Rattle.type_links.specs.declared.linking.Side.{Side}
use Rattle.type_links.specs.Links.{FailsFirst}
use Rattle.c_lexer.specs.Lexed.{place_at}
use Rattle.c_rules.specs.Types.{same_name, any_of}
use Rattle.c_faults.specs.Reading.{Source, Read}
use Rattle.c_faults.specs.Acceptance.{Clashes, FaultAt, Accepted, names_behind}
use Rattle.c_faults.specs.UnitTypes.{Declared, UnitTypes, types_of}

-- the names of all units, behind the last of them
abbrev pub all_names : List Read → List (List ℕ)
all_names reads = names_behind [] reads

abbrev pub all_types : List Read → List UnitTypes
all_types reads = map (λ (r : Read). types_of (all_names reads) r.env) reads

abbrev pub graphs_of : List Read → List Graph
graphs_of reads = map (λ (u : UnitTypes). u.graph) (all_types reads)

-- the external names, in the order in which they appear first
abbrev pub appear : List NameId → List Declared → List NameId
appear seen [] = seen
appear seen (d ∷ ds) = elim (any_of (same_name d.name) seen) [ true ↦ appear seen ds | false ↦ appear (seen ++ d.name ∷ []) ds ]

abbrev pub names_in : List NameId → List UnitTypes → List NameId
names_in seen [] = seen
names_in seen (u ∷ us) = names_in (appear seen u.declared) us

-- what is compared of a declaration of a unit whose first type has that number, and its place
pub record Party : Type 0 where
  pub side : Side
  pub place : Option Place

abbrev pub party_of : ℕ → Read → Declared → Party
party_of first r d = record { side = record { ty = first + d.type.0; bare = d.bare }; place = place_at r.tokens d.first }

abbrev pub parties_in : NameId → ℕ → Read → List Declared → List Party
parties_in x first r [] = []
parties_in x first r (d ∷ ds) = elim (same_name d.name x) [ true ↦ party_of first r d ∷ parties_in x first r ds | false ↦ parties_in x first r ds ]

-- the declarations of a name, unit by unit
abbrev pub parties_from : List (List ℕ) → NameId → List (ℕ × ℕ) → List Read → List Party
parties_from names x [] reads = []
parties_from names x (f ∷ fs) [] = []
parties_from names x (f ∷ fs) (r ∷ rs) = parties_in x f.1 r (types_of names r.env).declared ++ parties_from names x fs rs

abbrev pub parties : List Read → NameId → List Party
parties reads x = parties_from (all_names reads) x (firsts_from 0 (aggregate_count (graphs_of reads)) (graphs_of reads)) reads

-- those of each name
abbrev pub groups : List Read → List (List Party)
groups reads = map (parties reads) (names_in [] (all_types reads))

abbrev pub sides : List Party → List Side
sides ps = map (λ (p : Party). p.side) ps

-- where a unit declares a name first: by the place of the name among all, and of the unit among those that declare it
abbrev pub place_in : List (List Party) → ℕ → ℕ → Option Place
place_in gs name unit = option_and_then (λ (ps : List Party). option_and_then (λ (p : Party). p.place) (slice_get ps unit)) (slice_get gs name)

-- the first link that lets the links up to it correspond in no way is refused at its later declaration, with the earlier one beside it (own)
pub record AreApart (reads : List Read) (refusal : Refusal) : Type 0 where
  pub name : ℕ
  pub earlier : ℕ
  pub later : ℕ
  pub pair : ℕ × ℕ
  pub other : Place
  pub fails : FailsFirst (things (all_names reads) (graphs_of reads)) (map sides (groups reads)) name earlier later pair
  pub fault : refusal.fault ≡ Incompatible
  pub at : place_in (groups reads) name later ≡ Some refusal.at
  pub beside : place_in (groups reads) name earlier ≡ Some other
  pub told : refusal.other ≡ Some other

-- what a list of units is refused for, and which lists are accepted
abbrev pub IsRefusal : Mode → List (List ℕ) → List Source → Refusal → Type 0
IsRefusal mode names units refusal = FaultAt AreApart mode names units refusal

abbrev pub AreAccepted : Mode → List (List ℕ) → List Source → Type 0
AreAccepted mode names units = Accepted AreApart mode names units
