-- Definition: the tags that the classes of structs, unions and enums get, and the names of their enumerators (C11 6.2.1p4, 6.2.3p1, 6.7.2.3p4): for each class the aggregate that stands for it gives them (own), as it does their order.
use Rattle.std.specs.Prelude.{◌≡◌, ℕ, zero, suc, Bool, false, ◌&&◌, nat_eq, if◌then◌else◌, List, [], ◌∷◌, ◌++◌, Option, None, Some, map, length, slice_get}
use Rattle.std.specs.Option.{option_and_then}
use Rattle.cil_base.specs.declared.names.Bases.{Bases}
use Rattle.cil_base.specs.declared.numbers.AggId.{AggId}
use Rattle.cil_base.specs.declared.numbers.NameId.{NameId}
use Rattle.cil_base.specs.declared.numbers.UnitNo.{UnitNo}
use Rattle.type_graph.specs.declared.aggregates.AggKind.{AggKind}
use Rattle.type_graph.specs.declared.aggregates.Aggregate.{Aggregate}
use Rattle.type_graph.specs.declared.aggregates.Member.{Member}
use Rattle.type_graph.specs.Growth.{renamed}
use Rattle.cil_tree.specs.Typing.{is_enum}
use Rattle.typed_tree.specs.declared.units.Ordinary.{Ordinary}
use Rattle.typed_tree.specs.declared.units.Ordinary.TheVariants.{Static, Enumerator}
use Rattle.type_iso.specs.declared.class_table.Classes.{Classes}
use Rattle.type_iso.specs.Classes.{class_count, class_in, representative_in}
use Rattle.link_names.specs.declared.units.Fronted.{Fronted}
use Rattle.fresh_names.specs.declared.fresh.Wish.{Wish}
use Rattle.fresh_names.specs.declared.fresh.Wish.TheVariants.{Asked, Made}
use Rattle.static_rename.specs.Files.{no_wish}

-- a struct, union or enum, by its unit and its number there
abbrev pub aggregate_at : List Fronted → UnitNo × AggId → Option Aggregate
aggregate_at fs at = option_and_then (λ (f : Fronted). slice_get f.cil.graph.aggs at.1.0) (slice_get fs at.0.0)

abbrev pub members_in : Option (List Member) → List Member
members_in None = []
members_in (Some ms) = ms

-- its members or enumerators, none where it is incomplete
abbrev pub members_at : List Fronted → UnitNo × AggId → List Member
members_at fs at = elim (aggregate_at fs at) [ None ↦ [] | Some x ↦ members_in x.members ]

abbrev pub is_at : ℕ → ℕ → Option (UnitNo × AggId) → Bool
is_at u a None = false
is_at u a (Some at) = nat_eq at.0.0 u && nat_eq at.1.0 a

-- an aggregate of a unit is the one that stands for its class
abbrev pub stands_for : Classes → ℕ → ℕ → Bool
stands_for c u a = elim (class_in c u a) [ None ↦ false | Some k ↦ is_at u a (representative_in c k) ]

-- for each of the first n aggregates of a unit, whether it does
abbrev pub standing_in : Classes → ℕ → ℕ → List Bool
standing_in c u zero = []
standing_in c u (suc n) = standing_in c u n ++ stands_for c u n ∷ []

-- the same for units, the first of which has this number
abbrev pub standing_from : Classes → ℕ → List Fronted → List (List Bool)
standing_from c u [] = []
standing_from c u (f ∷ fs) = standing_in c u (length f.cil.graph.aggs) ∷ standing_from c (suc u) fs

abbrev pub one_or_none : Option (UnitNo × AggId) → List (UnitNo × AggId)
one_or_none None = []
one_or_none (Some at) = at ∷ []

-- those that stand for the first n classes, in the order of the classes, which is that in which a program prints them
abbrev pub standing_below : Classes → ℕ → List (UnitNo × AggId)
standing_below c zero = []
standing_below c (suc k) = standing_below c k ++ one_or_none (representative_in c k)

abbrev pub all_standing : Classes → List (UnitNo × AggId)
all_standing c = standing_below c (class_count c)

-- what asks for its tag, and what has none and gets a made one
abbrev pub tag_wish : Bases → Option NameId → Wish
tag_wish bases None = Made bases.tagless
tag_wish bases (Some tag) = Asked tag

-- what a class asks for: the tag of the one that stands for it
abbrev pub class_wish : Bases → List Fronted → UnitNo × AggId → Wish
class_wish bases fs at = elim (aggregate_at fs at) [ None ↦ no_wish | Some x ↦ tag_wish bases x.tag ]

-- something that got a name at file scope, and its unit
pub record Given : Type 0 where
  pub unit : ℕ
  pub thing : Ordinary
  pub name : NameId

-- what got names in a unit
abbrev pub given_in : ℕ → List Ordinary → List NameId → List Given
given_in u [] ns = []
given_in u (o ∷ os) [] = []
given_in u (o ∷ os) (n ∷ ns) = record { unit = u; thing = o; name = n } ∷ given_in u os ns

-- the same for units, the first of which has this number
abbrev pub given_from : ℕ → List (List Ordinary) → List (List NameId) → List Given
given_from u [] names = []
given_from u (os ∷ things) [] = []
given_from u (os ∷ things) (ns ∷ names) = given_in u os ns ++ given_from (suc u) things names

abbrev pub is_number : ℕ → Option ℕ → Bool
is_number k None = false
is_number k (Some j) = nat_eq j k

-- it is an enumerator of a class, by its place there
abbrev pub is_enumerator : Classes → ℕ → ℕ → ℕ → Ordinary → Bool
is_enumerator c k i u (Static e) = false
is_enumerator c k i u (Enumerator a j) = is_number k (class_in c u a.0) && nat_eq j i

-- the name that an enumerator of a class got, by its place; it keeps its own where it got none
abbrev pub enumerator_name : Classes → List Given → ℕ → ℕ → NameId → NameId
enumerator_name c [] k i name = name
enumerator_name c (g ∷ gs) k i name = enumerator_name c gs k i (if is_enumerator c k i g.unit g.thing then g.name else name)

-- the names of enumerators of a class, the first of which has this place
abbrev pub enumerators_from : Classes → List Given → ℕ → ℕ → List Member → List NameId
enumerators_from c gs k i [] = []
enumerators_from c gs k i (m ∷ ms) = enumerator_name c gs k i m.name ∷ enumerators_from c gs k (suc i) ms

-- the names of the enumerators of classes, for which these stand, and the first of which has this number
abbrev pub enumerators_of : Classes → List Given → List Fronted → ℕ → List (UnitNo × AggId) → List (List NameId)
enumerators_of c gs fs k [] = []
enumerators_of c gs fs k (at ∷ ats) = enumerators_from c gs k 0 (members_at fs at) ∷ enumerators_of c gs fs (suc k) ats

-- classes with their names: for each its tag, and, where it is one of enums, the names of the enumerators
pub record NamedClasses : Type 0 where
  pub classes : Classes
  pub tags : List NameId
  pub enumerators : List (List NameId)

-- the members of a struct or union keep their names, enumerators have those of their class
abbrev pub member_names : List NameId → AggKind → List Member → List NameId
member_names enumerators kind ms = if is_enum kind then enumerators else map (λ m. m.name) ms

-- the names that the members or enumerators of an aggregate get
abbrev pub names_under : List NameId → Aggregate → List NameId
names_under enumerators x = elim x.members [ None ↦ [] | Some ms ↦ member_names enumerators x.kind ms ]

-- an aggregate of a unit gets the names of its class
pub record IsTagged (t : NamedClasses) (u a : ℕ) (old new : Aggregate) : Type 0 where
  pub class : ℕ
  pub tag : NameId
  pub enumerators : List NameId
  pub class_is : class_in t.classes u a ≡ Some class
  pub tag_is : slice_get t.tags class ≡ Some tag
  pub enumerators_are : slice_get t.enumerators class ≡ Some enumerators
  pub new_is : new ≡ renamed old tag (names_under enumerators old)

-- aggregates of a unit, the first of which has this number, get the names of their classes
abbrev pub AreTagged : NamedClasses → ℕ → ℕ → List Aggregate → List Aggregate → Type 0
AreTagged t u a [] [] = Unit {0}
AreTagged t u a [] (y ∷ ys) = ⊥
AreTagged t u a (x ∷ xs) [] = ⊥
AreTagged t u a (x ∷ xs) (y ∷ ys) = IsTagged t u a x y × AreTagged t u (suc a) xs ys
