-- Definition: the classes of the structs, unions and enums of several units, once the declarations of each external name are linked (C11 6.2.7p1, p2).
use Rattle.std.specs.Prelude.{◌≡◌, ◌⊎◌, ◌↔◌, ℕ, zero, suc, ◌+◌, ◌<◌, ◌≤◌, Bool, true, false, List, [], ◌∷◌, Option, Some, None, Result, Ok, Err, map, length, is_some, nat_eq, nat_lt, slice_get, if◌then◌else◌}
use Rattle.std.specs.Option.{option_map, option_and_then}
use Rattle.cil_base.specs.declared.numbers.TypeId.{TypeId}
use Rattle.cil_base.specs.declared.numbers.UnitNo.{UnitNo}
use Rattle.cil_base.specs.declared.numbers.AggId.{AggId}
use Rattle.type_graph.specs.Arena.{Graph}
use Rattle.type_iso.specs.declared.class_table.Classes.{Classes}
use Rattle.type_iso.specs.declared.merging.ClassStop.{ClassStop}
use Rattle.type_iso.specs.declared.merging.ClassStop.TheVariants as stop
use Rattle.type_links.specs.declared.linking.Side.{Side}
use Rattle.type_links.specs.declared.parties.Group.{Group}
use Rattle.type_things.specs.declared.web.First.{First}
use Rattle.type_things.specs.declared.web.Head.{Head}
use Rattle.type_things.specs.declared.web.Head.TheVariants.{Agg}
use Rattle.type_things.specs.declared.web.Label.{Label}
use Rattle.type_things.specs.Heads.{first_part}
use Rattle.type_things.specs.Things.{Thing, head_of, inside_of, Joint, Same}
use Rattle.type_things.specs.Units.{things, aggregate_count, firsts_from}
use Rattle.type_links.specs.Links.{sides_in, links_of, FailsFirst}
use Rattle.type_iso.specs.Order.{StandsNext}

-- the number of an aggregate of a unit among those of all units
abbrev pub aggregate_number : List Graph → ℕ → ℕ → Option ℕ
aggregate_number [] u a = None
aggregate_number (g ∷ gs) zero a = if nat_lt a (length g.aggs) then Some a else None
aggregate_number (g ∷ gs) (suc u) a = option_map (λ n. length g.aggs + n) (aggregate_number gs u a)

-- the class of an aggregate of a unit
abbrev pub class_in : Classes → ℕ → ℕ → Option ℕ
class_in c u a = option_and_then (λ (f : First). slice_get c.of.items (f.aggregate + a)) (slice_get c.firsts.items u)

-- whether two aggregates, given by their classes, are there and in one class
abbrev pub is_one : Option ℕ → Option ℕ → Bool
is_one (Some k) (Some l) = nat_eq k l
is_one (Some k) None = false
is_one None l = false

-- the number of classes
abbrev pub class_count : Classes → ℕ
class_count c = length c.representatives.items

-- the aggregate that stands for a class, by its unit and its number there
abbrev pub representative_in : Classes → ℕ → Option (UnitNo × AggId)
representative_in c k = slice_get c.representatives.items k

module _ {H L : Type 0} (ts : List (Thing H L)) where
  abbrev pub has_parts : ℕ → Bool
  has_parts x = is_some (inside_of ts x)

  -- of the aggregates, which are the first m things, s is that of x's class that stands first among the complete ones, or first of all where none is complete (own)
  pub record Represents (ds : List (ℕ × ℕ)) (m s x : ℕ) : Type 0 where
    pub within : s < m
    pub same : Same ts ds s x
    pub complete : (y : ℕ) → y < m → Same ts ds y x → has_parts y ≡ true → (has_parts s ≡ true) × (s ≤ y)
    pub incomplete : has_parts s ≡ false → (y : ℕ) → y < m → Same ts ds y x → s ≤ y

-- what is compared of the declarations of each name
abbrev pub sides : List Graph → List Group → List (List Side)
sides gs groups = map (sides_in (firsts_from 0 (aggregate_count gs) gs)) groups

-- the number of a type of a unit among all things, where that of the first unit's first type is this
abbrev pub type_number : ℕ → List Graph → ℕ → ℕ → Option ℕ
type_number first [] u t = None
type_number first (g ∷ gs) zero t = if nat_lt t (length g.nodes) then Some (first + t) else None
type_number first (g ∷ gs) (suc u) t = type_number (first + length g.nodes) gs u t

-- a type of a unit is the thing x, or it is the struct, union or enum that x is
abbrev pub IsTypeOf : List (Thing Head Label) → List Graph → UnitNo × TypeId → ℕ → Type 0
IsTypeOf ts gs p x = (y : ℕ) × (type_number (aggregate_count gs) gs p.0.0 p.1.0 ≡ Some y) × ((y ≡ x) ⊎ ((head_of ts y ≡ Some Agg) × (first_part ts y ≡ x)))

module _ (gs : List Graph) (c : Classes) where
  -- the aggregate x stands for a class
  abbrev pub IsRepresentative : ℕ → Type 0
  IsRepresentative x = (k : ℕ) × (p : UnitNo × AggId) × (representative_in c k ≡ Some p) × (aggregate_number gs p.0.0 p.1.0 ≡ Some x)

  -- the aggregate x is in a class before the k-th
  abbrev pub StandsBefore : ℕ → ℕ → Type 0
  StandsBefore k x = (u a n : ℕ) → aggregate_number gs u a ≡ Some x → class_in c u a ≡ Some n → n < k

module _ (names : List (List ℕ)) (gs : List Graph) (groups : List Group) where
  -- all links have a joint equivalence, two aggregates have one class where they are one in the least equivalence, each class has its representative, and the classes are in order
  pub record AreClasses (c : Classes) : Type 0 where
    pub joint : Joint (things names gs) (links_of (things names gs) (sides gs groups))
    pub some : (u a x : ℕ) → aggregate_number gs u a ≡ Some x → (n : ℕ) × (class_in c u a ≡ Some n)
    pub same : (u a v b x y : ℕ) → aggregate_number gs u a ≡ Some x → aggregate_number gs v b ≡ Some y → (class_in c u a ≡ class_in c v b) ↔ Same (things names gs) (links_of (things names gs) (sides gs groups)) x y
    pub own : (k : ℕ) (p : UnitNo × AggId) → representative_in c k ≡ Some p → class_in c p.0.0 p.1.0 ≡ Some k
    pub stands : (u a x k : ℕ) → aggregate_number gs u a ≡ Some x → class_in c u a ≡ Some k
        → (p : UnitNo × AggId) × (s : ℕ) × (representative_in c k ≡ Some p) × (aggregate_number gs p.0.0 p.1.0 ≡ Some s) × Represents (things names gs) (links_of (things names gs) (sides gs groups)) (aggregate_count gs) s x
    pub ordered : (k s : ℕ) (p : UnitNo × AggId) → representative_in c k ≡ Some p → aggregate_number gs p.0.0 p.1.0 ≡ Some s → StandsNext (things names gs) (aggregate_count gs) (IsRepresentative gs c) (StandsBefore gs c k) s

  -- the first link that fails is that of two declarations of a group, by their places, and two types that it makes one differ
  abbrev pub IsRefused : ClassStop → Type 0
  IsRefused (stop.Clash group earlier later left right) = (pair : ℕ × ℕ) × FailsFirst (things names gs) (sides gs groups) group earlier later pair × IsTypeOf (things names gs) gs left pair.0 × IsTypeOf (things names gs) gs right pair.1
  IsRefused stop.Memory = Unit {0}

  abbrev pub Answers : Result Classes ClassStop → Type 0
  Answers (Ok c) = AreClasses c
  Answers (Err s) = IsRefused s
