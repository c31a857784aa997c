-- Definition: what is asked of types and of structs, unions and enums of units: arrays without a bound, functions without a prototype, enums (C11 6.2.5p20, 6.7.6.3p14), and their parts.
use Rattle.std.specs.Prelude.{ℕ, Bool, true, false, List, [], ◌∷◌, Some, None, slice_get}
use Rattle.type_graph.specs.declared.aggregates.AggKind.TheVariants.{Enum}
use Rattle.type_things.specs.declared.web.Head.{Head}
use Rattle.type_things.specs.declared.web.Head.TheVariants.{Array, Func, Tagged}
use Rattle.type_things.specs.declared.web.Label.{Label}
use Rattle.type_things.specs.Things.{Thing, inside_of}

-- the number of a unit's first type, by the first numbers of the aggregates and types of units
abbrev pub first_type : List (ℕ × ℕ) → ℕ → ℕ
first_type firsts u = elim (slice_get firsts u) [ None ↦ 0 | Some f ↦ f.1 ]

abbrev pub is_open : Head → Bool
is_open (Array None) = true
is_open h = false

abbrev pub is_bounded : Head → Bool
is_bounded (Array (Some n)) = true
is_bounded h = false

-- a function without a prototype
abbrev pub lacks_prototype : Head → Bool
lacks_prototype (Func false variadic) = true
lacks_prototype h = false

-- a function with a prototype that does not end in `...`
abbrev pub has_prototype : Head → Bool
has_prototype (Func true false) = true
has_prototype h = false

abbrev pub is_enum : Head → Bool
is_enum (Tagged Enum stem) = true
is_enum h = false

abbrev pub first_in : List (Label × ℕ) → ℕ
first_in [] = 0
first_in (p ∷ ps) = p.1

module _ (ts : List (Thing Head Label)) where
  -- the parts of a thing, none where it has none
  abbrev pub parts_of : ℕ → List (Label × ℕ)
  parts_of x = elim (inside_of ts x) [ None ↦ [] | Some ps ↦ ps ]

  abbrev pub first_part : ℕ → ℕ
  first_part x = first_in (parts_of x)
