-- Definition: what the links of the declarations of external names make one: their types, or, where an array lacks a bound or a function a prototype, what the array holds or the function returns (C11 6.2.7p2, 6.7.6.2p6, 6.7.6.3p15).
use Rattle.std.specs.Prelude.{◌≡◌, ℕ, ◌+◌, ◌<◌, Bool, true, false, not, ◌&&◌, ◌||◌, List, [], ◌∷◌, ◌++◌, Some, None, length, ◌==◌, map, take, slice_get, if◌then◌else◌}
use Rattle.cil_base.specs.Kinds.{same_kind}
use Rattle.cil_base.specs.Usual.{promoted}
use Rattle.type_things.specs.declared.web.Head.{Head}
use Rattle.type_things.specs.declared.web.Head.TheVariants.{Int, Agg}
use Rattle.type_things.specs.declared.web.Label.{Label}
use Rattle.type_links.specs.declared.linking.Side.{Side}
use Rattle.type_links.specs.declared.parties.Group.{Group}
use Rattle.type_links.specs.declared.parties.Party.{Party}
use Rattle.type_things.specs.Heads.{first_type, is_open, is_bounded, lacks_prototype, has_prototype, is_enum, parts_of, first_part}
use Rattle.type_things.specs.Things.{Thing, head_of, Joint, IsClash}

-- what is compared of the declarations of a unit
abbrev pub side_of : List (ℕ × ℕ) → Party → Side
side_of firsts p = record { ty = first_type firsts p.unit.0 + p.ty.0; bare = p.bare }

abbrev pub sides_in : List (ℕ × ℕ) → Group → List Side
sides_in firsts g = map (side_of firsts) g.parties.items

-- one of two arrays has a bound, and the other has none
abbrev pub lacks_bound : Head → Head → Bool
lacks_bound h k = (is_open h && is_bounded k) || (is_bounded h && is_open k)

module _ (ts : List (Thing Head Label)) where
  abbrev pub is_enum_at : ℕ → Bool
  is_enum_at x = elim (head_of ts x) [ None ↦ false | Some h ↦ is_enum h ]

  -- a type that the default argument promotions leave as it is (6.5.2.2p6)
  abbrev pub stays : ℕ → Head → Bool
  stays x (Int kind) = same_kind (promoted kind) kind
  stays x Agg = not (is_enum_at (first_part ts x))
  stays x h = true

  abbrev pub stays_at : ℕ → Bool
  stays_at x = elim (head_of ts x) [ None ↦ true | Some h ↦ stays x h ]

  abbrev pub all_stay : List (Label × ℕ) → Bool
  all_stay [] = true
  all_stay (p ∷ ps) = stays_at p.1 && all_stay ps

  -- the parameters of a prototype fit a function without one: that of a definition has none, those of declarations stay as they are
  abbrev pub parameters_fit : Bool → List (Label × ℕ) → Bool
  parameters_fit bare ps = if bare then (length ps == 0) else all_stay ps

  -- the parts of a function with a prototype, of which the first is what it returns, fit a function without one
  abbrev pub prototype_fits : Bool → List (Label × ℕ) → Bool
  prototype_fits bare [] = false
  prototype_fits bare (p ∷ ps) = parameters_fit bare ps

  -- a function lacks a prototype, and another one has one that fits
  abbrev pub one_lacks : Bool → Head → Head → ℕ → Bool
  one_lacks bare h k y = lacks_prototype h && (has_prototype k && prototype_fits bare (parts_of ts y))

  -- two types may differ in themselves at the top of a link
  abbrev pub may_differ : Side → Side → Head → Head → Bool
  may_differ a b h k = lacks_bound h k || (one_lacks a.bare h k b.ty || one_lacks b.bare k h a.ty)

  abbrev pub may_differ_at : Side → Side → Bool
  may_differ_at a b = elim (head_of ts a.ty) [ None ↦ false | Some h ↦ elim (head_of ts b.ty) [ None ↦ false | Some k ↦ may_differ a b h k ] ]

  -- the two things that the link of two declarations makes one
  abbrev pub link : Side → Side → ℕ × ℕ
  link a b = if may_differ_at a b then (first_part ts a.ty, first_part ts b.ty) else (a.ty, b.ty)

  -- the links of a declaration with others before it
  abbrev pub links_with : List Side → Side → List (ℕ × ℕ)
  links_with cs b = map (λ a. link a b) cs

  -- the links of declarations with those before them, by the later one and then by the earlier one
  abbrev pub links_behind : List Side → List Side → List (ℕ × ℕ)
  links_behind cs [] = []
  links_behind cs (b ∷ bs) = links_with cs b ++ links_behind (cs ++ b ∷ []) bs

  -- all links, by the names' order and then by that of the declarations of a name
  abbrev pub links_of : List (List Side) → List (ℕ × ℕ)
  links_of [] = []
  links_of (g ∷ gs) = links_behind [] g ++ links_of gs

  -- the links before that of two declarations of one name
  abbrev pub links_before : List (List Side) → ℕ → List Side → ℕ → Side → ℕ → List (ℕ × ℕ)
  links_before groups group sides later b earlier = links_of (take group groups) ++ (links_behind [] (take later sides) ++ links_with (take earlier sides) b)

  -- the first link that fails is that of two declarations, and two types that have to be one by it differ
  pub record FailsFirst (groups : List (List Side)) (group earlier later : ℕ) (pair : ℕ × ℕ) : Type 0 where
    pub sides : List Side
    pub a : Side
    pub b : Side
    pub name : slice_get groups group ≡ Some sides
    pub first : slice_get sides earlier ≡ Some a
    pub second : slice_get sides later ≡ Some b
    pub order : earlier < later
    pub joint : Joint ts (links_before groups group sides later b earlier)
    pub clash : IsClash ts (links_before groups group sides later b earlier ++ link a b ∷ []) pair
