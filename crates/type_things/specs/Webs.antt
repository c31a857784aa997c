-- Device: a web as a list of things, each with its parts.
use Rattle.std.specs.Prelude.{◌≡◌, ℕ, ◌<◌, ◌≤◌, Bool, true, false, List, [], ◌∷◌, Some, map, take, drop}
use Rattle.std.specs.Option.{option_map}
use Rattle.type_things.specs.declared.web.First.{First}
use Rattle.type_things.specs.declared.web.Head.{Head}
use Rattle.type_things.specs.declared.web.Head.TheVariants.{Tagged}
use Rattle.type_things.specs.declared.web.Label.{Label}
use Rattle.type_things.specs.declared.web.Span.{Span}
use Rattle.type_things.specs.declared.web.Stored.{Stored}
use Rattle.type_things.specs.declared.web.Web.{Web}
use Rattle.type_things.specs.Things.{Thing, head_of, inside_of}

abbrev pub parts_in : List (Label × ℕ) → Span → List (Label × ℕ)
parts_in ps s = take s.count (drop s.first ps)

abbrev pub thing_in : List (Label × ℕ) → Stored → Thing Head Label
thing_in ps t = record { head = t.head; inside = option_map (parts_in ps) t.inside }

abbrev pub things_in : List (Label × ℕ) → List Stored → List (Thing Head Label)
things_in ps ts = map (thing_in ps) ts

abbrev pub things_of : Web → List (Thing Head Label)
things_of w = things_in w.parts.items w.things.items

abbrev pub first_pair : First → ℕ × ℕ
first_pair f = (f.aggregate, f.ty)

abbrev pub first_pairs : Web → List (ℕ × ℕ)
first_pairs w = map first_pair w.firsts.items

-- a type, which is no aggregate
abbrev pub is_type : Head → Bool
is_type (Tagged kind stem) = false
is_type h = true

-- each type has parts, though it may be none of them
abbrev pub AreWhole : List (Thing Head Label) → Type 0
AreWhole ts = (x : ℕ) (h : Head) → head_of ts x ≡ Some h → is_type h ≡ true → (ps : List (Label × ℕ)) × (inside_of ts x ≡ Some ps)

abbrev pub AllBelow : {L : Type 0} → ℕ → List (L × ℕ) → Type 0
AllBelow k [] = Unit {0}
AllBelow k (p ∷ ps) = (p.1 < k) × AllBelow k ps

module _ {H L : Type 0} (ts : List (Thing H L)) (m : ℕ) where
  -- the aggregates come first, and a type names what stands before it
  pub record IsWeb : Type 0 where
    pub sorted : (x y : ℕ) → head_of ts x ≡ head_of ts y → x < m → y < m
    pub grounded : (x : ℕ) (ps : List (L × ℕ)) → m ≤ x → inside_of ts x ≡ Some ps → AllBelow x ps
