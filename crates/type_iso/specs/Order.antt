-- Definition: the order of structs, unions and enums in a program (own): the enums first, then again and again the least struct or union before which everything stands that its members have by value, and that is an array's element anywhere in their types, since each has to be complete there (C11 6.7.2.1p3, 6.7.6.2p1).
use Rattle.std.specs.Prelude.{◌≡◌, ◌⊎◌, ℕ, ◌<◌, ◌≤◌, Bool, true, false, List, Option, Some, slice_get}
use Rattle.type_things.specs.declared.web.Head.{Head}
use Rattle.type_things.specs.declared.web.Head.TheVariants.{Ptr, Array, Func, Agg}
use Rattle.type_things.specs.declared.web.Label.{Label}
use Rattle.type_things.specs.Heads.{parts_of}
use Rattle.type_things.specs.Things.{Thing, head_of}
use Rattle.type_links.specs.Links.{is_enum_at}

-- a pointer, an array or a function (6.2.5p20)
abbrev pub is_derived : Head → Bool
is_derived Ptr = true
is_derived (Array bound) = true
is_derived (Func proto variadic) = true
is_derived h = false

module _ (ts : List (Thing Head Label)) where
  -- y is a part of x
  abbrev pub IsPart : ℕ → ℕ → Type 0
  IsPart x y = (i : ℕ) × (l : Label) × (slice_get (parts_of ts x) i ≡ Some (l, y))

  -- a set of types has those that are the aggregate a, and the arrays of its types
  pub record HoldsValues (a : ℕ) (S : ℕ → Bool) : Type 0 where
    pub itself : (y : ℕ) → head_of ts y ≡ Some Agg → IsPart y a → S y ≡ true
    pub arrays : (y z : ℕ) (bound : Option ℕ) → head_of ts y ≡ Some (Array bound) → IsPart y z → S z ≡ true → S y ≡ true

  -- a type is the aggregate a, or an array of such a type
  abbrev pub HasValue : ℕ → ℕ → Type 0
  HasValue x a = (S : ℕ → Bool) → HoldsValues a S → S x ≡ true

  -- a set of types has the arrays whose elements have a by value, and the pointers, arrays and functions of its types
  pub record HoldsElements (a : ℕ) (S : ℕ → Bool) : Type 0 where
    pub arrays : (y z : ℕ) (bound : Option ℕ) → head_of ts y ≡ Some (Array bound) → IsPart y z → HasValue z a → S y ≡ true
    pub derived : (y z : ℕ) (h : Head) → head_of ts y ≡ Some h → is_derived h ≡ true → IsPart y z → S z ≡ true → S y ≡ true

  -- a is the element of an array anywhere in a type
  abbrev pub HasElement : ℕ → ℕ → Type 0
  HasElement x a = (S : ℕ → Bool) → HoldsElements a S → S x ≡ true

  -- an aggregate's members have a by value, or as an element
  abbrev pub Needs : ℕ → ℕ → Type 0
  Needs s a = (y : ℕ) × IsPart s y × (HasValue y a ⊎ HasElement y a)

  -- the aggregates are the first m things, of which some stand for their classes, and some stand before
  module _ (m : ℕ) (Own Before : ℕ → Type 0) where
    -- an enum, or, behind all enums, a struct or union that needs what stands before
    abbrev pub MayStand : ℕ → Type 0
    MayStand s = (is_enum_at ts s ≡ true) ⊎ (((e : ℕ) → e < m → Own e → is_enum_at ts e ≡ true → Before e) × ((a : ℕ) → a < m → Needs s a → Before a))

    -- the least that may stand
    pub record StandsNext (s : ℕ) : Type 0 where
      pub may : MayStand s
      pub least : (b : ℕ) → b < m → Own b → MayStand b → ¬ (Before b) → s ≤ b
