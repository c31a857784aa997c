-- Definition: the types and the structs, unions and enums of several units as things with parts, and which of them are one (C11 6.2.7p1).
use Rattle.std.specs.Prelude.{◌≡◌, ◌⊎◌, ℕ, Bool, true, List, [], ◌∷◌, Option, Some, map, slice_get}
use Rattle.std.specs.Option.{option_map, option_and_then}

-- what a thing is, without its parts, and its parts, each with what is beside it (for a member its name, for an enumerator also its value);
-- a struct, union or enum that is incomplete has none
pub record Thing (H L : Type 0) : Type 0 where
  pub head : H
  pub inside : Option (List (L × ℕ))

-- e gives the things of each pair one number
abbrev pub HoldsPairs : (ℕ → ℕ) → List (ℕ × ℕ) → Type 0
HoldsPairs e [] = Unit {0}
HoldsPairs e (p ∷ ps) = (e p.0 ≡ e p.1) × HoldsPairs e ps

module _ {L : Type 0} where
  -- parts with their numbers as e gives them
  abbrev pub read : (ℕ → ℕ) → List (L × ℕ) → List (L × ℕ)
  read e ps = map (λ p. (p.0, e p.1)) ps

  -- what stands beside the parts
  abbrev pub labels : List (L × ℕ) → List L
  labels ps = map (λ p. p.0) ps

  -- two lists of parts have the same things beside them, and parts at equal places are identical or in a relation
  abbrev pub AllHeld : (ℕ → ℕ → Bool) → List (L × ℕ) → List (L × ℕ) → Type 0
  AllHeld R [] [] = Unit {0}
  AllHeld R [] (q ∷ qs) = ⊥
  AllHeld R (p ∷ ps) [] = ⊥
  AllHeld R (p ∷ ps) (q ∷ qs) = (p.0 ≡ q.0) × ((p.1 ≡ q.1) ⊎ (R p.1 q.1 ≡ true)) × AllHeld R ps qs

module _ {H L : Type 0} where
  module _ (ts : List (Thing H L)) where
    abbrev pub head_of : ℕ → Option H
    head_of x = option_map (λ (t : Thing H L). t.head) (slice_get ts x)

    abbrev pub inside_of : ℕ → Option (List (L × ℕ))
    inside_of x = option_and_then (λ (t : Thing H L). t.inside) (slice_get ts x)

    -- two things that are no incomplete aggregates are alike, with parts at equal places in a relation
    pub record AreAlikeIn (R : ℕ → ℕ → Bool) (x y : ℕ) : Type 0 where
      pub heads : head_of x ≡ head_of y
      pub left : List (L × ℕ)
      pub right : List (L × ℕ)
      pub inside_left : inside_of x ≡ Some left
      pub inside_right : inside_of y ≡ Some right
      pub parts : AllHeld R left right

    -- a relation that is locally closed
    abbrev pub IsLocal : (ℕ → ℕ → Bool) → Type 0
    IsLocal R = (x y : ℕ) → R x y ≡ true → AreAlikeIn R x y

    -- isomorphic: identical, or in some relation that is locally closed
    abbrev pub Isomorphic : ℕ → ℕ → Type 0
    Isomorphic x y = (x ≡ y) ⊎ ((R : ℕ → ℕ → Bool) × IsLocal R × (R x y ≡ true))

    -- the same beside the parts
    abbrev pub SameLabels : ℕ → ℕ → Type 0
    SameLabels x y = (ps qs : List (L × ℕ)) → inside_of x ≡ Some ps → inside_of y ≡ Some qs → labels ps ≡ labels qs

    -- two things do not differ in themselves, whatever their parts are: of two aggregates one may be incomplete
    pub record Agree (x y : ℕ) : Type 0 where
      pub heads : head_of x ≡ head_of y
      pub beside : SameLabels x y

    -- what e makes one has parts that e makes one, where it has parts and does not differ in itself
    abbrev pub IsClosed : (ℕ → ℕ) → Type 0
    IsClosed e = (x y : ℕ) (ps qs : List (L × ℕ)) → e x ≡ e y → head_of x ≡ head_of y → inside_of x ≡ Some ps → inside_of y ≡ Some qs → labels ps ≡ labels qs → read e ps ≡ read e qs

    -- two things are alike with parts that e makes one
    pub record AreAlike (e : ℕ → ℕ) (x y : ℕ) : Type 0 where
      pub heads : head_of x ≡ head_of y
      pub inside : (ps qs : List (L × ℕ)) → inside_of x ≡ Some ps → inside_of y ≡ Some qs → read e ps ≡ read e qs

    -- no two things that e makes one differ
    abbrev pub Fits : (ℕ → ℕ) → Type 0
    Fits e = (x y : ℕ) → e x ≡ e y → AreAlike e x y

    -- links have a joint equivalence
    pub record Joint (ds : List (ℕ × ℕ)) : Type 0 where
      pub by_class : ℕ → ℕ
      pub links : HoldsPairs by_class ds
      pub fits : Fits by_class

    -- e makes one what is isomorphic, what the links hold, and the parts of what it makes one
    pub record Joins (ds : List (ℕ × ℕ)) (e : ℕ → ℕ) : Type 0 where
      pub isomorphic : (x y : ℕ) → Isomorphic x y → e x ≡ e y
      pub links : HoldsPairs e ds
      pub closed : IsClosed e

    -- in the least such equivalence
    abbrev pub Same : List (ℕ × ℕ) → ℕ → ℕ → Type 0
    Same ds x y = (e : ℕ → ℕ) → Joins ds e → e x ≡ e y

    -- made one by every equivalence that holds the links and is closed
    abbrev pub Forced : List (ℕ × ℕ) → ℕ → ℕ → Type 0
    Forced ds x y = (e : ℕ → ℕ) → HoldsPairs e ds → IsClosed e → e x ≡ e y

    -- two things that have to be one and differ
    pub record IsClash (ds : List (ℕ × ℕ)) (p : ℕ × ℕ) : Type 0 where
      pub forced : Forced ds p.0 p.1
      pub differ : ¬ (Agree p.0 p.1)
