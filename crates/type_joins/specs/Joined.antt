-- Device: pairs of things while they are joined: what of them is joined, what is left, and which thing stands for a class.
use Rattle.std.specs.Prelude.{◌≡◌, ℕ, List, [], ◌∷◌, Option, Some, None, get_or}
use Rattle.type_things.specs.Things.{Thing, HoldsPairs, read, head_of, inside_of, IsClosed}

-- e gives each thing the number of its root
abbrev pub Within : (ℕ → ℕ) → (ℕ → ℕ) → Type 0
Within r e = (x : ℕ) → e (r x) ≡ e x

-- the parts of two things at equal places
abbrev pub zipped : {L : Type 0} → List (L × ℕ) → List (L × ℕ) → List (ℕ × ℕ)
zipped [] qs = []
zipped (p ∷ ps) [] = []
zipped (p ∷ ps) (q ∷ qs) = (p.1, q.1) ∷ zipped ps qs

module _ {L : Type 0} where
  abbrev pub chosen_of : Option (List (L × ℕ)) → ℕ → ℕ → ℕ
  chosen_of None s t = t
  chosen_of (Some ps) s t = s

  abbrev pub carried_of : Option (List (L × ℕ)) → Option (List (L × ℕ)) → List (ℕ × ℕ)
  carried_of None o = []
  carried_of (Some ps) None = []
  carried_of (Some ps) (Some qs) = zipped ps qs

module _ {H L : Type 0} (ts : List (Thing H L)) where
  -- which of two things stands for both: one with parts, if one has them
  abbrev pub chosen : ℕ → ℕ → ℕ
  chosen s t = chosen_of (inside_of ts s) s t

  -- the pairs of their parts
  abbrev pub carried : ℕ → ℕ → List (ℕ × ℕ)
  carried s t = carried_of (inside_of ts s) (inside_of ts t)

  -- s stands for x: it is alike, and has parts where x has them
  pub record Stands (e : ℕ → ℕ) (x s : ℕ) : Type 0 where
    pub heads : head_of ts x ≡ head_of ts s
    pub inside : (ps : List (L × ℕ)) → inside_of ts x ≡ Some ps → (qs : List (L × ℕ)) × (inside_of ts s ≡ Some qs) × (read e ps ≡ read e qs)

  -- the things that roots stand for, the pairs that are left, and the links that are demanded
  pub record IsJoining (done : List (ℕ × ℕ)) (r : ℕ → ℕ) (st : List ℕ) (work : List (ℕ × ℕ)) : Type 0 where
    pub least : (x : ℕ) → r (r x) ≡ r x
    pub stays : (x : ℕ) → r (get_or st (r x) (r x)) ≡ r x
    pub forced : (e : ℕ → ℕ) → HoldsPairs e done → IsClosed ts e → Within r e × HoldsPairs e work
    pub closed : (e : ℕ → ℕ) → Within r e → HoldsPairs e work → HoldsPairs e done × ((x : ℕ) → Stands e x (get_or st (r x) (r x)))
