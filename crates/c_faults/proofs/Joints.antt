-- Device: links with a joint equivalence, and things that have to be one and differ.
use Rattle.std.proofs.Common.{◌≡◌, refl, sym, ap, ◌∙◌, subst, ℕ, Bool, true, false, nat_eq, List, [], ◌∷◌, Option, Some, None, arith}
use Rattle.type_things.specs.Things.{Thing, head_of, inside_of, read, labels, Agree, AreAlike, IsClosed, HoldsPairs, Joint}

-- numbers with another one in their place
abbrev pub joined : List (ℕ × ℕ) → ℕ → ℕ
joined [] x = x
joined (p ∷ ps) x = elim (nat_eq x p.0) [ true ↦ p.1 | false ↦ joined ps x ]

-- no number stands in the place of two
abbrev pub IsFree : ℕ → List (ℕ × ℕ) → Type 0
IsFree r [] = Unit {0}
IsFree r (p ∷ ps) = (nat_eq p.1 r ≡ false) × IsFree r ps

abbrev pub AreFree : List (ℕ × ℕ) → Type 0
AreFree [] = Unit {0}
AreFree (p ∷ ps) = IsFree p.1 ps × AreFree ps

abbrev pub HoldFor : (ℕ → ℕ → Type 0) → List (ℕ × ℕ) → Type 0
HoldFor R [] = Unit {0}
HoldFor R (p ∷ ps) = R p.0 p.1 × HoldFor R ps

equal_is : (m n : ℕ) → nat_eq m n ≡ true → m ≡ n
equal_is m n e = grind arith

not_equal : (m n : ℕ) → m ≡ n → nat_eq m n ≡ false → ⊥
not_equal m n e f = grind arith

only_by : (p : ℕ × ℕ) (ps : List (ℕ × ℕ)) (r y : ℕ) → nat_eq p.1 r ≡ false → (joined ps y ≡ r → y ≡ r) → (b : Bool) → elim b [ true ↦ p.1 | false ↦ joined ps y ] ≡ r → y ≡ r
only_by p ps r y f go true e = absurd (not_equal p.1 r e f)
only_by p ps r y f go false e = go e

only : (ps : List (ℕ × ℕ)) (r y : ℕ) → IsFree r ps → joined ps y ≡ r → y ≡ r
only [] r y f e = e
only (p ∷ ps) r y f e = only_by p ps r y f.0 (only ps r y f.1) (nat_eq y p.0) e

two_by : (R : ℕ → ℕ → Type 0) → ((x : ℕ) → R x x) → ((x y : ℕ) → R x y → R y x) → (p : ℕ × ℕ) (ps : List (ℕ × ℕ)) → IsFree p.1 ps → R p.0 p.1 → (x y : ℕ) → (joined ps x ≡ joined ps y → R x y)
    → (b c : Bool) → nat_eq x p.0 ≡ b → nat_eq y p.0 ≡ c → ◌≡◌ {A = ℕ} (elim b [ true ↦ p.1 | false ↦ joined ps x ]) (elim c [ true ↦ p.1 | false ↦ joined ps y ]) → R x y
two_by R same turned p ps f h x y go true true u v g = subst (R x) (equal_is x p.0 u ∙ sym (equal_is y p.0 v)) (same x)
two_by R same turned p ps f h x y go true false u v g = subst (λ z. R z y) (sym (equal_is x p.0 u)) (subst (R p.0) (sym (only ps p.1 y f (sym g))) h)
two_by R same turned p ps f h x y go false true u v g = subst (R x) (sym (equal_is y p.0 v)) (turned p.0 x (subst (R p.0) (sym (only ps p.1 x f g)) h))
two_by R same turned p ps f h x y go false false u v g = go g

joined_two : (R : ℕ → ℕ → Type 0) → ((x : ℕ) → R x x) → ((x y : ℕ) → R x y → R y x) → (ps : List (ℕ × ℕ)) → AreFree ps → HoldFor R ps → (x y : ℕ) → joined ps x ≡ joined ps y → R x y
joined_two R same turned [] f h x y e = subst (R x) e (same x)
joined_two R same turned (p ∷ ps) f h x y e = two_by R same turned p ps f.0 h.0 x y (joined_two R same turned ps f.1 h.1 x y) (nat_eq x p.0) (nat_eq y p.0) refl refl e

some_one : {A : Type 0} (a b : A) (o : Option A) → o ≡ Some a → o ≡ Some b → a ≡ b
some_one a b o e f = cc

none_some : {A : Type 0} (a : A) (o : Option A) → o ≡ None → o ≡ Some a → ⊥
none_some a o e f = cc

first_is : {A : Type 0} (a b : A) → (a ∷ []) ≡ (b ∷ []) → a ≡ b
first_is a b e = cc

module _ {H L : Type 0} (ts : List (Thing H L)) where
  alike_itself : (e : ℕ → ℕ) (x : ℕ) → AreAlike ts e x x
  alike_itself e x = record { heads = refl; inside = λ ps qs f g. ap (read e) (some_one ps qs (inside_of ts x) f g) }

  alike_turned : (e : ℕ → ℕ) (x y : ℕ) → AreAlike ts e x y → AreAlike ts e y x
  alike_turned e x y a = record { heads = sym a.heads; inside = λ ps qs f g. sym (a.inside qs ps g f) }

  pub alike_by : (e : ℕ → ℕ) (x y : ℕ) (ps qs : List (L × ℕ)) → head_of ts x ≡ head_of ts y → inside_of ts x ≡ Some ps → inside_of ts y ≡ Some qs → read e ps ≡ read e qs → AreAlike ts e x y
  alike_by e x y ps qs h f g r = record {
    heads = h;
    inside = λ us vs m n. ap (read e) (some_one us ps (inside_of ts x) m f) ∙ (r ∙ ap (read e) (some_one qs vs (inside_of ts y) g n));
  }

  pub alike_incomplete : (e : ℕ → ℕ) (x y : ℕ) → head_of ts x ≡ head_of ts y → inside_of ts x ≡ None → AreAlike ts e x y
  alike_incomplete e x y h f = record { heads = h; inside = λ us vs m n. absurd (none_some us (inside_of ts x) f m) }

  -- without links
  pub joint_none : Joint ts []
  joint_none = record { by_class = λ x. x; links = tt; fits = λ x y e. subst (AreAlike ts (λ z. z) x) e (alike_itself (λ z. z) x) }

  -- links that are held where pairs of things are joined that are alike
  pub joint_of : (ps ds : List (ℕ × ℕ)) → AreFree ps → HoldFor (AreAlike ts (joined ps)) ps → HoldsPairs (joined ps) ds → Joint ts ds
  joint_of ps ds f h l = record { by_class = joined ps; links = l; fits = λ x y e. joined_two (AreAlike ts (joined ps)) (alike_itself (joined ps)) (alike_turned (joined ps)) ps f h x y e }

  -- the one part of two things that have to be one
  pub part_forced : (e : ℕ → ℕ) → IsClosed ts e → (x y p q : ℕ) (l : L) → head_of ts x ≡ head_of ts y → inside_of ts x ≡ Some ((l, p) ∷ []) → inside_of ts y ≡ Some ((l, q) ∷ []) → e x ≡ e y → e p ≡ e q
  part_forced e closed x y p q l h f g s = ap (λ (z : L × ℕ). z.1) (first_is (l, e p) (l, e q) (closed x y ((l, p) ∷ []) ((l, q) ∷ []) s h f g refl))

  pub differ_by : (x y : ℕ) (h k : H) → head_of ts x ≡ Some h → head_of ts y ≡ Some k → (h ≡ k → ⊥) → ¬ (Agree ts x y)
  differ_by x y h k f g n a = n (some_one h k (head_of ts x) f (a.heads ∙ g))
