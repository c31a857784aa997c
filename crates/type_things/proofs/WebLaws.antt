-- Device: reading a web.
use Rattle.std.proofs.Common.{◌≡◌, inl, inr, ℕ, zero, suc, ◌<◌, ◌≤◌, List, [], ◌∷◌, ◌++◌, Option, Some, None, is_some, map, length, get_or, slice_get, ◌+◌, Result, IfOk, subst, refl, sym, ap, ◌∙◌, arith}
use Rattle.std.specs.Option.{option_map}
use Rattle.type_things.specs.declared.web.First.{First}
use Rattle.type_things.specs.declared.web.Label.{Label}
use Rattle.type_things.specs.declared.web.Span.{Span}
use Rattle.type_things.specs.declared.web.Stored.{Stored}
use Rattle.type_things.proofs.NumberLaws.{same_or_not, beyond, less_or}
use Rattle.type_things.specs.Things.{head_of, inside_of}
use Rattle.type_things.specs.Heads.{first_type, first_in}
use Rattle.type_things.specs.Webs.{parts_in, things_in, first_pair}

pub head_at : (ps : List (Label × ℕ)) (ss : List Stored) (x : ℕ) (t : Stored) → slice_get ss x ≡ Some t → head_of (things_in ps ss) x ≡ Some t.head
head_at ps [] x t e = cc
head_at ps (s ∷ ss) zero t e = let same : s ≡ t = cc in ap (λ (k : Stored). Some k.head) same
head_at ps (s ∷ ss) (suc x) t e = head_at ps ss x t e

pub inside_at : (ps : List (Label × ℕ)) (ss : List Stored) (x : ℕ) (t : Stored) → slice_get ss x ≡ Some t → inside_of (things_in ps ss) x ≡ option_map (parts_in ps) t.inside
inside_at ps [] x t e = cc
inside_at ps (s ∷ ss) zero t e = let same : s ≡ t = cc in ap (λ (k : Stored). option_map (parts_in ps) k.inside) same
inside_at ps (s ∷ ss) (suc x) t e = inside_at ps ss x t e

pub complete_at : (ps : List (Label × ℕ)) (ss : List Stored) (x : ℕ) (t : Stored) → slice_get ss x ≡ Some t → is_some t.inside ≡ is_some (inside_of (things_in ps ss) x)
complete_at ps ss x t e = by t.inside ∙ ap is_some (sym (inside_at ps ss x t e))
  where
    by : (o : Option Span) → is_some o ≡ is_some (option_map (parts_in ps) o)
    by None = refl
    by (Some s) = refl

pub push_left : (xs : List ℕ) (i n d : ℕ) → i < length xs → get_or (xs ++ n ∷ []) i d ≡ get_or xs i d
push_left [] i n d h = absurd (omega arith)
push_left (x ∷ xs) zero n d h = refl
push_left (x ∷ xs) (suc i) n d h = push_left xs i n d (omega (arith, h))

pub push_at : (xs : List ℕ) (n d : ℕ) → get_or (xs ++ n ∷ []) (length xs) d ≡ n
push_at [] n d = refl
push_at (x ∷ xs) n d = push_at xs n d

pub push_length : {X : Type 0} (xs : List X) (n : X) → length (xs ++ n ∷ []) ≡ suc (length xs)
push_length [] n = refl
push_length (x ∷ xs) n = ap suc (push_length xs n)

-- what is pushed behind the numbers up to one
pub counted_more : (xs : List ℕ) (n : ℕ) → n ≡ length xs → ((x : ℕ) → get_or xs x x ≡ x) → (x : ℕ) → get_or (xs ++ n ∷ []) x x ≡ x
counted_more xs n e h x = elim (less_or x (length xs)) [
  | inl a ↦ push_left xs x n x a ∙ h x
  | inr a ↦ elim (same_or_not x (length xs)) [
    | inl b ↦ ap (λ k. get_or (xs ++ n ∷ []) k x) b ∙ push_at xs n x ∙ e ∙ sym b
    | inr b ↦ beyond (xs ++ n ∷ []) x x (omega (arith, a, b, push_length xs n))
  ]
]

-- the first type of a unit
pub first_type_at : {E : Type 0} (r : Result ℕ E) (fs : List First) (u t : ℕ) (f : First) → slice_get fs u ≡ Some f → IfOk r (λ n. n ≡ f.ty + t) → IfOk r (λ n. n ≡ first_type (map first_pair fs) u + t)
first_type_at r fs u t f e = subst (λ k. IfOk r (λ n. n ≡ k + t)) (by fs u e)
  where
    by : (gs : List First) (i : ℕ) → slice_get gs i ≡ Some f → f.ty ≡ first_type (map first_pair gs) i
    by [] i q = (let bad : ⊥ = cc in absurd bad)
    by (g ∷ gs) zero q = (let s : g ≡ f = cc in ap (λ (k : First). k.ty) (sym s))
    by (g ∷ gs) (suc i) q = by gs i q

pub first_of_parts : (ps qs : List (Label × ℕ)) (d : Label × ℕ) → qs ≡ ps → 1 ≤ length qs → (get_or qs 0 d).1 ≡ first_in ps
first_of_parts ps [] d e h = absurd (omega (arith, h))
first_of_parts ps (q ∷ qs) d e h = ap first_in e
