-- Device: the external names of a program are looked at one by one.
use Rattle.std.proofs.Common.{◌≡◌, ℕ, zero, suc, ◌+◌, ◌<◌, ◌≤◌, true, false, List, [], ◌∷◌, length, Some, slice_get, ◌⊎◌, inl, inr, leb, sym, subst, ◌∙◌, arith}
use Rattle.std.proofs.lemmas.Bool.Decides.{leb_tells}
use Rattle.std.proofs.lemmas.Option.{same_Some}
use Rattle.c_lexer.specs.Lexed.{Lexed}
use Rattle.link_names.specs.declared.units.Site.{Site}
use Rattle.link_names.specs.declared.units.Fronted.{Fronted}
use Rattle.unit_front.specs.Identifiers.{IsDeclared, AreDeclared}

-- those before a number
abbrev pub AreDeclaredTo : Lexed → Fronted → ℕ → Type 0
AreDeclaredTo t f i = (j : ℕ) (s : Site) → j < i → slice_get f.sites.items j ≡ Some s → IsDeclared t f.cil.globals.items s

pub none_yet : (t : Lexed) (f : Fronted) → AreDeclaredTo t f 0
none_yet t f j s below there = absurd (omega (arith, below))

pub one_more : (t : Lexed) (f : Fronted) (i : ℕ) (s : Site) → AreDeclaredTo t f i → slice_get f.sites.items i ≡ Some s → IsDeclared t f.cil.globals.items s → AreDeclaredTo t f (i + 1)
one_more t f i s before is declared j r below there = by (leb_tells i j)
  where
    by : ((leb i j ≡ true) × (i ≤ j)) ⊎ ((leb i j ≡ false) × (j < i)) → IsDeclared t f.cil.globals.items r
    by (inl (test, over)) =
        let here : i ≡ j = omega (arith, over, below) in
        let same : s ≡ r = same_Some s r (sym is ∙ subst (λ k. slice_get f.sites.items k ≡ Some r) (sym here) there) in
        subst (IsDeclared t f.cil.globals.items) same declared
    by (inr (test, under)) = before j r under there

within : {X : Type 0} (xs : List X) (i : ℕ) (x : X) → slice_get xs i ≡ Some x → i < length xs
within [] zero x is = cc
within [] (suc i) x is = cc
within (y ∷ xs) zero x is = omega arith
within (y ∷ xs) (suc i) x is = omega (arith, within xs i x is)

pub all : (t : Lexed) (f : Fronted) (i : ℕ) → length f.sites.items ≤ i → AreDeclaredTo t f i → AreDeclared t f
all t f i over before j s there = before j s (omega (arith, over, within f.sites.items j s there)) there
