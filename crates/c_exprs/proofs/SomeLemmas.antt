-- Tests that hold of some element of a list.
use Rattle.std.proofs.Common.{◌≡◌, refl, sym, ◌∙◌, ap, ℕ, ◌+◌, ◌<◌, ◌≤◌, Bool, true, false, ◌||◌, List, [], ◌∷◌, drop, length, get_or}
use Rattle.c_tree.specs.declared.expression.Specifier.{Specifier}
use Rattle.c_tree.specs.View.{specifier_of, specifiers_of}
use Rattle.c_tree.specs.Scoped.{names_type, has_type_specifier, is_typedef, has_typedef}
use Rattle.c_tree.proofs.CappedLemmas.{drop_at, drop_all}
use Rattle.c_exprs.specs.Steps.{any_of, SomeSoFar}

pub some_start : {A : Type 0} (f : A → Bool) (xs : List A) → SomeSoFar f xs 0 false
unfolding SomeSoFar
some_start f xs = refl

or_assoc : (a b c : Bool) → ((a || b) || c) ≡ (a || (b || c))
or_assoc true b c = refl
or_assoc false b c = refl

or_false : (b : Bool) → (b || false) ≡ b
or_false true = refl
or_false false = refl

pub some_step : {A : Type 0} (f : A → Bool) (xs : List A) (i : ℕ) (so_far h more : Bool) (x : A) → i < length xs → x ≡ get_or xs i x → h ≡ f x → more ≡ (so_far || h) → SomeSoFar f xs i so_far → SomeSoFar f xs (i + 1) more
unfolding SomeSoFar
some_step f xs i so_far h more x lt is e m w =
    let split : drop i xs ≡ x ∷ drop (i + 1) xs = drop_at xs i x lt ∙ ap (λ y. y ∷ drop (i + 1) xs) (sym is) in
    ap (λ b. b || any_of f (drop (i + 1) xs)) (m ∙ ap (λ b. so_far || b) e) ∙ (or_assoc so_far (f x) (any_of f (drop (i + 1) xs)) ∙ (ap (λ ys. so_far || any_of f ys) (sym split) ∙ w))

pub some_end : {A : Type 0} (f : A → Bool) (xs : List A) (i : ℕ) (so_far : Bool) → length xs ≤ i → SomeSoFar f xs i so_far → so_far ≡ any_of f xs
unfolding SomeSoFar
some_end f xs i so_far le w = sym (or_false so_far) ∙ (ap (λ ys. so_far || any_of f ys) (sym (drop_all xs i le)) ∙ w)

pub some_typed_of : (xs : List Specifier) → any_of (λ s. names_type (specifier_of s)) xs ≡ has_type_specifier (specifiers_of xs)
some_typed_of [] = refl
some_typed_of (x ∷ xs) = ap (λ b. names_type (specifier_of x) || b) (some_typed_of xs)

pub some_typedef_of : (xs : List Specifier) → any_of (λ s. is_typedef (specifier_of s)) xs ≡ has_typedef (specifiers_of xs)
some_typedef_of [] = refl
some_typedef_of (x ∷ xs) = ap (λ b. is_typedef (specifier_of x) || b) (some_typedef_of xs)
