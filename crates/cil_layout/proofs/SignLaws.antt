-- Device: the bytes of punctuators are those of the table.
use Rattle.std.proofs.Common.{◌≡◌, ℕ, ◌||◌, Bool, true, false, cond, List, [], ◌∷◌, refl, sym}
use Rattle.std.proofs.Math.Bool.{and-true, and-false, or-false}
use Rattle.cil_tree.specs.Names.{is_among}
use Rattle.cil_tree.specs.LaidOut.{punctuators}
use Rattle.cil_layout.specs.Signs.{is_sign, is_pair, is_triple, is_quad, is_punctuator}

-- the test as a choice
choice : (x y : Bool) → x || y ≡ cond x true y
choice true y = refl
choice false y = refl

signs : (b : ℕ) → is_among punctuators (b ∷ []) ≡ is_sign b
unfolding is_sign
signs b = simp (and-true, and-false, or-false, choice) refl

pairs : (a b : ℕ) → is_among punctuators (a ∷ b ∷ []) ≡ is_pair a b
unfolding is_pair
pairs a b = simp (and-true, and-false, or-false, choice) refl

triples : (a b c : ℕ) → is_among punctuators (a ∷ b ∷ c ∷ []) ≡ is_triple a b c
unfolding is_triple
triples a b c = simp (and-true, and-false, or-false, choice) refl

quads : (a b c d : ℕ) → is_among punctuators (a ∷ b ∷ c ∷ d ∷ []) ≡ is_quad a b c d
unfolding is_quad
quads a b c d = simp (and-true, and-false, or-false, choice) refl

pub punctuator_is : (token : List ℕ) → is_punctuator token ≡ is_among punctuators token
punctuator_is [] = refl
punctuator_is (a ∷ []) = sym (signs a)
punctuator_is (a ∷ b ∷ []) = sym (pairs a b)
punctuator_is (a ∷ b ∷ c ∷ []) = sym (triples a b c)
punctuator_is (a ∷ b ∷ c ∷ d ∷ []) = sym (quads a b c d)
punctuator_is (a ∷ b ∷ c ∷ d ∷ e ∷ more) = simp (and-true, and-false, or-false) refl
