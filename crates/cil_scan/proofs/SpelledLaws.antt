-- Device: the tables by the lengths of tokens are those of the reading.
use Rattle.std.proofs.Common.{◌≡◌, ℕ, List, [], ◌∷◌, refl}
use Rattle.std.proofs.Math.Bool.{and-true, and-false}
use Rattle.cil_text.specs.Words.{signs, reserved, look_up, word_of, first_of, free_word}
use Rattle.cil_scan.specs.Spelled.{sign_1, sign_2, sign_3, word_2, word_3, word_4, word_5, word_7, word_8, sign_of, reserved_of}

pub sign_is : (token : List ℕ) → look_up signs token ≡ sign_of token
unfolding sign_1 sign_2 sign_3
sign_is [] = refl
sign_is (a ∷ []) = simp (and-true, and-false) refl
sign_is (a ∷ b ∷ []) = simp (and-true, and-false) refl
sign_is (a ∷ b ∷ c ∷ []) = simp (and-true, and-false) refl
sign_is (a ∷ b ∷ c ∷ d ∷ more) = simp (and-true, and-false) refl

pub reserved_is : (token : List ℕ) → look_up reserved token ≡ reserved_of token
unfolding word_2 word_3 word_4 word_5 word_7 word_8
reserved_is [] = refl
reserved_is (a ∷ []) = simp (and-true, and-false) refl
reserved_is (a ∷ b ∷ []) = simp (and-true, and-false) refl
reserved_is (a ∷ b ∷ c ∷ []) = simp (and-true, and-false) refl
reserved_is (a ∷ b ∷ c ∷ d ∷ []) = simp (and-true, and-false) refl
reserved_is (a ∷ b ∷ c ∷ d ∷ e ∷ []) = simp (and-true, and-false) refl
reserved_is (a ∷ b ∷ c ∷ d ∷ e ∷ f ∷ []) = simp (and-true, and-false) refl
reserved_is (a ∷ b ∷ c ∷ d ∷ e ∷ f ∷ g ∷ []) = simp (and-true, and-false) refl
reserved_is (a ∷ b ∷ c ∷ d ∷ e ∷ f ∷ g ∷ h ∷ []) = simp (and-true, and-false) refl
reserved_is (a ∷ b ∷ c ∷ d ∷ e ∷ f ∷ g ∷ h ∷ i ∷ more) = simp (and-true, and-false) refl

pub spelled : (token : List ℕ) → word_of token ≡ first_of (sign_of token) (reserved_of token) (free_word token)
unfolding word_of
spelled token = rw (sign_is token, reserved_is token) refl
