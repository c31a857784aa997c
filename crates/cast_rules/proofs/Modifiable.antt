-- Device: two Booleans that decide one statement are one.
use Rattle.std.proofs.Common.{◌≡◌, Bool, true, false, IsTrue, ◌↔◌, refl}

pub same_truth : (a b : Bool) (P : Type 0) → (IsTrue a ↔ P) → (IsTrue b ↔ P) → a ≡ b
same_truth true true P x y = refl
same_truth true false P x y = let no : IsTrue false = y.1 (x.0 refl) in cc
same_truth false true P x y = let no : IsTrue false = x.1 (y.0 refl) in cc
same_truth false false P x y = refl
