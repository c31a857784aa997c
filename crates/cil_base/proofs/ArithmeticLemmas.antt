-- Device: lemmas on quotients and remainders by a divisor that is not zero.
use Rattle.std.proofs.Common.{◌≡◌, ◌≢◌, Bool, true, false, cond, Some, None, ℤ, pos, int_div, int_rem, refl, sym, ap, ◌∙◌}
use Rattle.std.specs.Option.{option_map}
use Rattle.std.specs.Ordering.{int_eq}
use Rattle.std.proofs.lemmas.Bool.Decides.{Decides-int_eq}
use Rattle.cil_base.specs.declared.kinds.IntKind.{IntKind}
use Rattle.cil_base.specs.Arithmetic.{settled, quotient, remainder}

pub quotient_of : (kind : IntKind) (a b : ℤ) → b ≢ pos 0 → quotient kind a b ≡ settled kind (int_div a b)
quotient_of kind a b h = by (int_eq b (pos 0)) refl
  where
    by : (zero : Bool) → int_eq b (pos 0) ≡ zero → cond zero None (settled kind (int_div a b)) ≡ settled kind (int_div a b)
    by true e = absurd (h ((Decides-int_eq b (pos 0)).0 e))
    by false e = refl

pub remainder_of : (kind : IntKind) (a b q : ℤ) → b ≢ pos 0 → Some q ≡ settled kind (int_div a b) → remainder kind a b ≡ Some (int_rem a b)
remainder_of kind a b q h e = ap (option_map (λ _. int_rem a b)) (quotient_of kind a b h ∙ sym e)
