-- Device: a value fits a kind where its conversion leaves it.
use Rattle.std.proofs.Common.{◌≡◌, Bool, true, false, ◌&&◌, ℤ, ◌≤ℤ◌, int_le, refl, sym, ◌∙◌, subst, arith}
use Rattle.std.proofs.lemmas.Int.{ints}
use Rattle.std.proofs.lemmas.Bool.Decides.{Decides-int_eq}
use Rattle.std.specs.Ordering.{int_eq}
use Rattle.cil_base.specs.declared.kinds.IntKind.{IntKind}
use Rattle.cil_base.specs.Integer.{IsOf, least, greatest, wrapped}
use Rattle.cil_base.specs.Arithmetic.{fits}
use Rattle.cil_base.proofs.IntegerLaws.{wrapped_value, wrapped-IsOf}

told_bounds : (low high v : ℤ) → (int_le low v && int_le v high) ≡ true → (low ≤ℤ v) × (v ≤ℤ high)
told_bounds low high v e = (grind (arith, ints), grind (arith, ints))

held_bounds : (low high v : ℤ) → low ≤ℤ v → v ≤ℤ high → (int_le low v && int_le v high) ≡ true
held_bounds low high v h k = grind (arith, ints)

-- a conversion leaves exactly the values of the kind
pub fits_is : (kind : IntKind) (v w : ℤ) → w ≡ wrapped kind v → int_eq w v ≡ fits kind v
fits_is kind v w e = by (int_eq w v) (fits kind v) refl refl
  where
    by : (p q : Bool) → int_eq w v ≡ p → fits kind v ≡ q → p ≡ q
    by true true a b = refl
    by false false a b = refl
    by true false a b =
        let same : w ≡ v = (Decides-int_eq w v).0 a in
        let is : IsOf kind v = subst (IsOf kind) (sym e ∙ same) (wrapped_value kind v) in
        sym (held_bounds (least kind) (greatest kind) v is.0 is.1) ∙ b
    by false true a b =
        let is : IsOf kind v = told_bounds (least kind) (greatest kind) v b in
        let same : w ≡ v = e ∙ wrapped-IsOf kind v is in
        sym a ∙ (Decides-int_eq w v).1 same
