-- Device: how numbers are spelled, by cases.
use Rattle.std.proofs.Common.{◌≡◌, suc, [], ◌∷◌, codes, refl, sym, ap, ◌∙◌, true, false, cond, arith}
use Rattle.std.specs.Prelude.{ℤ, pos, negsuc, unsigned_abs, int_lt}
use Rattle.std.specs.Ordering.{int_eq}
use Rattle.cil_base.specs.declared.kinds.IntKind.{IntKind}
use Rattle.cil_base.specs.Integer.{least, greatest}
use Rattle.cil_tree.specs.Declarators.{digits, number}
use Rattle.cil_printer.specs.Output.{Output, puts}
use Rattle.cil_printer.specs.Signs.{is_minus}
use Rattle.cil_printer.proofs.Puts.{two_pushed}

pub minus_is : (v : ℤ) → int_lt v (pos 0) ≡ is_minus v
minus_is (pos n) = grind arith
minus_is (negsuc n) = refl

pub number_plain : (kind : IntKind) (v : ℤ) → is_minus v ≡ false → number kind v ≡ digits kind (unsigned_abs v) ∷ []
number_plain kind (pos n) h = refl
number_plain kind (negsuc n) h = cc

pub number_least : (kind : IntKind) (v : ℤ) → is_minus v ≡ true → int_eq v (least kind) ≡ true → number kind v ≡ codes "-" ∷ digits kind (unsigned_abs (greatest kind)) ∷ codes "-" ∷ codes "1" ∷ []
number_least kind (pos n) h e = cc
number_least kind (negsuc n) h e = ap (λ b. cond b (codes "-" ∷ digits kind (unsigned_abs (greatest kind)) ∷ codes "-" ∷ codes "1" ∷ []) (codes "-" ∷ digits kind (suc n) ∷ [])) e

-- what two calls append for a negative number
pub number_negative : (o a b : Output) (kind : IntKind) (v : ℤ) → is_minus v ≡ true → int_eq v (least kind) ≡ false → a ≡ puts o (codes "-" ∷ []) → b ≡ puts a (digits kind (unsigned_abs v) ∷ []) → b ≡ puts o (number kind v)
number_negative o a b kind (pos n) h e ea eb = cc
number_negative o a b kind (negsuc n) h e ea eb = two_pushed o a b (codes "-" ∷ []) (digits kind (suc n) ∷ []) ea eb ∙ ap (λ c. puts o (cond c (codes "-" ∷ digits kind (unsigned_abs (greatest kind)) ∷ codes "-" ∷ codes "1" ∷ []) (codes "-" ∷ digits kind (suc n) ∷ []))) (sym e)
