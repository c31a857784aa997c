-- Punctuators by their numbers.
use Rattle.std.proofs.Common.{◌≡◌, refl, sym, ◌∙◌, ap, Bool, true, false, nat_eq}
use Rattle.cil_base.specs.declared.tokens.Punctuator.{Punctuator}
use Rattle.c_cursor.specs.Classes.{sign_number}
use Rattle.c_cursor.proofs.Tokens.{same_number, eq_true, true_eq}

unequal : (p q : Punctuator) (b : Bool) → (p ≡ q → b ≡ true) → b ≡ false → (c : Bool) → nat_eq (sign_number p) (sign_number q) ≡ c → c ≡ false
unequal p q b back e true is = sym (back (sym (same_number p q (eq_true (sign_number p) (sign_number q) is)))) ∙ e
unequal p q b back e false is = refl

equal : (p q : Punctuator) → p ≡ q → nat_eq (sign_number p) (sign_number q) ≡ true
equal p q e = ap (λ r. nat_eq (sign_number p) (sign_number r)) (sym e) ∙ true_eq (sign_number p)

-- a comparison of punctuators compares their numbers
pub same_sign : (p q : Punctuator) (b : Bool) → (b ≡ true → p ≡ q) → (p ≡ q → b ≡ true) → b ≡ nat_eq (sign_number p) (sign_number q)
same_sign p q true to back = sym (equal p q (to refl))
same_sign p q false to back = sym (unequal p q false back refl (nat_eq (sign_number p) (sign_number q)) refl)
