-- Device: steps of the evaluation of terms.
use Rattle.std.proofs.Common.{◌≡◌, ℤ, true, ap, ◌∙◌, subst}
use Rattle.std.specs.Ordering.{int_eq}
use Rattle.std.proofs.lemmas.Bool.Decides.{Decides-int_eq}
use Rattle.cil_base.specs.declared.kinds.IntKind.{IntKind}
use Rattle.cil_base.specs.Integer.{IsOf, wrapped}
use Rattle.cil_base.proofs.IntegerLaws.{wrapped_value}

-- a number that its conversion leaves is of the kind
pub number_value : (kind : IntKind) (n : ℤ) → int_eq (wrapped kind n) n ≡ true → IsOf kind n
number_value kind n e = subst (IsOf kind) ((Decides-int_eq (wrapped kind n) n).0 e) (wrapped_value kind n)

-- what is made of two things, at what they are
pub at_both : {A B C : Type 0} (f : A → B → C) {x y : A} {u v : B} → x ≡ y → u ≡ v → f x u ≡ f y v
at_both f {x} {y} {u} {v} e d = ap (λ x. f x u) e ∙ ap (f y) d
