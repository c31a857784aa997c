-- Device: the laws of `Allows`: it is reflexive and transitive.
use Rattle.std.proofs.Common.{ℕ, List, [], ◌++◌, inl, inr, refl, sym, ap, subst, ◌∙◌, append_assoc, rules}
use Rattle.cil_base.specs.declared.runs.Outcome.{Outcome}
use Rattle.cil_base.specs.declared.runs.Outcome.TheVariants.{Exit, Running, Undefined}
use Rattle.cil_base.specs.Outcome.{output, IsPrefix, Breaks, Allows}

pub IsPrefix-refl : (xs : List ℕ) → IsPrefix xs xs
IsPrefix-refl xs = ([], search rules)

pub IsPrefix-trans : (xs ys zs : List ℕ) → IsPrefix xs ys → IsPrefix ys zs → IsPrefix xs zs
IsPrefix-trans xs ys zs (r, p) (s, q) = (r ++ s, q ∙ ap (λ t. t ++ s) p ∙ append_assoc xs r s)

pub Allows-refl : (x : Outcome) → Allows x x
Allows-refl x = inl refl

-- what x leaves open is still open behind an outcome that y allows
Breaks-trans : (x y z : Outcome) → Breaks x (output y) → Breaks y (output z) → Breaks x (output z)
Breaks-trans (Exit s o) y z b c = absurd b
Breaks-trans (Running o) y z b c = absurd b
Breaks-trans (Undefined o) (Exit s p) z b c = absurd c
Breaks-trans (Undefined o) (Running p) z b c = absurd c
Breaks-trans (Undefined o) (Undefined p) z b c = IsPrefix-trans o p (output z) b c

pub Allows-trans : (x y z : Outcome) → Allows x y → Allows y z → Allows x z
Allows-trans x y z (inl e) h = subst (λ (o : Outcome). Allows o z) (sym e) h
Allows-trans x y z (inr b) (inl e) = inr (subst (λ (o : Outcome). Breaks x (output o)) e b)
Allows-trans x y z (inr b) (inr c) = inr (Breaks-trans x y z b c)
