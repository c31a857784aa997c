-- Device: steps of the reading of values with their signs.
use Rattle.std.proofs.Common.{◌≡◌, ℕ, zero, suc, Bool, true, false, cond, List, ◌∷◌, ◌+◌, Some, refl, ap, arith, pos, negsuc, ◌-ℤ◌, neg_ℤ}
use Rattle.cil_base.specs.declared.kinds.IntKind.{IntKind}
use Rattle.cil_base.specs.declared.operators.BinOp.TheVariants.{Sub}
use Rattle.cil_text.specs.Words.{Word, Operator, Number}
use Rattle.cil_text.specs.ReadTypes.{Reading, skip_one}
use Rattle.cil_text.specs.ReadStmts.{Numbered, is_minus, negated, read_number}
use Rattle.cil_numbers.specs.Numbers.{below_zero}

pub minus_is : (n : ℕ) → neg_ℤ (pos n) ≡ negated n
minus_is zero = refl
minus_is (suc n) = refl

pub least_is : (n : ℕ) → negsuc 0 -ℤ pos n ≡ negsuc n
least_is zero = refl
least_is (suc n) = let e : 0 + n ≡ n = omega arith in ap (λ (k : ℕ). negsuc (suc k)) e

pub negative_is : (kind : IntKind) (n : ℕ) (ws : List Word) → read_number (Operator Sub ∷ Number kind n ∷ ws) ≡ Some (below_zero kind n ws)
negative_is kind n ws = by (is_minus ws)
  where
    by : (v : Bool) → cond {A = Reading Numbered} v (Some ((kind, negsuc n), skip_one (skip_one ws))) (Some ((kind, negated n), ws)) ≡ Some (cond {A = Numbered × List Word} v ((kind, negsuc n), skip_one (skip_one ws)) ((kind, negated n), ws))
    by true = refl
    by false = refl
