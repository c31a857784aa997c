-- Device: the reading of numbers with signs gives back each value of a kind.
use Rattle.std.proofs.Common.{◌≡◌, ℕ, suc, ◌-◌, ◌^◌, ◌<◌, Bool, true, false, cond, List, [], ◌∷◌, codes, Some, refl, ap, ◌∙◌, arith, leb-true}
use Rattle.std.specs.Prelude.{ℤ, pos, negsuc, int_le, unsigned_abs}
use Rattle.std.specs.Ordering.{int_eq}
use Rattle.std.proofs.lemmas.Bool.Decides.{Decides-int_eq}
use Rattle.cil_base.specs.declared.kinds.IntKind.{IntKind}
use Rattle.cil_base.specs.declared.kinds.IntKind.TheVariants as kind
use Rattle.cil_base.specs.declared.operators.BinOp.TheVariants.{Sub}
use Rattle.cil_base.specs.Integer.{least, greatest}
use Rattle.cil_base.specs.Arithmetic.{fits}
use Rattle.cil_tree.specs.Declarators.{digits, number}
use Rattle.cil_text.specs.Words.{Word, Operator, word_of, onto}
use Rattle.cil_text.specs.ReadTypes.{skip_one}
use Rattle.cil_text.specs.ReadStmts.{is_minus, read_number}
use Rattle.cil_text.proofs.WordsBack.{both, digits_word, suffix_kind}
use Rattle.cil_text.proofs.Told.{fits_small}

least_is : (k : IntKind) (n : ℕ) → negsuc n ≡ least k → unsigned_abs (greatest k) ≡ n
least_is k n = elim k as (λ x. negsuc n ≡ least x → unsigned_abs (greatest x) ≡ n) [
  | kind.Bool ↦ (λ e. absurd (cc e))
  | kind.Char ↦ (λ e. cc)
  | kind.SChar ↦ (λ e. cc)
  | kind.UChar ↦ (λ e. absurd (cc e))
  | kind.Short ↦ (λ e. cc)
  | kind.UShort ↦ (λ e. absurd (cc e))
  | kind.Int ↦ (λ e. cc)
  | kind.UInt ↦ (λ e. absurd (cc e))
  | kind.Long ↦ (λ e. cc)
  | kind.ULong ↦ (λ e. absurd (cc e))
  | kind.LLong ↦ (λ e. cc)
  | kind.ULLong ↦ (λ e. absurd (cc e))
  | kind.Long4 ↦ (λ e. cc)
  | kind.ULong4 ↦ (λ e. absurd (cc e))
]

above_least : (n g : ℕ) → int_le (negsuc g) (negsuc n) ≡ true → suc g < 2 ^ 64 → suc n < 2 ^ 64
above_least n g e small = omega (arith, leb-true n g e, small)

negative_small : (k : IntKind) (n : ℕ) → int_le (least k) (negsuc n) ≡ true → suc n < 2 ^ 64
negative_small k n = elim k as (λ x. int_le (least x) (negsuc n) ≡ true → suc n < 2 ^ 64) [
  | kind.Bool ↦ (λ e. absurd (cc e))
  | kind.Char ↦ (λ e. above_least n (2 ^ 7 - 1) e (omega arith))
  | kind.SChar ↦ (λ e. above_least n (2 ^ 7 - 1) e (omega arith))
  | kind.UChar ↦ (λ e. absurd (cc e))
  | kind.Short ↦ (λ e. above_least n (2 ^ 15 - 1) e (omega arith))
  | kind.UShort ↦ (λ e. absurd (cc e))
  | kind.Int ↦ (λ e. above_least n (2 ^ 31 - 1) e (omega arith))
  | kind.UInt ↦ (λ e. absurd (cc e))
  | kind.Long ↦ (λ e. above_least n (2 ^ 63 - 1) e (omega arith))
  | kind.ULong ↦ (λ e. absurd (cc e))
  | kind.LLong ↦ (λ e. above_least n (2 ^ 63 - 1) e (omega arith))
  | kind.ULLong ↦ (λ e. absurd (cc e))
  | kind.Long4 ↦ (λ e. above_least n (2 ^ 31 - 1) e (omega arith))
  | kind.ULong4 ↦ (λ e. absurd (cc e))
]

pub number_back : (k : IntKind) (v : ℤ) (rest : List Word) → fits k v ≡ true → is_minus rest ≡ false → read_number (onto (number k v) rest) ≡ Some ((suffix_kind k, v), rest)
unfolding word_of
number_back k (pos n) rest e stops = ap (λ (w : Word). read_number (w ∷ rest)) (digits_word k n (fits_small k n e))
number_back k (negsuc n) rest e stops = by (int_eq (negsuc n) (least k)) refl (negative_small k n (both (int_le (least k) (negsuc n)) (int_le (negsuc n) (greatest k)) e).0)
  where
    by : (b : Bool) → int_eq (negsuc n) (least k) ≡ b → suc n < 2 ^ 64 →
        read_number (onto (cond b (codes "-" ∷ digits k (unsigned_abs (greatest k)) ∷ codes "-" ∷ codes "1" ∷ []) (codes "-" ∷ digits k (suc n) ∷ [])) rest) ≡ Some ((suffix_kind k, negsuc n), rest)
    by true h small =
        ap (λ (m : ℕ). read_number (Operator Sub ∷ word_of (digits k m) ∷ Operator Sub ∷ word_of (codes "1") ∷ rest)) (least_is k n ((Decides-int_eq (negsuc n) (least k)).0 h))
        ∙ ap (λ (w : Word). read_number (Operator Sub ∷ w ∷ Operator Sub ∷ word_of (codes "1") ∷ rest)) (digits_word k n (omega arith))
    by false h small =
        ap (λ (w : Word). read_number (Operator Sub ∷ w ∷ rest)) (digits_word k (suc n) small)
        ∙ ap (λ b. cond b (Some ((suffix_kind k, negsuc (suc n)), skip_one (skip_one rest))) (Some ((suffix_kind k, negsuc n), rest))) stops
