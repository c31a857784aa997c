-- Device: the table of word bytes, tried at each of the 256 bytes.
use Rattle.std.proofs.Common.{◌≡◌, ◌≢◌, ◌<◌, ◌/◌, ◌^◌, ℕ, zero, suc, nat_eq, bit_and, slice_index_or, Bool, true, false, not, ◌&&◌, [], ◌∷◌, refl, sym, ap, subst, ◌∙◌, arith}
use Rattle.std.proofs.Math.Dec.{eqb}
use Rattle.std.proofs.lemmas.Bool.{eqb-true, eq-eqb}
use Rattle.c_lexer.specs.Bytes.{is_word_byte}

abbrev all_below : ℕ → (ℕ → Bool) → Bool
all_below zero p = true
all_below (suc n) p = p n && all_below n p

below : (n : ℕ) (p : ℕ → Bool) → all_below n p ≡ true → (k : ℕ) → k < n → p k ≡ true
below zero p is k low = absurd (omega arith)
below (suc n) p is k low = by (p n) refl is (λ rest. below n p rest k)
  where
    pick : p n ≡ true → (k < n → p k ≡ true) → (c : Bool) → eqb k n ≡ c → p k ≡ true
    pick here rest true e = subst (λ j. p j ≡ true) (sym (eqb-true k n e)) here
    pick here rest false e =
        let other : k ≢ n = λ q. (let t : eqb k n ≡ true = eq-eqb k n q in cc) in
        rest (omega arith)

    by : (b : Bool) → p n ≡ b → (b && all_below n p) ≡ true → (all_below n p ≡ true → k < n → p k ≡ true) → p k ≡ true
    by true here more rest = pick here (rest more) (eqb k n) refl
    by false here more rest = cc

abbrev pub bit_at : ℕ → ℕ → Bool
bit_at b i = nat_eq (bit_and (slice_index_or (287948901175001088 ∷ 576460745995190270 ∷ 0 ∷ 0 ∷ []) i 0 / 2 ^ (bit_and b 63)) 1) 1

abbrev agree : Bool → Bool → Bool
agree true c = c
agree false c = not c

agreed : (b c : Bool) → agree b c ≡ true → b ≡ c
agreed true true is = refl
agreed false false is = refl
agreed true false is = cc
agreed false true is = cc

tried : all_below 256 (λ b. agree (bit_at b (b / 64)) (is_word_byte b)) ≡ true
tried = refl

pub word_bits : (b i : ℕ) → b < 256 → i ≡ b / 64 → bit_at b i ≡ is_word_byte b
word_bits b i low at = ap (λ (j : ℕ). bit_at b j) at ∙ agreed (bit_at b (b / 64)) (is_word_byte b) (below 256 (λ k. agree (bit_at k (k / 64)) (is_word_byte k)) tried b low)
