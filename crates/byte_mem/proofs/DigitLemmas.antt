-- Device: the digits of a number in bytes, half and half.
use Rattle.std.proofs.Common.{◌≡◌, ℕ, zero, suc, ◌+◌, ◌*◌, ◌/◌, ◌%◌, ◌^◌, ◌<◌, ◌≤◌, List, [], ◌∷◌, ◌++◌, length, get_or, set, take, drop, Option, Some, None, option_map, refl, sym, ap, ◌∙◌, arith, add-zero, pow-suc, take-add, drop-drop}
use Rattle.std.proofs.Math.Nat.{div-div-eq-div-mul, mul_assoc, mul_left_comm, mul_comm}
use Rattle.std.proofs.lemmas.Option.{none-some}
use Rattle.std.proofs.lemmas.List.{length-take, length-drop, length-append, length-set}
use Rattle.byte_mem.specs.declared.values.Byte.{Byte}
use Rattle.byte_mem.specs.declared.values.Byte.TheVariants.{Known, Unknown, Part}
use Rattle.byte_mem.specs.Contents.{known_in}
use Rattle.byte_mem.specs.Scalar.{number_of, low_bytes}
use Rattle.byte_mem.specs.Object.{part_at, with_part}
use Rattle.byte_mem.proofs.ScalarLemmas.{part_first, with_part_none, with_part_more}

-- so many bytes, and as many behind them
part_join : (m n at : ℕ) (xs : List Byte) → part_at at (m + n) xs ≡ part_at at m xs ++ part_at (at + m) n xs
part_join m n at xs = take-add m n (drop at xs) ∙ ap (λ ys. take m (drop at xs) ++ take n ys) (drop-drop m at xs)

length_part : (m at : ℕ) (xs : List Byte) → at + m ≤ length xs → length (part_at at m xs) ≡ m
length_part m at xs h = omega (arith, length-take m (drop at xs), length-drop at xs)

-- the number of the bytes behind the first
behind : (d : ℕ) (o : Option ℕ) (a : ℕ) → option_map (λ n. d + 256 * n) o ≡ Some a → (m : ℕ) × (o ≡ Some m) × (a ≡ d + 256 * m)
behind d None a e = absurd (none-some a e)
behind d (Some m) a e = (m, refl, cc)

behind_none : (d : ℕ) (o : Option ℕ) → option_map (λ n. d + 256 * n) o ≡ None → o ≡ None
behind_none d None e = refl
behind_none d (Some m) e = absurd (none-some (d + 256 * m) (sym e))

grown : (w b : ℕ) → w * 256 * b ≡ 256 * (w * b)
grown w b = mul_assoc w 256 b ∙ mul_left_comm w 256 b

sums : (d m a w b v : ℕ) → a ≡ d + 256 * m → v ≡ w * 256 → d + 256 * (m + w * b) ≡ a + v * b
sums d m a w b v e f = rw (e, f, grown w b) (omega arith)

-- the number of some bytes, from those of the first of them and of the others
number_join : (xs ys : List Byte) (a b : ℕ) → number_of xs ≡ Some a → number_of ys ≡ Some b → number_of (xs ++ ys) ≡ Some (a + 256 ^ length xs * b)
number_join [] ys a b e f = let zero_is : 0 ≡ a = cc in f ∙ ap Some (omega arith)
number_join (Known d ∷ xs) ys a b e f =
    let t = behind d (number_of xs) a e in
    ap (option_map (λ n. d + 256 * n)) (number_join xs ys t.0 b t.1 f) ∙ ap Some (sums d t.0 a (256 ^ length xs) b (256 ^ suc (length xs)) t.2 (pow-suc 256 (length xs)))
number_join (Unknown ∷ xs) ys a b e f = absurd (none-some a e)
number_join (Part p k ∷ xs) ys a b e f = absurd (none-some a e)

none_front : (xs ys : List Byte) → number_of xs ≡ None → number_of (xs ++ ys) ≡ None
none_front [] ys e = absurd (none-some 0 (sym e))
none_front (Known d ∷ xs) ys e = rw (none_front xs ys (behind_none d (number_of xs) e)) refl
none_front (Unknown ∷ xs) ys e = refl
none_front (Part p k ∷ xs) ys e = refl

none_back : (xs ys : List Byte) → number_of ys ≡ None → number_of (xs ++ ys) ≡ None
none_back [] ys e = e
none_back (Known d ∷ xs) ys e = rw (none_back xs ys e) refl
none_back (Unknown ∷ xs) ys e = refl
none_back (Part p k ∷ xs) ys e = refl

-- two halves
halves_known : (m i : ℕ) (xs : List Byte) (a b : ℕ) → i + m ≤ length xs → Some a ≡ number_of (part_at i m xs) → Some b ≡ number_of (part_at (i + m) m xs) → Some (a + 256 ^ m * b) ≡ number_of (part_at i (m + m) xs)
halves_known m i xs a b h e f =
    sym (ap number_of (part_join m m i xs) ∙ number_join (part_at i m xs) (part_at (i + m) m xs) a b (sym e) (sym f) ∙ ap (λ l. Some (a + 256 ^ l * b)) (length_part m i xs h))

halves_low : (m i : ℕ) (xs : List Byte) → None ≡ number_of (part_at i m xs) → None ≡ number_of (part_at i (m + m) xs)
halves_low m i xs e = sym (ap number_of (part_join m m i xs) ∙ none_front (part_at i m xs) (part_at (i + m) m xs) (sym e))

halves_high : (m i : ℕ) (xs : List Byte) → None ≡ number_of (part_at (i + m) m xs) → None ≡ number_of (part_at i (m + m) xs)
halves_high m i xs e = sym (ap number_of (part_join m m i xs) ∙ none_back (part_at i m xs) (part_at (i + m) m xs) (sym e))

pub pair_known : (i : ℕ) (xs : List Byte) (a b : ℕ) → i + 2 ≤ length xs → Some a ≡ number_of (part_at i 1 xs) → Some b ≡ number_of (part_at (i + 1) 1 xs) → Some (a + 256 * b) ≡ number_of (part_at i 2 xs)
pair_known i xs a b h e f = halves_known 1 i xs a b (omega arith) e f

pub pair_low : (i : ℕ) (xs : List Byte) → None ≡ number_of (part_at i 1 xs) → None ≡ number_of (part_at i 2 xs)
pair_low i xs e = halves_low 1 i xs e

pub pair_high : (i : ℕ) (xs : List Byte) → None ≡ number_of (part_at (i + 1) 1 xs) → None ≡ number_of (part_at i 2 xs)
pair_high i xs e = halves_high 1 i xs e

pub four_known : (i : ℕ) (xs : List Byte) (a b : ℕ) → i + 4 ≤ length xs → Some a ≡ number_of (part_at i 2 xs) → Some b ≡ number_of (part_at (i + 2) 2 xs) → Some (a + 65536 * b) ≡ number_of (part_at i 4 xs)
four_known i xs a b h e f = halves_known 2 i xs a b (omega arith) e f

pub four_low : (i : ℕ) (xs : List Byte) → None ≡ number_of (part_at i 2 xs) → None ≡ number_of (part_at i 4 xs)
four_low i xs e = halves_low 2 i xs e

pub four_high : (i : ℕ) (xs : List Byte) → None ≡ number_of (part_at (i + 2) 2 xs) → None ≡ number_of (part_at i 4 xs)
four_high i xs e = halves_high 2 i xs e

pub eight_known : (i : ℕ) (xs : List Byte) (a b : ℕ) → i + 8 ≤ length xs → Some a ≡ number_of (part_at i 4 xs) → Some b ≡ number_of (part_at (i + 4) 4 xs) → Some (a + 4294967296 * b) ≡ number_of (part_at i 8 xs)
eight_known i xs a b h e f = halves_known 4 i xs a b (omega arith) e f

pub eight_low : (i : ℕ) (xs : List Byte) → None ≡ number_of (part_at i 4 xs) → None ≡ number_of (part_at i 8 xs)
eight_low i xs e = halves_low 4 i xs e

pub eight_high : (i : ℕ) (xs : List Byte) → None ≡ number_of (part_at (i + 4) 4 xs) → None ≡ number_of (part_at i 8 xs)
eight_high i xs e = halves_high 4 i xs e

-- one byte
one_is : (b : Byte) (n : ℕ) → Some n ≡ known_in b → number_of (b ∷ []) ≡ Some n
one_is (Known m) n e = ap Some (omega (arith, same m n e))
  where
    same : (m n : ℕ) → Some n ≡ Some m → n ≡ m
    same m n e = cc
one_is Unknown n e = absurd (none-some n (sym e))
one_is (Part p k) n e = absurd (none-some n (sym e))

one_none : (b : Byte) → None ≡ known_in b → number_of (b ∷ []) ≡ None
one_none (Known m) e = absurd (none-some m e)
one_none Unknown e = refl
one_none (Part p k) e = refl

pub one_known : (i : ℕ) (xs : List Byte) (n : ℕ) → i + 1 ≤ length xs → Some n ≡ known_in (get_or xs i Unknown) → Some n ≡ number_of (part_at i 1 xs)
one_known i xs n h e = sym (ap number_of (part_first xs i 0 Unknown (omega arith)) ∙ one_is (get_or xs i Unknown) n e)

pub one_unknown : (i : ℕ) (xs : List Byte) → i + 1 ≤ length xs → None ≡ known_in (get_or xs i Unknown) → None ≡ number_of (part_at i 1 xs)
one_unknown i xs h e = sym (ap number_of (part_first xs i 0 Unknown (omega arith)) ∙ one_none (get_or xs i Unknown) e)

-- the digits of a number, half and half
div_one : (n : ℕ) → n / 1 ≡ n
div_one n = omega arith

zero_add : (k : ℕ) → 0 + k ≡ k
zero_add k = omega arith

suc_add : (m k : ℕ) → suc m + k ≡ suc (m + k)
suc_add m k = omega arith

low_join : (m k n : ℕ) → low_bytes (m + k) n ≡ low_bytes m n ++ low_bytes k (n / 256 ^ m)
low_join zero k n = ap (λ i. low_bytes i n) (zero_add k) ∙ ap (λ j. low_bytes k j) (sym (div_one n))
low_join (suc m) k n =
    ap (λ i. low_bytes i n) (suc_add m k)
    ∙ ap (λ ys. Known (n % 256) ∷ ys) (low_join m k (n / 256) ∙ ap (λ j. low_bytes m (n / 256) ++ low_bytes k j) (div-div-eq-div-mul n 256 (256 ^ m) ∙ ap (λ j. n / j) (mul_comm 256 (256 ^ m) ∙ sym (pow-suc 256 m))))

length_low : (m n : ℕ) → length (low_bytes m n) ≡ m
length_low zero n = refl
length_low (suc m) n = ap suc (length_low m (n / 256))

with_join : (new more xs : List Byte) (i : ℕ) → i + length new ≤ length xs → with_part (i + length new) more (with_part i new xs) ≡ with_part i (new ++ more) xs
with_join [] more xs i h = ap (λ ys. with_part (i + 0) more ys) (with_part_none i xs) ∙ ap (λ j. with_part j more xs) (add-zero i)
with_join (b ∷ new) more xs i h =
    let on : i + suc (length new) ≡ i + 1 + length new = omega arith in
    ap (λ ys. with_part (i + suc (length new)) more ys) (sym (with_part_more i b new xs (omega arith)))
    ∙ ap (λ j. with_part j more (with_part (i + 1) new (set xs i b))) on
    ∙ with_join new more (set xs i b) (i + 1) (omega (arith, length-set xs i b))
    ∙ with_part_more i b (new ++ more) xs (omega arith)

halves_written : (m i n : ℕ) (xs : List Byte) → i + m ≤ length xs → with_part (i + m) (low_bytes m (n / 256 ^ m)) (with_part i (low_bytes m n) xs) ≡ with_part i (low_bytes (m + m) n) xs
halves_written m i n xs h =
    let len : length (low_bytes m n) ≡ m = length_low m n in
    ap (λ j. with_part (i + j) (low_bytes m (n / 256 ^ m)) (with_part i (low_bytes m n) xs)) (sym len)
    ∙ with_join (low_bytes m n) (low_bytes m (n / 256 ^ m)) xs i (omega arith)
    ∙ ap (λ ys. with_part i ys xs) (sym (low_join m m n))

pub one_written : (i n : ℕ) (xs : List Byte) → i + 1 ≤ length xs → set xs i (Known (n % 256)) ≡ with_part i (low_bytes 1 n) xs
one_written i n xs h = sym (with_part_none (i + 1) (set xs i (Known (n % 256)))) ∙ with_part_more i (Known (n % 256)) [] xs (omega arith)

pub pair_written : (i n : ℕ) (xs ys : List Byte) → i + 2 ≤ length xs → ys ≡ with_part i (low_bytes 1 n) xs → with_part (i + 1) (low_bytes 1 (n / 256)) ys ≡ with_part i (low_bytes 2 n) xs
pair_written i n xs ys h e = rw e (halves_written 1 i n xs (omega arith))

pub four_written : (i n : ℕ) (xs ys : List Byte) → i + 4 ≤ length xs → ys ≡ with_part i (low_bytes 2 n) xs → with_part (i + 2) (low_bytes 2 (n / 65536)) ys ≡ with_part i (low_bytes 4 n) xs
four_written i n xs ys h e = rw e (halves_written 2 i n xs (omega arith))

pub eight_written : (i n : ℕ) (xs ys : List Byte) → i + 8 ≤ length xs → ys ≡ with_part i (low_bytes 4 n) xs → with_part (i + 4) (low_bytes 4 (n / 4294967296)) ys ≡ with_part i (low_bytes 8 n) xs
eight_written i n xs ys h e = rw e (halves_written 4 i n xs (omega arith))

-- as many bytes as before
pub length_written : (i m n : ℕ) (xs : List Byte) → i + m ≤ length xs → length (with_part i (low_bytes m n) xs) ≡ length xs
length_written i m n xs h =
    omega (arith, length-append (take i xs) (low_bytes m n ++ drop (i + length (low_bytes m n)) xs), length-append (low_bytes m n) (drop (i + length (low_bytes m n)) xs), length-take i xs, length-drop (i + length (low_bytes m n)) xs, length_low m n)
