-- Device: the reading gives back each program from its text.
use Rattle.std.proofs.Common.{◌≡◌, ℕ, ◌+◌, ◌-◌, ◌*◌, ◌^◌, ◌<◌, ◌≤◌, ◌==◌, ◌&&◌, nat_lt, nat_le, Bool, true, false, List, [], ◌∷◌, ◌++◌, length, codes, decimal, Some, refl, sym, ap, ◌∙◌, append_assoc, arith, leb-true, lt-ltb}
use Rattle.std.specs.Char.{is_ascii_digit}
use Rattle.std.specs.Str.{all_ascii_digits}
use Rattle.std.proofs.lemmas.Bool.Decides.{nat_tests}
use Rattle.std.proofs.lemmas.Fmt.{digits_decimal, digits_value-decimal, decimal_nonempty}
use Rattle.std.proofs.lemmas.Str.Parse.{IsNumeralModel, numerals_by_fold, tells_all_ascii_digits}
use Rattle.cil_base.specs.declared.operators.BinOp.{BinOp}
use Rattle.cil_base.specs.declared.operators.BinOp.TheVariants.{Mul, Div, Rem, Add, Sub, Shl, Shr, Lt, Gt, Le, Ge, Eq, Ne, And, Xor, Or}
use Rattle.cil_base.specs.Operators.{operator_spelling, IsAdditive}
use Rattle.cil_meaning.specs.Program.{Exp, Const, Bin, IsExp, IsProgram, depth}
use Rattle.cil_meaning.specs.Text.{exp_tokens, Text}
use Rattle.cil_meaning.specs.Spaced.{spaced, text_back}
use Rattle.cil_meaning.specs.Reading.{Missing, Found, Open, InLeft, InRight, read_expression, read_text}
use Rattle.cil_meaning.proofs.SpacedText.{text_spaced, spaced_binary}

-- the number whose digits follow those of n
abbrev onto : ℕ → List ℕ → ℕ
onto n [] = n
onto n (c ∷ cs) = onto (n * 10 + (c - 48)) cs

own : IsNumeralModel (λ ds. all_ascii_digits ds ≡ true) (onto 0)
own = numerals_by_fold _ tells_all_ascii_digits onto (record { empty = λ n. refl; more = λ n c cs h. refl })

le-onto : (n : ℕ) (ds : List ℕ) → n ≤ onto n ds
le-onto n [] = omega arith
le-onto n (c ∷ cs) = omega (arith, le-onto (n * 10 + (c - 48)) cs)

both : (a b : Bool) → (a && b) ≡ true → (a ≡ true) × (b ≡ true)
both true b h = (refl, h)
both false b h = (h, absurd (cc h))

-- a digit is no semicolon
not_end : (c : ℕ) → is_ascii_digit c ≡ true → (c == 59) ≡ false
not_end c h = grind (arith, nat_tests)

below : (n : ℕ) (ds : List ℕ) (limit : ℕ) → onto n ds < limit → n < limit
below n ds limit small = omega (arith, le-onto n ds)

small_digit : (c : ℕ) → is_ascii_digit c ≡ true → c - 48 < 2 ^ 31
small_digit c h = let d = both (nat_le 48 c) (nat_le c 57) h in omega (arith, leb-true c 57 d.1)

-- digits behind a constant's first
digits_back : (ds rest : List ℕ) (n : ℕ) (open_ones : List Open) → all_ascii_digits ds ≡ true → onto n ds < 2 ^ 31 →
    read_expression (ds ++ rest) (Found (Const n)) open_ones ≡ read_expression rest (Found (Const (onto n ds))) open_ones
digits_back [] rest n open_ones digits small = refl
digits_back (c ∷ cs) rest n open_ones digits small =
    let d = both (is_ascii_digit c) (all_ascii_digits cs) digits in
    let fits : nat_lt (n * 10 + (c - 48)) (2 ^ 31) ≡ true = lt-ltb (n * 10 + (c - 48)) (2 ^ 31) (below (n * 10 + (c - 48)) cs (2 ^ 31) small) in
    rw (not_end c d.0, d.0, fits) (digits_back cs rest (n * 10 + (c - 48)) open_ones d.1 small)

-- a constant's first digit reads as one behind the constant 0
first_digit : (c : ℕ) (rest : List ℕ) (open_ones : List Open) → is_ascii_digit c ≡ true →
    read_expression (c ∷ rest) Missing open_ones ≡ read_expression (c ∷ rest) (Found (Const 0)) open_ones
first_digit c rest open_ones digit =
    let value : 0 * 10 + (c - 48) ≡ c - 48 = omega arith in
    let small : c - 48 < 2 ^ 31 = small_digit c digit in
    let fits : nat_lt (0 * 10 + (c - 48)) (2 ^ 31) ≡ true = lt-ltb (0 * 10 + (c - 48)) (2 ^ 31) (omega arith) in
    rw (not_end c digit, digit, fits, value) refl

some_digits_back : (ds rest : List ℕ) (open_ones : List Open) → all_ascii_digits ds ≡ true → (value : ℕ) → onto 0 ds ≡ value → value < 2 ^ 31 → 0 < length ds →
    read_expression (ds ++ rest) Missing open_ones ≡ read_expression rest (Found (Const value)) open_ones
some_digits_back [] rest open_ones digits value is small some = absurd (omega arith)
some_digits_back (c ∷ cs) rest open_ones digits value is small some =
    let d = both (is_ascii_digit c) (all_ascii_digits cs) digits in
    first_digit c (cs ++ rest) open_ones d.0
    ∙ (digits_back (c ∷ cs) rest 0 open_ones digits (omega (arith, is))
    ∙ ap (λ v. read_expression rest (Found (Const v)) open_ones) is)

decimal_back : (value : ℕ) (rest : List ℕ) (open_ones : List Open) → value < 2 ^ 31 →
    read_expression (decimal value ++ rest) Missing open_ones ≡ read_expression rest (Found (Const value)) open_ones
decimal_back value rest open_ones small =
    let wide : value < 2 ^ 64 = omega arith in
    some_digits_back (decimal value) rest open_ones (digits_decimal own value wide) value (digits_value-decimal own value wide) small (decimal_nonempty value wide)

opened_back : (rest : List ℕ) (open_ones : List Open) → length open_ones < 508 →
    read_expression (codes "( " ++ rest) Missing open_ones ≡ read_expression rest Missing (InLeft ∷ open_ones)
opened_back rest open_ones room = rw (lt-ltb (length open_ones) 508 room) refl

operator_back : (op : BinOp) (left : Exp) (rest : List ℕ) (open_ones : List Open) → IsAdditive op →
    read_expression (operator_spelling op ++ 32 ∷ rest) (Found left) (InLeft ∷ open_ones) ≡ read_expression rest Missing (InRight left op ∷ open_ones)
operator_back Add left rest open_ones is = refl
operator_back Sub left rest open_ones is = refl
operator_back Mul left rest open_ones is = absurd is
operator_back Div left rest open_ones is = absurd is
operator_back Rem left rest open_ones is = absurd is
operator_back Shl left rest open_ones is = absurd is
operator_back Shr left rest open_ones is = absurd is
operator_back Lt left rest open_ones is = absurd is
operator_back Gt left rest open_ones is = absurd is
operator_back Le left rest open_ones is = absurd is
operator_back Ge left rest open_ones is = absurd is
operator_back Eq left rest open_ones is = absurd is
operator_back Ne left rest open_ones is = absurd is
operator_back And left rest open_ones is = absurd is
operator_back Xor left rest open_ones is = absurd is
operator_back Or left rest open_ones is = absurd is

-- the tokens of an operator over its operands, in front of other bytes
spaced_binary_in_front : (op : BinOp) (left right : Exp) (rest : List ℕ) →
    spaced (exp_tokens (Bin op left right)) ++ rest
    ≡ codes "( " ++ (spaced (exp_tokens left) ++ (operator_spelling op ++ 32 ∷ (spaced (exp_tokens right) ++ (codes ") " ++ rest))))
spaced_binary_in_front op left right rest = ap (λ t. t ++ rest) (spaced_binary op left right) ∙ simp append_assoc

some-depth : (e : Exp) → 0 < depth e
some-depth (Const value) = omega arith
some-depth (Bin op left right) = omega arith

expression_back : (e : Exp) (rest : List ℕ) (open_ones : List Open) → IsExp e → depth e + length open_ones ≤ 509 →
    read_expression (spaced (exp_tokens e) ++ rest) Missing open_ones ≡ read_expression rest (Found e) open_ones
expression_back (Const value) rest open_ones small low =
    ap (λ t. read_expression t Missing open_ones) (append_assoc (decimal value) (32 ∷ []) rest)
    ∙ decimal_back value (32 ∷ rest) open_ones small
expression_back (Bin op left right) rest open_ones is low =
    ap (λ t. read_expression t Missing open_ones) (spaced_binary_in_front op left right rest)
    ∙ (opened_back (spaced (exp_tokens left) ++ (operator_spelling op ++ 32 ∷ (spaced (exp_tokens right) ++ (codes ") " ++ rest)))) open_ones (omega (arith, some-depth left))
    ∙ (expression_back left (operator_spelling op ++ 32 ∷ (spaced (exp_tokens right) ++ (codes ") " ++ rest))) (InLeft ∷ open_ones) is.1.0 (omega arith)
    ∙ (operator_back op left (spaced (exp_tokens right) ++ (codes ") " ++ rest)) open_ones is.0
    ∙ expression_back right (codes ") " ++ rest) (InRight left op ∷ open_ones) is.1.1 (omega arith))))

pub read_text-Text : (p : Exp) → IsProgram p → read_text (Text p) ≡ Some p
read_text-Text p is = ap read_text (text_spaced p) ∙ expression_back p text_back [] is.well_formed (omega (arith, is.low))

same_Some : {p q : Exp} → Some p ≡ Some q → p ≡ q
same_Some e = cc

pub same_program : (p q : Exp) → IsProgram p → IsProgram q → Text p ≡ Text q → p ≡ q
same_program p q is also same = same_Some (sym (read_text-Text p is) ∙ (ap read_text same ∙ read_text-Text q also))
