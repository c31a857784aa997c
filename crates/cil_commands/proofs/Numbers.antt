-- Device: decimal constants below 2^31, over lists alone.
use Rattle.std.proofs.Common.{◌≡◌, ◌≢◌, refl, sym, ap, subst, ◌∙◌, ℕ, ◌+◌, ◌-◌, ◌*◌, ◌^◌, ◌<◌, ◌≤◌, true, false, ◌&&◌, nat_lt, List, length, take, get_or, decimal, Option, Some, None, bytes_eq, arith}
use Rattle.std.specs.Char.{is_ascii_digit, digit_value}
use Rattle.std.specs.Int.{IsInRange}
use Rattle.std.specs.Str.Parse.{digits_value, AllDigits}
use Rattle.std.proofs.lemmas.Bool.{cond-false, cond_both, and_parts, and_right, ltb-true, false_from_ne_true}
use Rattle.std.proofs.lemmas.Bool.Decides.{nat_tests}
use Rattle.std.proofs.lemmas.Fmt.{digits_decimal, digits_value-decimal}
use Rattle.std.proofs.lemmas.Int.Digits.{digits_value_more}
use Rattle.std.proofs.lemmas.Slice.Eq.{bytes_eq-Decides}
use Rattle.std.proofs.lemmas.Str.Parse.{IsNumeralModel, digit_at, digits_value-take-le}
use Rattle.c_meaning.specs.Reading.{Terminal, Number, number_terminal}
use Rattle.c_meaning.proofs.Terminals.{number_terminal-decimal}

own : IsNumeralModel (AllDigits 10) (digits_value 10)
own = record { to = λ ds h. h; from = λ ds h. h; same = λ ds h. refl }

-- the text of a number has digits alone
pub no_digit : (text : List ℕ) (i n : ℕ) → i < length text → is_ascii_digit (get_or text i 0) ≡ false → n < 2 ^ 31 → text ≡ decimal n → ⊥
no_digit text i n less is small same =
    let all : AllDigits 10 text = subst (AllDigits 10) (sym same) (digits_decimal own n (omega arith)) in
    let within : IsInRange 48 57 (get_or text i 0) = digit_at text i all less in
    grind (arith, nat_tests)

-- and no front of it has a greater value
pub too_great : (text : List ℕ) (i n : ℕ) → 2 ^ 31 ≤ digits_value 10 (take i text) → n < 2 ^ 31 → text ≡ decimal n → ⊥
too_great text i n great small same =
    let value : digits_value 10 text ≡ n = ap (digits_value 10) same ∙ digits_value-decimal own n (omega arith) in
    let front : digits_value 10 (take i text) ≤ digits_value 10 text = digits_value-take-le 10 text i (omega arith) in
    omega arith

pub digit_more : (text : List ℕ) (i : ℕ) → i < length text → is_ascii_digit (get_or text i 0) ≡ true → digits_value 10 (take (i + 1) text) ≡ digits_value 10 (take i text) * 10 + (get_or text i 0 - 48)
digit_more text i less is =
    let value : digit_value (get_or text i 0) ≡ get_or text i 0 - 48 = grind (arith, nat_tests) in
    digits_value_more 10 text i less ∙ ap (λ d. digits_value 10 (take i text) * 10 + d) value

pub is_number : (text : List ℕ) (value : ℕ) → value < 2 ^ 31 → value ≡ digits_value 10 text → decimal value ≡ text → number_terminal text ≡ Some (Number value)
is_number text value small is same = subst (λ t. number_terminal t ≡ Some (Number value)) same (number_terminal-decimal value small)

abbrev IfNumber : List ℕ → Option Terminal → Type 0
IfNumber text None = Unit {0}
IfNumber text (Some t) = (n : ℕ) × (n < 2 ^ 31) × (text ≡ decimal n)

number_is : (text : List ℕ) → IfNumber text (number_terminal text)
unfolding number_terminal
number_is text =
    cond_both (nat_lt (digits_value 10 text) (2 ^ 31) && bytes_eq text (decimal (digits_value 10 text))) _ _ (IfNumber text)
    (λ both. let parts : (nat_lt (digits_value 10 text) (2 ^ 31) ≡ true) × (bytes_eq text (decimal (digits_value 10 text)) ≡ true) = and_parts _ _ both in
    (digits_value 10 text, ltb-true _ _ parts.0, (bytes_eq-Decides text _).0 parts.1))
    (λ _. tt)

no_number_at : (text : List ℕ) (o : Option Terminal) → IfNumber text o → ((n : ℕ) → n < 2 ^ 31 → text ≢ decimal n) → o ≡ None
no_number_at text None is none = refl
no_number_at text (Some t) is none = absurd (none is.0 is.1 is.2)

pub no_number : (text : List ℕ) → ((n : ℕ) → n < 2 ^ 31 → text ≢ decimal n) → number_terminal text ≡ None
no_number text none = no_number_at text (number_terminal text) (number_is text) none

pub other_text : (text : List ℕ) (value : ℕ) → value ≡ digits_value 10 text → (decimal value ≡ text → ⊥) → number_terminal text ≡ None
unfolding number_terminal
other_text text value is other =
    cond-false (nat_lt (digits_value 10 text) (2 ^ 31) && bytes_eq text (decimal (digits_value 10 text))) _ _
    (and_right _ _ (false_from_ne_true _ (λ same. other (ap decimal is ∙ sym ((bytes_eq-Decides text _).0 same)))))
