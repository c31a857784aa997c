-- Words that spell a number between two others.
use Rattle.std.proofs.Common.{◌≡◌, ◌≢◌, refl, sym, ap, subst, ◌∙◌, ℕ, ◌^◌, ◌<◌, ◌≤◌, true, ◌&&◌, nat_le, List, length, decimal, Option, Some, None, Result, Ok, Err, bytes_eq, arith}
use Rattle.std.specs.Prelude.{if◌then◌else◌}
use Rattle.std.specs.Str.Parse.{digits_value, AllDigits, ParsesUnsigned}
use Rattle.std.proofs.lemmas.Bool.{cond-true, cond_both, and_parts, and_from}
use Rattle.std.proofs.lemmas.Bool.Decides.{nat_tests}
use Rattle.std.proofs.lemmas.Fmt.{digits_decimal, digits_value-decimal, decimal_nonempty}
use Rattle.std.proofs.lemmas.Slice.Eq.{bytes_eq-Decides}
use Rattle.std.proofs.lemmas.Str.Parse.{IsNumeralModel, parse_gives}
use Rattle.cil_words.specs.Command.{number_between}

own : IsNumeralModel (AllDigits 10) (digits_value 10)
own = record { to = λ ds h. h; from = λ ds h. h; same = λ ds h. refl }

-- a word that spells a number within the bounds
pub bound_is : (least most n : ℕ) (text : List ℕ) → most < 2 ^ 64 → least ≤ n → n ≤ most → text ≡ decimal n → number_between least most text ≡ Some n
bound_is least most n text fits low high same =
    let value : digits_value 10 text ≡ n = ap (digits_value 10) same ∙ digits_value-decimal own n (omega arith) in
    let low_test : nat_le least n ≡ true = grind (arith, nat_tests) in
    let high_test : nat_le n most ≡ true = grind (arith, nat_tests) in
    subst (λ v. (if (nat_le least v && nat_le v most) && bytes_eq text (decimal v) then Some v else None) ≡ Some n) (sym value)
    (cond-true ((nat_le least n && nat_le n most) && bytes_eq text (decimal n)) _ _
    (and_from _ _ (and_from _ _ low_test high_test) ((bytes_eq-Decides text (decimal n)).1 same)))

-- what a bound says of its word
Spells : ℕ → ℕ → List ℕ → Option ℕ → Type 0
Spells least most text None = Unit {0}
Spells least most text (Some n) = (least ≤ n) × ((n ≤ most) × (text ≡ decimal n))

spells : (least most : ℕ) (text : List ℕ) → Spells least most text (number_between least most text)
unfolding Spells
spells least most text =
    cond_both ((nat_le least (digits_value 10 text) && nat_le (digits_value 10 text) most) && bytes_eq text (decimal (digits_value 10 text))) _ _ (Spells least most text)
    (λ all.
    let outer : (nat_le least (digits_value 10 text) && nat_le (digits_value 10 text) most ≡ true) × (bytes_eq text (decimal (digits_value 10 text)) ≡ true) = and_parts _ _ all in
    let inner : (nat_le least (digits_value 10 text) ≡ true) × (nat_le (digits_value 10 text) most ≡ true) = and_parts _ _ outer.0 in
    (grind (arith, nat_tests, inner.0), (grind (arith, nat_tests, inner.1), (bytes_eq-Decides text _).0 outer.1)))
    (λ other. tt)

none_at : (least most : ℕ) (text : List ℕ) (o : Option ℕ) → Spells least most text o → ((n : ℕ) → least ≤ n → n ≤ most → text ≢ decimal n) → o ≡ None
unfolding Spells
none_at least most text None is none = refl
none_at least most text (Some n) is none = absurd (none n is.0 is.1.0 is.1.1)

pub no_bound : (least most : ℕ) (text : List ℕ) → ((n : ℕ) → least ≤ n → n ≤ most → text ≢ decimal n) → number_between least most text ≡ None
no_bound least most text none = none_at least most text (number_between least most text) (spells least most text) none

-- a word that does not parse spells no bound
pub unparsed : {E : Type 0} (least most : ℕ) (text : List ℕ) (r : Result ℕ E) (e : E) → most < 2 ^ 64 → ParsesUnsigned 64 10 text r → r ≡ Err e → number_between least most text ≡ None
unparsed {E} least most text r e fits parses failed =
    no_bound least most text (λ n low high same.
    let small : n < 2 ^ 64 = omega arith in
    let all : AllDigits 10 text = subst (AllDigits 10) (sym same) (digits_decimal own n small) in
    let some : 0 < length text = subst (λ t. 0 < length t) (sym same) (decimal_nonempty n small) in
    let value : digits_value 10 text ≡ n = ap (digits_value 10) same ∙ digits_value-decimal own n small in
    let ok : r ≡ Ok (digits_value 10 text) = parse_gives own 64 text r parses all some (omega arith) in
    clash (digits_value 10 text) e (sym ok ∙ failed))
  where
    clash : (v : ℕ) (e : E) → Ok v ≡ Err e → ⊥
    clash v e is = cc

same_ok : {E : Type 0} {v w : ℕ} → (let P : Result ℕ E → Result ℕ E → Type 0 = λ r s. r ≡ s in P (Ok v) (Ok w)) → v ≡ w
same_ok is = cc

-- a word that is not the number that it was parsed as spells no bound
pub other_spelling : {E : Type 0} (least most : ℕ) (text : List ℕ) (r : Result ℕ E) (n : ℕ) → most < 2 ^ 64 → ParsesUnsigned 64 10 text r → r ≡ Ok n
    → ((least ≤ n) → (n ≤ most) → text ≢ decimal n) → number_between least most text ≡ None
other_spelling {E} least most text r n fits parses parsed other =
    no_bound least most text (λ m low high same.
    let small : m < 2 ^ 64 = omega arith in
    let all : AllDigits 10 text = subst (AllDigits 10) (sym same) (digits_decimal own m small) in
    let some : 0 < length text = subst (λ t. 0 < length t) (sym same) (decimal_nonempty m small) in
    let value : digits_value 10 text ≡ m = ap (digits_value 10) same ∙ digits_value-decimal own m small in
    let ok : r ≡ Ok (digits_value 10 text) = parse_gives own 64 text r parses all some (omega arith) in
    let both : Ok n ≡ Ok (digits_value 10 text) = sym parsed ∙ ok in
    let equal : n ≡ m = same_ok both ∙ value in
    other (omega arith) (omega arith) (same ∙ ap decimal (sym equal)))
