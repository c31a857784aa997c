-- Device: the words that tokens of a text are.
use Rattle.std.proofs.Common.{◌≡◌, ℕ, ◌+◌, ◌-◌, ◌*◌, ◌^◌, ◌<◌, ◌≤◌, ◌&&◌, not, nat_lt, Bool, true, false, List, [], ◌∷◌, ◌++◌, length, decimal, None, refl, sym, ap, ◌∙◌, append-nil, arith, lt-ltb}
use Rattle.std.specs.List.{list_all}
use Rattle.std.specs.Str.{bytes_eq, all_ascii_digits}
use Rattle.std.specs.Char.{is_ascii_digit}
use Rattle.std.proofs.lemmas.Bool.Decides.{nat_tests}
use Rattle.std.proofs.lemmas.Fmt.{digits_decimal, digits_value-decimal, decimal_nonempty}
use Rattle.std.proofs.lemmas.Slice.Eq.{bytes_eq-Decides}
use Rattle.std.proofs.lemmas.Str.Parse.{IsNumeralModel, numerals_by_fold, tells_all_ascii_digits}
use Rattle.cil_base.specs.declared.kinds.IntKind.{IntKind}
use Rattle.cil_base.specs.declared.kinds.IntKind.TheVariants as kind
use Rattle.cil_base.specs.declared.operators.BinOp.{BinOp}
use Rattle.cil_base.specs.declared.operators.BinOp.TheVariants.{Mul, Div, Rem, Add, Sub, Shl, Shr, Lt, Gt, Le, Ge, Eq, Ne, And, Xor, Or}
use Rattle.cil_base.specs.Operators.{operator_spelling}
use Rattle.cil_base.specs.Integer.{suffix_of}
use Rattle.cil_tree.specs.Lines.{Token}
use Rattle.cil_tree.specs.Names.{keywords, other_words, is_among, is_identifier, is_name, begins_word, goes_on_word}
use Rattle.cil_tree.specs.Declarators.{digits}
use Rattle.cil_text.specs.Words.{Word, Operator, Number, Name, look_up, signs, reserved, number_from, free_word, word_of, onto}

pub onto_append : (a b : List Token) (rest : List Word) → onto (a ++ b) rest ≡ onto a (onto b rest)
onto_append [] b rest = refl
onto_append (t ∷ a) b rest = ap (λ (ws : List Word). word_of t ∷ ws) (onto_append a b rest)

pub both : (p q : Bool) → p && q ≡ true → (p ≡ true) × (q ≡ true)
both true q e = (refl, e)
both false q e = cc

pub denied : (b : Bool) → not b ≡ true → b ≡ false
denied true e = cc
denied false e = refl

-- a text that passes a test that no text of the table passes is not in the table
not_there : {A : Type 0} (test : List ℕ → Bool) (table : List (Token × A)) (token : Token) →
    list_all (λ (e : Token × A). not (test e.0)) table ≡ true → test token ≡ true → look_up table token ≡ None
not_there test [] token all is = refl
not_there {A} test (e ∷ es) token all is =
    let h = both (not (test e.0)) (list_all (λ (x : Token × A). not (test x.0)) es) all in
    by (bytes_eq token e.0) refl (not_there test es token h.1 is) (denied (test e.0) h.0)
  where
    by : (b : Bool) → bytes_eq token e.0 ≡ b → look_up es token ≡ None → test e.0 ≡ false → look_up (e ∷ es) token ≡ None
    by true q more fails = let same : token ≡ e.0 = (bytes_eq-Decides token e.0).0 q in absurd (let passes : test e.0 ≡ true = sym (ap test same) ∙ is in cc)
    by false q more fails = rw q more

-- names

unreserved : List ℕ → Bool
unreserved text = not (is_among keywords text)

signs_are_no_names : list_all (λ (e : Token × Word). not (is_identifier e.0)) signs ≡ true
signs_are_no_names = refl

reserved_are_no_names : list_all (λ (e : Token × Word). not (not (is_among keywords e.0))) reserved ≡ true
reserved_are_no_names = refl

no_digit : (b : ℕ) → begins_word b ≡ true → is_ascii_digit b ≡ false
no_digit b h = grind (arith, nat_tests)

free_name : (text : List ℕ) → is_identifier text ≡ true → free_word text ≡ Name text
free_name [] is = cc
free_name (b ∷ bytes) is = let h = both (begins_word b) (list_all goes_on_word bytes) is in rw (no_digit b h.0) refl

pub name_word : (text : List ℕ) → is_name text ≡ true → word_of text ≡ Name text
unfolding word_of
name_word text is =
    let h = both (is_identifier text) (not (is_among keywords text) && not (is_among other_words text)) is in
    let k = both (not (is_among keywords text)) (not (is_among other_words text)) h.1 in
    rw (not_there is_identifier signs text signs_are_no_names h.0, not_there (λ t. not (is_among keywords t)) reserved text reserved_are_no_names k.0) (free_name text h.0)

-- numbers

-- the kind that a word with the kind's suffix has (C11 6.4.4.1)
abbrev pub suffix_kind : IntKind → IntKind
suffix_kind kind.UInt = kind.UInt
suffix_kind kind.Long = kind.Long
suffix_kind kind.ULong = kind.ULong
suffix_kind kind.LLong = kind.LLong
suffix_kind kind.ULLong = kind.ULLong
suffix_kind kind.Long4 = kind.Long
suffix_kind kind.ULong4 = kind.ULong
suffix_kind _ = kind.Int

suffix_back : (n : ℕ) (k : IntKind) → number_from n (suffix_of k) ≡ Number (suffix_kind k) n
suffix_back n k = elim k as (λ v. number_from n (suffix_of v) ≡ Number (suffix_kind v) n) [ kind.Bool ↦ refl | kind.Char ↦ refl | kind.SChar ↦ refl | kind.UChar ↦ refl | kind.Short ↦ refl | kind.UShort ↦ refl | kind.Int ↦ refl | kind.UInt ↦ refl | kind.Long ↦ refl | kind.ULong ↦ refl | kind.LLong ↦ refl | kind.ULLong ↦ refl | kind.Long4 ↦ refl | kind.ULong4 ↦ refl ]

-- the number whose digits follow those of n
abbrev followed : ℕ → List ℕ → ℕ
followed n [] = n
followed n (c ∷ cs) = followed (n * 10 + (c - 48)) cs

pub own : IsNumeralModel (λ ds. all_ascii_digits ds ≡ true) (followed 0)
own = numerals_by_fold _ tells_all_ascii_digits followed (record { empty = λ n. refl; more = λ n c cs h. refl })

le-followed : (n : ℕ) (ds : List ℕ) → n ≤ followed n ds
le-followed n [] = omega arith
le-followed n (c ∷ cs) = omega (arith, le-followed (n * 10 + (c - 48)) cs)

below : (n : ℕ) (ds : List ℕ) (limit : ℕ) → followed n ds < limit → n < limit
below n ds limit small = omega (arith, le-followed n ds)

digits_back : (ds suffix : List ℕ) (n : ℕ) → all_ascii_digits ds ≡ true → followed n ds < 2 ^ 64 → number_from n (ds ++ suffix) ≡ number_from (followed n ds) suffix
digits_back [] suffix n all small = refl
digits_back (c ∷ cs) suffix n all small =
    let d = both (is_ascii_digit c) (all_ascii_digits cs) all in
    let fits : nat_lt (n * 10 + (c - 48)) (2 ^ 64) ≡ true = lt-ltb (n * 10 + (c - 48)) (2 ^ 64) (below (n * 10 + (c - 48)) cs (2 ^ 64) small) in
    rw (d.0, fits) (digits_back cs suffix (n * 10 + (c - 48)) d.1 small)

abbrev begins_number : List ℕ → Bool
begins_number [] = false
begins_number (b ∷ bytes) = is_ascii_digit b

signs_are_no_numbers : list_all (λ (e : Token × Word). not (begins_number e.0)) signs ≡ true
signs_are_no_numbers = refl

reserved_are_no_numbers : list_all (λ (e : Token × Word). not (begins_number e.0)) reserved ≡ true
reserved_are_no_numbers = refl

number_token : (token : List ℕ) → begins_number token ≡ true → word_of token ≡ number_from 0 token
unfolding word_of
number_token [] is = cc
number_token (b ∷ bytes) is =
    rw (not_there begins_number signs (b ∷ bytes) signs_are_no_numbers is, not_there begins_number reserved (b ∷ bytes) reserved_are_no_numbers is, is) refl

begun : (ds suffix : List ℕ) → all_ascii_digits ds ≡ true → 0 < length ds → begins_number (ds ++ suffix) ≡ true
begun [] suffix all some = absurd (omega arith)
begun (c ∷ cs) suffix all some = (both (is_ascii_digit c) (all_ascii_digits cs) all).0

pub digits_word : (k : IntKind) (n : ℕ) → n < 2 ^ 64 → word_of (digits k n) ≡ Number (suffix_kind k) n
digits_word k n small =
    let value : followed 0 (decimal n) ≡ n = digits_value-decimal own n small in
    number_token (decimal n ++ suffix_of k) (begun (decimal n) (suffix_of k) (digits_decimal own n small) (decimal_nonempty n small))
    ∙ digits_back (decimal n) (suffix_of k) 0 (digits_decimal own n small) (omega (arith, value))
    ∙ ap (λ (v : ℕ). number_from v (suffix_of k)) value
    ∙ suffix_back n k

pub decimal_word : (n : ℕ) → n < 2 ^ 64 → word_of (decimal n) ≡ Number kind.Int n
decimal_word n small = ap word_of (sym (append-nil (decimal n))) ∙ digits_word kind.Int n small

pub operator_word : (op : BinOp) → word_of (operator_spelling op) ≡ Operator op
unfolding word_of
operator_word op = elim op as (λ o. word_of (operator_spelling o) ≡ Operator o) [ Mul ↦ refl | Div ↦ refl | Rem ↦ refl | Add ↦ refl | Sub ↦ refl | Shl ↦ refl | Shr ↦ refl | Lt ↦ refl | Gt ↦ refl | Le ↦ refl | Ge ↦ refl | Eq ↦ refl | Ne ↦ refl | And ↦ refl | Xor ↦ refl | Or ↦ refl ]
