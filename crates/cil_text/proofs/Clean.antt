-- Device: tokens have no blank and no line feed, so a line's bytes give them back.
use Rattle.std.proofs.Common.{◌≡◌, ℕ, zero, suc, ◌+◌, ◌/◌, ◌%◌, ◌==◌, nat_lt, cond, ◌<◌, ◌^◌, ◌&&◌, ◌||◌, not, nat_eq, nat_le, Bool, true, false, List, [], ◌∷◌, ◌++◌, codes, decimal, length, Option, Some, None, slice_get, refl, sym, ap, ◌∙◌, subst, append-nil, arith}
use Rattle.std.specs.Prelude.{ℤ, pos, negsuc, unsigned_abs}
use Rattle.std.specs.Ordering.{int_eq}
use Rattle.std.specs.Fmt as all
use Rattle.std.specs.Fmt.{digit_glyph, digits_onto}
use Rattle.std.specs.List.{list_all}
use Rattle.std.specs.Str.{all_ascii_digits}
use Rattle.std.specs.Char.{is_ascii_digit}
use Rattle.std.proofs.lemmas.Bool.Decides.{nat_tests}
use Rattle.std.proofs.lemmas.Fmt.{digits_decimal, decimal_nonempty}
use Rattle.cil_base.specs.declared.kinds.IntKind.{IntKind}
use Rattle.cil_base.specs.declared.kinds.IntKind.TheVariants as kind
use Rattle.cil_base.specs.declared.operators.UnOp.{UnOp}
use Rattle.cil_base.specs.declared.operators.UnOp.TheVariants.{Neg, Compl, Not}
use Rattle.cil_base.specs.declared.operators.BinOp.{BinOp}
use Rattle.cil_base.specs.declared.operators.BinOp.TheVariants.{Mul, Div, Rem, Add, Sub, Shl, Shr, Lt, Gt, Le, Ge, Eq, Ne, And, Xor, Or}
use Rattle.cil_base.specs.Operators.{operator_spelling}
use Rattle.cil_base.specs.Integer.{suffix_of, least, greatest}
use Rattle.type_graph.specs.declared.aggregates.AggKind.{AggKind}
use Rattle.type_graph.specs.declared.aggregates.AggKind.TheVariants.{Struct, Union, Enum}
use Rattle.type_graph.specs.declared.aggregates.Aggregate.{Aggregate}
use Rattle.type_graph.specs.Shapes.{Shape, Shapes, VoidType, IntType, PtrType, ArrayType, FuncType, AggType, NoTypes, MoreTypes}
use Rattle.cil_tree.specs.Tree.{Program}
use Rattle.cil_tree.specs.Typing.{is_array, is_function}
use Rattle.cil_tree.specs.Lines.{Token}
use Rattle.cil_tree.specs.Names.{is_name, is_identifier, begins_word, goes_on_word, is_among, keywords, other_words}
use Rattle.cil_tree.specs.Declarators.{kind_words, keyword_of, tag_text, tagged, starred, bound_tokens, separated, listed, in_parentheses, declared, all_declared, digits, number}
use Rattle.cil_tree.specs.Text.{unary_spelling}
use Rattle.cil_text.proofs.WordsBack.{own, both}
use Rattle.cil_text.proofs.TypesBack.{IsBound, IsShape, AreShapes}

abbrev pub clean_byte : ℕ → Bool
clean_byte b = not (nat_eq b 32) && not (nat_eq b 10)

abbrev pub is_clean : Token → Bool
is_clean [] = false
is_clean (b ∷ bytes) = list_all clean_byte (b ∷ bytes)

abbrev pub AllClean : List Token → Type 0
AllClean [] = Unit {0}
AllClean (t ∷ ts) = (is_clean t ≡ true) × AllClean ts

pub clean_append : (a b : List Token) → AllClean a → AllClean b → AllClean (a ++ b)
clean_append [] b x y = y
clean_append (t ∷ a) b x y = (x.0, clean_append a b x.1 y)

pub parens_clean : (ts : List Token) → AllClean ts → AllClean (in_parentheses ts)
parens_clean ts x = (refl, clean_append ts (codes ")" ∷ []) x (refl, tt))

all_weaker : (f g : ℕ → Bool) → ((b : ℕ) → f b ≡ true → g b ≡ true) → (bytes : List ℕ) → list_all f bytes ≡ true → list_all g bytes ≡ true
all_weaker f g weaker [] e = refl
all_weaker f g weaker (b ∷ bytes) e = let h = both (f b) (list_all f bytes) e in ap (λ v. v && list_all g bytes) (weaker b h.0) ∙ all_weaker f g weaker bytes h.1

all_joined : (f : ℕ → Bool) (a b : List ℕ) → list_all f a ≡ true → list_all f b ≡ true → list_all f (a ++ b) ≡ true
all_joined f [] b x y = y
all_joined f (c ∷ a) b x y = let h = both (f c) (list_all f a) x in ap (λ v. v && list_all f (a ++ b)) h.0 ∙ all_joined f a b h.1 y

word_clean : (b : ℕ) → goes_on_word b ≡ true → clean_byte b ≡ true
word_clean b e = grind (arith, nat_tests)

begin_clean : (b : ℕ) → begins_word b ≡ true → clean_byte b ≡ true
begin_clean b e = word_clean b (ap (λ v. v || is_ascii_digit b) e)

pub name_clean : (text : List ℕ) → is_name text ≡ true → is_clean text ≡ true
name_clean [] e = absurd (cc e)
name_clean (b ∷ bytes) e =
    let h = both (is_identifier (b ∷ bytes)) (not (is_among keywords (b ∷ bytes)) && not (is_among other_words (b ∷ bytes))) e in
    let k = both (begins_word b) (list_all goes_on_word bytes) h.0 in
    ap (λ v. v && list_all clean_byte bytes) (begin_clean b k.0) ∙ all_weaker goes_on_word clean_byte word_clean bytes k.1

digit_clean : (b : ℕ) → is_ascii_digit b ≡ true → clean_byte b ≡ true
digit_clean b e = grind (arith, nat_tests)

digits_all : (ds : List ℕ) → all_ascii_digits ds ≡ true → list_all clean_byte ds ≡ true
digits_all [] e = refl
digits_all (c ∷ cs) e = let h = both (is_ascii_digit c) (all_ascii_digits cs) e in ap (λ v. v && list_all clean_byte cs) (digit_clean c h.0) ∙ digits_all cs h.1

suffix_clean : (k : IntKind) → list_all clean_byte (suffix_of k) ≡ true
suffix_clean k = elim k as (λ v. list_all clean_byte (suffix_of v) ≡ true) [ kind.Bool ↦ refl | kind.Char ↦ refl | kind.SChar ↦ refl | kind.UChar ↦ refl | kind.Short ↦ refl | kind.UShort ↦ refl | kind.Int ↦ refl | kind.UInt ↦ refl | kind.Long ↦ refl | kind.ULong ↦ refl | kind.LLong ↦ refl | kind.ULLong ↦ refl | kind.Long4 ↦ refl | kind.ULong4 ↦ refl ]

some_clean : (ds suffix : List ℕ) → 0 < length ds → list_all clean_byte (ds ++ suffix) ≡ true → is_clean (ds ++ suffix) ≡ true
some_clean [] suffix some e = absurd (omega arith)
some_clean (c ∷ cs) suffix some e = e

pub digits_clean : (k : IntKind) (n : ℕ) → n < 2 ^ 64 → is_clean (digits k n) ≡ true
digits_clean k n small = some_clean (decimal n) (suffix_of k) (decimal_nonempty n small) (all_joined clean_byte (decimal n) (suffix_of k) (digits_all (decimal n) (digits_decimal own n small)) (suffix_clean k))

pub decimal_clean : (n : ℕ) → n < 2 ^ 64 → is_clean (decimal n) ≡ true
decimal_clean n small = ap is_clean (sym (append-nil (decimal n))) ∙ digits_clean kind.Int n small

-- digits of any number

glyph_clean : (d : ℕ) → clean_byte (digit_glyph false d) ≡ true
glyph_clean d = by (nat_lt d 10)
  where
    by : (b : Bool) → clean_byte (cond b (48 + d) (87 + d)) ≡ true
    by true = grind (arith, nat_tests)
    by false = grind (arith, nat_tests)

onto_clean : (k n : ℕ) (acc : List ℕ) → list_all clean_byte acc ≡ true → list_all clean_byte (digits_onto k 10 false n acc) ≡ true
onto_clean zero n acc e = e
onto_clean (suc k) n acc e =
    let more : list_all clean_byte (digit_glyph false (n % 10) ∷ acc) ≡ true = ap (λ v. v && list_all clean_byte acc) (glyph_clean (n % 10)) ∙ e in
    by (n / 10 == 0) more (onto_clean k (n / 10) (digit_glyph false (n % 10) ∷ acc) more)
  where
    by : (b : Bool) → list_all clean_byte (digit_glyph false (n % 10) ∷ acc) ≡ true → list_all clean_byte (digits_onto k 10 false (n / 10) (digit_glyph false (n % 10) ∷ acc)) ≡ true →
        list_all clean_byte (cond b (digit_glyph false (n % 10) ∷ acc) (digits_onto k 10 false (n / 10) (digit_glyph false (n % 10) ∷ acc))) ≡ true
    by true x y = x
    by false x y = y

onto_some : (k n : ℕ) (acc : List ℕ) → 0 < length acc → 0 < length (digits_onto k 10 false n acc)
onto_some zero n acc e = e
onto_some (suc k) n acc e = by (n / 10 == 0) (onto_some k (n / 10) (digit_glyph false (n % 10) ∷ acc) (omega arith))
  where
    by : (b : Bool) → 0 < length (digits_onto k 10 false (n / 10) (digit_glyph false (n % 10) ∷ acc)) → 0 < length (cond b (digit_glyph false (n % 10) ∷ acc) (digits_onto k 10 false (n / 10) (digit_glyph false (n % 10) ∷ acc)))
    by true x = omega arith
    by false x = x

onto_first : (k n : ℕ) → 0 < length (digits_onto (suc k) 10 false n [])
onto_first k n = by (n / 10 == 0)
  where
    by : (b : Bool) → 0 < length (cond b (digit_glyph false (n % 10) ∷ []) (digits_onto k 10 false (n / 10) (digit_glyph false (n % 10) ∷ [])))
    by true = omega arith
    by false = onto_some k (n / 10) (digit_glyph false (n % 10) ∷ []) (omega arith)

pub any_digits_clean : (k : IntKind) (n : ℕ) → is_clean (digits k n) ≡ true
unfolding all.digits
any_digits_clean k n = some_clean (decimal n) (suffix_of k) (onto_first 63 n) (all_joined clean_byte (decimal n) (suffix_of k) (onto_clean 64 n [] refl) (suffix_clean k))

pub number_clean : (k : IntKind) (v : ℤ) → AllClean (number k v)
number_clean k (pos n) = (any_digits_clean k n, tt)
number_clean k (negsuc n) = by (int_eq (negsuc n) (least k))
  where
    by : (b : Bool) → AllClean (cond b (codes "-" ∷ digits k (unsigned_abs (greatest k)) ∷ codes "-" ∷ codes "1" ∷ []) (codes "-" ∷ digits k (suc n) ∷ []))
    by true = (refl, (any_digits_clean k (unsigned_abs (greatest k)), (refl, (refl, tt))))
    by false = (refl, (any_digits_clean k (suc n), tt))

pub operator_clean : (op : BinOp) → is_clean (operator_spelling op) ≡ true
operator_clean op = elim op as (λ o. is_clean (operator_spelling o) ≡ true) [ Mul ↦ refl | Div ↦ refl | Rem ↦ refl | Add ↦ refl | Sub ↦ refl | Shl ↦ refl | Shr ↦ refl | Lt ↦ refl | Gt ↦ refl | Le ↦ refl | Ge ↦ refl | Eq ↦ refl | Ne ↦ refl | And ↦ refl | Xor ↦ refl | Or ↦ refl ]

pub unary_clean : (op : UnOp) → is_clean (unary_spelling op) ≡ true
unary_clean Neg = refl
unary_clean Compl = refl
unary_clean Not = refl

-- types

kind_clean : (k : IntKind) (inner : List Token) → AllClean inner → AllClean (kind_words k ++ inner)
kind_clean k inner x = clean_append (kind_words k) inner (elim k as (λ v. AllClean (kind_words v)) [ kind.Bool ↦ (refl, tt) | kind.Char ↦ (refl, tt) | kind.SChar ↦ (refl, (refl, tt)) | kind.UChar ↦ (refl, (refl, tt)) | kind.Short ↦ (refl, tt) | kind.UShort ↦ (refl, (refl, tt)) | kind.Int ↦ (refl, tt) | kind.UInt ↦ (refl, (refl, tt)) | kind.Long ↦ (refl, tt) | kind.ULong ↦ (refl, (refl, tt)) | kind.LLong ↦ (refl, (refl, tt)) | kind.ULLong ↦ (refl, (refl, (refl, tt))) | kind.Long4 ↦ (refl, tt) | kind.ULong4 ↦ (refl, (refl, tt)) ]) x

pub keyword_clean : (k : AggKind) → is_clean (keyword_of k) ≡ true
keyword_clean k = elim k as (λ v. is_clean (keyword_of v) ≡ true) [ Struct ↦ refl | Union ↦ refl | Enum ↦ refl ]

tag_clean : (p : Program) (o : Option Aggregate) (x : Aggregate) (inner : List Token) → o ≡ Some x → is_name (tag_text p x) ≡ true → AllClean inner → AllClean (elim o [ None ↦ [] | Some y ↦ tagged p y ] ++ inner)
tag_clean p None x inner e named clean = absurd (cc e)
tag_clean p (Some y) x inner e named clean =
    let same : x ≡ y = cc in
    (keyword_clean y.kind, (subst (λ (z : Aggregate). is_clean (tag_text p z) ≡ true) same (name_clean (tag_text p x) named), clean))

starred_clean : (s : Shape) (inner : List Token) → AllClean inner → AllClean (starred s inner)
starred_clean s inner x = by (is_array s || is_function s)
  where
    by : (b : Bool) → AllClean (Rattle.std.proofs.Common.cond b (codes "(" ∷ codes "*" ∷ (inner ++ codes ")" ∷ [])) (codes "*" ∷ inner))
    by true = (refl, (refl, clean_append inner (codes ")" ∷ []) x (refl, tt)))
    by false = (refl, x)

bound_clean : (bound : Option ℕ) → IsBound bound → AllClean (bound_tokens bound)
bound_clean None is = tt
bound_clean (Some n) is = (decimal_clean n is, tt)

pub separated_clean : (first more : List Token) → AllClean first → AllClean more → AllClean (separated first more)
separated_clean first [] x y = x
separated_clean first (t ∷ ts) x y = clean_append first (codes "," ∷ t ∷ ts) x (refl, y)

pub listed_clean : (proto variadic : Bool) (ts : List Token) → AllClean ts → AllClean (listed proto variadic ts)
listed_clean false variadic ts x = tt
listed_clean true variadic [] x = (refl, tt)
listed_clean true true (t ∷ ts) x = clean_append (t ∷ ts) (codes "," ∷ codes "..." ∷ []) x (refl, (refl, tt))
listed_clean true false (t ∷ ts) x = x

mutual
  pub declared_clean : (p : Program) (s : Shape) (inner : List Token) → IsShape p s → AllClean inner → AllClean (declared p s inner)
  declared_clean p VoidType inner is x = (refl, x)
  declared_clean p (IntType k) inner is x = kind_clean k inner x
  declared_clean p (PtrType q s) inner is x = declared_clean p s (starred s inner) is.1 (starred_clean s inner x)
  declared_clean p (ArrayType q s bound) inner is x =
      declared_clean p s (inner ++ codes "[" ∷ (bound_tokens bound ++ codes "]" ∷ [])) is.2
      (clean_append inner (codes "[" ∷ (bound_tokens bound ++ codes "]" ∷ [])) x (refl, clean_append (bound_tokens bound) (codes "]" ∷ []) (bound_clean bound is.1) (refl, tt)))
  declared_clean p (FuncType ret params proto variadic) inner is x =
      declared_clean p ret (inner ++ in_parentheses (listed proto variadic (all_declared p params))) is.0
      (clean_append inner (in_parentheses (listed proto variadic (all_declared p params))) x (parens_clean (listed proto variadic (all_declared p params)) (listed_clean proto variadic (all_declared p params) (all_clean p params is.1))))
  declared_clean p (AggType a) inner is x = tag_clean p (slice_get p.graph.aggs a) is.0 inner is.1 is.2 x

  all_clean : (p : Program) (params : Shapes) → AreShapes p params → AllClean (all_declared p params)
  all_clean p NoTypes are = tt
  all_clean p (MoreTypes s more) are = separated_clean (declared p s []) (all_declared p more) (declared_clean p s [] are.0 tt) (all_clean p more are.1)
