-- Device: the reading of declarations gives back each type and name from its tokens.
use Rattle.std.proofs.Common.{◌≡◌, ℕ, ◌<◌, ◌^◌, ◌||◌, Bool, true, false, cond, List, [], ◌∷◌, ◌++◌, codes, decimal, Option, Some, None, slice_get, refl, ap, ◌∙◌}
use Rattle.cil_base.specs.declared.kinds.IntKind.{IntKind}
use Rattle.cil_base.specs.declared.kinds.IntKind.TheVariants as kind
use Rattle.cil_base.specs.declared.operators.BinOp.TheVariants.{Mul}
use Rattle.cil_base.specs.Integer.{has_kind}
use Rattle.type_graph.specs.declared.aggregates.AggKind.{AggKind}
use Rattle.type_graph.specs.declared.aggregates.AggKind.TheVariants.{Struct, Union, Enum}
use Rattle.type_graph.specs.declared.aggregates.Aggregate.{Aggregate}
use Rattle.type_graph.specs.Shapes.{Shape, Shapes, VoidType, IntType, PtrType, ArrayType, FuncType, AggType, NoTypes, MoreTypes}
use Rattle.cil_tree.specs.Tree.{Program}
use Rattle.cil_tree.specs.Typing.{is_array, is_function, unqualified}
use Rattle.cil_tree.specs.WellFormedTypes.{are_parameters, prototype_fits}
use Rattle.cil_tree.specs.Lines.{Token}
use Rattle.cil_tree.specs.Names.{is_name, tags}
use Rattle.cil_tree.specs.Declarators.{kind_words, keyword_of, tag_text, tagged, starred, bound_tokens, separated, ended, listed, in_parentheses, declared, all_declared}
use Rattle.cil_text.specs.Words.{Word, LeftParen, RightParen, LeftBracket, RightBracket, Comma, Ellipsis, Operator, VoidWord, BoolWord, CharWord, ShortWord, IntWord, LongWord, SignedWord, UnsignedWord, TagWord, word_of, onto}
use Rattle.cil_text.specs.ReadTypes.{find}
use Rattle.cil_text.proofs.WordsBack.{onto_append}

-- the words of a type, in front of others

abbrev pub kind_spelled : IntKind → List Word → List Word
kind_spelled kind.Bool rest = BoolWord ∷ rest
kind_spelled kind.Char rest = CharWord ∷ rest
kind_spelled kind.SChar rest = SignedWord ∷ CharWord ∷ rest
kind_spelled kind.UChar rest = UnsignedWord ∷ CharWord ∷ rest
kind_spelled kind.Short rest = ShortWord ∷ rest
kind_spelled kind.UShort rest = UnsignedWord ∷ ShortWord ∷ rest
kind_spelled kind.Int rest = IntWord ∷ rest
kind_spelled kind.UInt rest = UnsignedWord ∷ IntWord ∷ rest
kind_spelled kind.Long rest = LongWord ∷ rest
kind_spelled kind.ULong rest = UnsignedWord ∷ LongWord ∷ rest
kind_spelled kind.LLong rest = LongWord ∷ LongWord ∷ rest
kind_spelled kind.ULLong rest = UnsignedWord ∷ LongWord ∷ LongWord ∷ rest
kind_spelled kind.Long4 rest = LongWord ∷ rest
kind_spelled kind.ULong4 rest = UnsignedWord ∷ LongWord ∷ rest

abbrev pub tag_spelled : Program → Option Aggregate → List Word → List Word
tag_spelled p None rest = rest
tag_spelled p (Some x) rest = TagWord x.kind ∷ word_of (tag_text p x) ∷ rest

abbrev pub base_spelled : Program → Shape → List Word → List Word
base_spelled p VoidType rest = VoidWord ∷ rest
base_spelled p (IntType k) rest = kind_spelled k rest
base_spelled p (PtrType q s) rest = base_spelled p s rest
base_spelled p (ArrayType q s bound) rest = base_spelled p s rest
base_spelled p (FuncType ret params proto variadic) rest = base_spelled p ret rest
base_spelled p (AggType a) rest = tag_spelled p (slice_get p.graph.aggs a) rest

abbrev pub grouped : Shape → Bool
grouped s = is_array s || is_function s

-- what stands between the base words and the name
abbrev pub before : Shape → List Word → List Word
before VoidType rest = rest
before (IntType k) rest = rest
before (PtrType q s) rest = before s (cond (grouped s) (LeftParen ∷ Operator Mul ∷ rest) (Operator Mul ∷ rest))
before (ArrayType q s bound) rest = before s rest
before (FuncType ret params proto variadic) rest = before ret rest
before (AggType a) rest = rest

abbrev pub bound_spelled : Option ℕ → List Word → List Word
bound_spelled None rest = RightBracket ∷ rest
bound_spelled (Some n) rest = word_of (decimal n) ∷ RightBracket ∷ rest

abbrev pub end_spelled : Bool → List Word → List Word
end_spelled true rest = Comma ∷ Ellipsis ∷ RightParen ∷ rest
end_spelled false rest = RightParen ∷ rest

abbrev mutual
  -- what stands behind the name
  pub behind : Program → Shape → List Word → List Word
  behind p VoidType rest = rest
  behind p (IntType k) rest = rest
  behind p (PtrType q s) rest = cond (grouped s) (RightParen ∷ behind p s rest) (behind p s rest)
  behind p (ArrayType q s bound) rest = LeftBracket ∷ bound_spelled bound (behind p s rest)
  behind p (FuncType ret params proto variadic) rest = LeftParen ∷ called_spelled p proto variadic params (behind p ret rest)
  behind p (AggType a) rest = rest

  pub called_spelled : Program → Bool → Bool → Shapes → List Word → List Word
  called_spelled p false variadic params rest = RightParen ∷ rest
  called_spelled p true variadic NoTypes rest = VoidWord ∷ RightParen ∷ rest
  called_spelled p true variadic (MoreTypes s more) rest = base_spelled p s (before s (behind p s (more_spelled p more (end_spelled variadic rest))))

  pub more_spelled : Program → Shapes → List Word → List Word
  more_spelled p NoTypes rest = rest
  more_spelled p (MoreTypes s more) rest = Comma ∷ base_spelled p s (before s (behind p s (more_spelled p more rest)))

abbrev pub type_spelled : Program → Shape → List Word → List Word
type_spelled p s rest = base_spelled p s (before s (behind p s rest))

-- the tokens are these words

abbrev pub nonempty : List Token → Bool
nonempty [] = false
nonempty (t ∷ ts) = true

kind_tokens : (k : IntKind) (inner : List Token) (rest : List Word) → onto (kind_words k ++ inner) rest ≡ kind_spelled k (onto inner rest)
unfolding word_of
kind_tokens k inner rest = elim k as (λ v. onto (kind_words v ++ inner) rest ≡ kind_spelled v (onto inner rest)) [ kind.Bool ↦ refl | kind.Char ↦ refl | kind.SChar ↦ refl | kind.UChar ↦ refl | kind.Short ↦ refl | kind.UShort ↦ refl | kind.Int ↦ refl | kind.UInt ↦ refl | kind.Long ↦ refl | kind.ULong ↦ refl | kind.LLong ↦ refl | kind.ULLong ↦ refl | kind.Long4 ↦ refl | kind.ULong4 ↦ refl ]

pub keyword_word : (k : AggKind) → word_of (keyword_of k) ≡ TagWord k
unfolding word_of
keyword_word k = elim k as (λ v. word_of (keyword_of v) ≡ TagWord v) [ Struct ↦ refl | Union ↦ refl | Enum ↦ refl ]

tag_tokens : (p : Program) (o : Option Aggregate) (inner : List Token) (rest : List Word) → onto (elim o [ None ↦ [] | Some x ↦ tagged p x ] ++ inner) rest ≡ tag_spelled p o (onto inner rest)
tag_tokens p None inner rest = refl
tag_tokens p (Some x) inner rest = rw (keyword_word x.kind) refl

starred_tokens : (s : Shape) (inner : List Token) (rest : List Word) →
    onto (starred s inner) rest ≡ cond (grouped s) (LeftParen ∷ Operator Mul ∷ onto inner (cond (grouped s) (RightParen ∷ rest) rest)) (Operator Mul ∷ onto inner (cond (grouped s) (RightParen ∷ rest) rest))
unfolding word_of
starred_tokens s inner rest = by (grouped s)
  where
    by : (b : Bool) → onto (cond b (codes "(" ∷ codes "*" ∷ (inner ++ codes ")" ∷ [])) (codes "*" ∷ inner)) rest ≡ cond b (LeftParen ∷ Operator Mul ∷ onto inner (cond b (RightParen ∷ rest) rest)) (Operator Mul ∷ onto inner (cond b (RightParen ∷ rest) rest))
    by true = ap (λ (ws : List Word). LeftParen ∷ Operator Mul ∷ ws) (onto_append inner (codes ")" ∷ []) rest)
    by false = refl

bound_words : (bound : Option ℕ) (rest : List Word) → onto (bound_tokens bound ++ codes "]" ∷ []) rest ≡ bound_spelled bound rest
unfolding word_of
bound_words None rest = refl
bound_words (Some n) rest = refl

pub kind_nonempty : (k : IntKind) (inner : List Token) → nonempty (kind_words k ++ inner) ≡ true
kind_nonempty k inner = elim k as (λ v. nonempty (kind_words v ++ inner) ≡ true) [ kind.Bool ↦ refl | kind.Char ↦ refl | kind.SChar ↦ refl | kind.UChar ↦ refl | kind.Short ↦ refl | kind.UShort ↦ refl | kind.Int ↦ refl | kind.UInt ↦ refl | kind.Long ↦ refl | kind.ULong ↦ refl | kind.LLong ↦ refl | kind.ULLong ↦ refl | kind.Long4 ↦ refl | kind.ULong4 ↦ refl ]

-- the aggregate has a tag that is a name, and is the first with it
abbrev pub IsTagged : Program → ℕ → Type 0
IsTagged p a = (x : Aggregate) × (slice_get p.graph.aggs a ≡ Some x) × (is_name (tag_text p x) ≡ true) × (find (tag_text p x) (tags p) ≡ Some a)

abbrev pub IsBound : Option ℕ → Type 0
IsBound None = Unit {0}
IsBound (Some n) = n < 2 ^ 64

abbrev mutual
  -- a type that a declaration can spell
  pub IsShape : Program → Shape → Type 0
  IsShape p VoidType = Unit {0}
  IsShape p (IntType k) = has_kind p.graph.abi k ≡ true
  IsShape p (PtrType q s) = (q ≡ unqualified) × IsShape p s
  IsShape p (ArrayType q s bound) = (q ≡ unqualified) × IsBound bound × IsShape p s
  IsShape p (FuncType ret params proto variadic) = IsShape p ret × AreShapes p params × (are_parameters params ≡ true) × (prototype_fits (FuncType ret params proto variadic) ≡ true)
  IsShape p (AggType a) = IsTagged p a

  pub AreShapes : Program → Shapes → Type 0
  AreShapes p NoTypes = Unit {0}
  AreShapes p (MoreTypes s more) = IsShape p s × AreShapes p more

tag_nonempty : (p : Program) (o : Option Aggregate) (x : Aggregate) (inner : List Token) → o ≡ Some x → nonempty (elim o [ None ↦ [] | Some y ↦ tagged p y ] ++ inner) ≡ true
tag_nonempty p None x inner e = cc
tag_nonempty p (Some y) x inner e = refl

pub declared_nonempty : (p : Program) (s : Shape) (inner : List Token) → IsShape p s → nonempty (declared p s inner) ≡ true
declared_nonempty p VoidType inner is = refl
declared_nonempty p (IntType k) inner is = kind_nonempty k inner
declared_nonempty p (PtrType q s) inner is = declared_nonempty p s (starred s inner) is.1
declared_nonempty p (ArrayType q s bound) inner is = declared_nonempty p s (inner ++ codes "[" ∷ (bound_tokens bound ++ codes "]" ∷ [])) is.2
declared_nonempty p (FuncType ret params proto variadic) inner is = declared_nonempty p ret (inner ++ in_parentheses (listed proto variadic (all_declared p params))) is.0
declared_nonempty p (AggType a) inner is = tag_nonempty p (slice_get p.graph.aggs a) is.0 inner is.1

pub append_nonempty : (a b : List Token) → nonempty a ≡ true → nonempty (a ++ b) ≡ true
append_nonempty [] b e = cc
append_nonempty (t ∷ a) b e = refl

pub separated_some : (first more : List Token) → nonempty more ≡ true → separated first more ≡ first ++ codes "," ∷ more
separated_some first [] e = cc
separated_some first (t ∷ ts) e = refl

all_nonempty : (p : Program) (s : Shape) (more : Shapes) → IsShape p s → nonempty (all_declared p (MoreTypes s more)) ≡ true
all_nonempty p s more is = by (all_declared p more)
  where
    by : (ts : List Token) → nonempty (separated (declared p s []) ts) ≡ true
    by [] = declared_nonempty p s [] is
    by (t ∷ ts) = append_nonempty (declared p s []) (codes "," ∷ t ∷ ts) (declared_nonempty p s [] is)

listed_some : (variadic : Bool) (ts : List Token) → nonempty ts ≡ true → listed true variadic ts ≡ ended variadic ts
listed_some variadic [] e = cc
listed_some variadic (t ∷ ts) e = refl

ended_words : (variadic : Bool) (ts : List Token) (rest : List Word) → onto (ended variadic ts ++ codes ")" ∷ []) rest ≡ onto ts (end_spelled variadic rest)
unfolding word_of
ended_words true ts rest = onto_append (ts ++ codes "," ∷ codes "..." ∷ []) (codes ")" ∷ []) rest ∙ onto_append ts (codes "," ∷ codes "..." ∷ []) (RightParen ∷ rest)
ended_words false ts rest = onto_append ts (codes ")" ∷ []) rest

mutual
  unfolding word_of

  pub declared_words : (p : Program) (s : Shape) (inner : List Token) (rest : List Word) → IsShape p s → onto (declared p s inner) rest ≡ base_spelled p s (before s (onto inner (behind p s rest)))
  declared_words p VoidType inner rest is = refl
  declared_words p (IntType k) inner rest is = kind_tokens k inner rest
  declared_words p (PtrType q s) inner rest is =
      declared_words p s (starred s inner) rest is.1 ∙ ap (λ (ws : List Word). base_spelled p s (before s ws)) (starred_tokens s inner (behind p s rest))
  declared_words p (ArrayType q s bound) inner rest is =
      declared_words p s (inner ++ codes "[" ∷ (bound_tokens bound ++ codes "]" ∷ [])) rest is.2
      ∙ ap (λ (ws : List Word). base_spelled p s (before s ws)) (onto_append inner (codes "[" ∷ (bound_tokens bound ++ codes "]" ∷ [])) (behind p s rest)
      ∙ ap (λ (ws : List Word). onto inner (LeftBracket ∷ ws)) (bound_words bound (behind p s rest)))
  declared_words p (FuncType ret params proto variadic) inner rest is =
      declared_words p ret (inner ++ in_parentheses (listed proto variadic (all_declared p params))) rest is.0
      ∙ ap (λ (ws : List Word). base_spelled p ret (before ret ws)) (onto_append inner (in_parentheses (listed proto variadic (all_declared p params))) (behind p ret rest)
      ∙ ap (λ (ws : List Word). onto inner (LeftParen ∷ ws)) (called_words p proto variadic params (behind p ret rest) is.1))
  declared_words p (AggType a) inner rest is = tag_tokens p (slice_get p.graph.aggs a) inner rest

  called_words : (p : Program) (proto variadic : Bool) (params : Shapes) (rest : List Word) → AreShapes p params →
      onto (listed proto variadic (all_declared p params) ++ codes ")" ∷ []) rest ≡ called_spelled p proto variadic params rest
  called_words p false variadic params rest are = refl
  called_words p true variadic NoTypes rest are = refl
  called_words p true variadic (MoreTypes s more) rest are =
      ap (λ (ts : List Token). onto (ts ++ codes ")" ∷ []) rest) (listed_some variadic (all_declared p (MoreTypes s more)) (all_nonempty p s more are.0))
      ∙ ended_words variadic (all_declared p (MoreTypes s more)) rest
      ∙ more_words p (declared p s []) more (end_spelled variadic rest) are.1
      ∙ declared_words p s [] (more_spelled p more (end_spelled variadic rest)) are.0

  more_words : (p : Program) (first : List Token) (more : Shapes) (rest : List Word) → AreShapes p more → onto (separated first (all_declared p more)) rest ≡ onto first (more_spelled p more rest)
  more_words p first NoTypes rest are = refl
  more_words p first (MoreTypes t more) rest are =
      ap (λ (ts : List Token). onto ts rest) (separated_some first (all_declared p (MoreTypes t more)) (all_nonempty p t more are.0))
      ∙ onto_append first (codes "," ∷ all_declared p (MoreTypes t more)) rest
      ∙ ap (λ (ws : List Word). onto first (Comma ∷ ws)) (more_words p (declared p t []) more rest are.1 ∙ declared_words p t [] (more_spelled p more rest) are.0)
