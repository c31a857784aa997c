-- Device: a scan of words that passes over those of types answers, where a type stands, what it does behind the type.
use Rattle.std.proofs.Common.{◌≡◌, ℕ, Bool, true, false, cond, List, ◌∷◌, Option, Some, None, refl, ap, ◌∙◌, slice_get}
use Rattle.cil_base.specs.declared.kinds.IntKind.{IntKind}
use Rattle.cil_base.specs.declared.kinds.IntKind.TheVariants as kind
use Rattle.cil_base.specs.declared.operators.BinOp.TheVariants.{Mul}
use Rattle.type_graph.specs.declared.aggregates.AggKind.{AggKind}
use Rattle.type_graph.specs.declared.aggregates.Aggregate.{Aggregate}
use Rattle.type_graph.specs.Shapes.{Shape, Shapes, VoidType, IntType, PtrType, ArrayType, FuncType, AggType, NoTypes, MoreTypes}
use Rattle.cil_tree.specs.Tree.{Program}
use Rattle.cil_tree.specs.Typing.{is_function}
use Rattle.cil_tree.specs.Names.{is_name}
use Rattle.cil_tree.specs.Declarators.{tag_text}
use Rattle.cil_text.specs.Words.{Word, LeftParen, RightParen, LeftBracket, RightBracket, Comma, Ellipsis, Assign, Operator, VoidWord, BoolWord, CharWord, ShortWord, IntWord, LongWord, SignedWord, UnsignedWord, TagWord, Number, Name, word_of}
use Rattle.cil_text.specs.ReadGlobals.{from_name, is_call_in_front, has_assign, plain_names}
use Rattle.cil_text.proofs.WordsBack.{name_word, decimal_word}
use Rattle.cil_text.proofs.TypesBack.{kind_spelled, tag_spelled, base_spelled, grouped, before, bound_spelled, end_spelled, behind, called_spelled, more_spelled, IsBound, IsShape, AreShapes}
use Rattle.cil_text.proofs.DeclsBack.{cond_both}
use Rattle.cil_text.proofs.AggregatesBack.{neither}

-- the words of types, but for tags
abbrev pub is_type_word : Word → Bool
is_type_word LeftParen = true
is_type_word RightParen = true
is_type_word LeftBracket = true
is_type_word RightBracket = true
is_type_word Comma = true
is_type_word Ellipsis = true
is_type_word (Operator op) = true
is_type_word VoidWord = true
is_type_word BoolWord = true
is_type_word CharWord = true
is_type_word ShortWord = true
is_type_word IntWord = true
is_type_word LongWord = true
is_type_word SignedWord = true
is_type_word UnsignedWord = true
is_type_word (Number kind value) = true
is_type_word _ = false

pub record Skips (A : Type 0) (scan : List Word → A) : Type 0 where
  pub word : (w : Word) (rest : List Word) → is_type_word w ≡ true → scan (w ∷ rest) ≡ scan rest
  pub tag : (kind : AggKind) (text : List ℕ) (rest : List Word) → scan (TagWord kind ∷ Name text ∷ rest) ≡ scan rest

kind_skipped : {A : Type 0} (scan : List Word → A) → Skips A scan → (k : IntKind) (rest : List Word) → scan (kind_spelled k rest) ≡ scan rest
kind_skipped scan s k rest =
    let one = λ (w : Word) (e : is_type_word w ≡ true). s.word w rest e in
    let two = λ (v w : Word) (d : is_type_word v ≡ true) (e : is_type_word w ≡ true). s.word v (w ∷ rest) d ∙ s.word w rest e in
    elim k as (λ v. scan (kind_spelled v rest) ≡ scan rest) [
      | kind.Bool ↦ one BoolWord refl
      | kind.Char ↦ one CharWord refl
      | kind.SChar ↦ two SignedWord CharWord refl refl
      | kind.UChar ↦ two UnsignedWord CharWord refl refl
      | kind.Short ↦ one ShortWord refl
      | kind.UShort ↦ two UnsignedWord ShortWord refl refl
      | kind.Int ↦ one IntWord refl
      | kind.UInt ↦ two UnsignedWord IntWord refl refl
      | kind.Long ↦ one LongWord refl
      | kind.ULong ↦ two UnsignedWord LongWord refl refl
      | kind.LLong ↦ two LongWord LongWord refl refl
      | kind.ULLong ↦ s.word UnsignedWord (LongWord ∷ LongWord ∷ rest) refl ∙ two LongWord LongWord refl refl
      | kind.Long4 ↦ one LongWord refl
      | kind.ULong4 ↦ two UnsignedWord LongWord refl refl
    ]

tag_skipped : {A : Type 0} (scan : List Word → A) → Skips A scan → (p : Program) (o : Option Aggregate) (x : Aggregate) (rest : List Word) → o ≡ Some x → is_name (tag_text p x) ≡ true → scan (tag_spelled p o rest) ≡ scan rest
tag_skipped scan s p None x rest e named = absurd (cc e)
tag_skipped scan s p (Some y) x rest e named =
    let same : y ≡ x = cc in
    let word : word_of (tag_text p y) ≡ Name (tag_text p x) = ap (λ (z : Aggregate). word_of (tag_text p z)) same ∙ name_word (tag_text p x) named in
    ap (λ (w : Word). scan (TagWord y.kind ∷ w ∷ rest)) word ∙ s.tag y.kind (tag_text p x) rest

pub base_skipped : {A : Type 0} (scan : List Word → A) → Skips A scan → (p : Program) (t : Shape) (rest : List Word) → IsShape p t → scan (base_spelled p t rest) ≡ scan rest
base_skipped scan s p VoidType rest is = s.word VoidWord rest refl
base_skipped scan s p (IntType k) rest is = kind_skipped scan s k rest
base_skipped scan s p (PtrType q t) rest is = base_skipped scan s p t rest is.1
base_skipped scan s p (ArrayType q t bound) rest is = base_skipped scan s p t rest is.2
base_skipped scan s p (FuncType ret params proto variadic) rest is = base_skipped scan s p ret rest is.0
base_skipped scan s p (AggType a) rest is = tag_skipped scan s p (slice_get p.graph.aggs a) is.0 rest is.1 is.2

pub before_skipped : {A : Type 0} (scan : List Word → A) → Skips A scan → (t : Shape) (rest : List Word) → scan (before t rest) ≡ scan rest
before_skipped scan s VoidType rest = refl
before_skipped scan s (IntType k) rest = refl
before_skipped scan s (PtrType q t) rest =
    let star = s.word (Operator Mul) rest refl in
    before_skipped scan s t (cond (grouped t) (LeftParen ∷ Operator Mul ∷ rest) (Operator Mul ∷ rest))
    ∙ cond_both scan (grouped t) (LeftParen ∷ Operator Mul ∷ rest) (Operator Mul ∷ rest) (scan rest) (s.word LeftParen (Operator Mul ∷ rest) refl ∙ star) star
before_skipped scan s (ArrayType q t bound) rest = before_skipped scan s t rest
before_skipped scan s (FuncType ret params proto variadic) rest = before_skipped scan s ret rest
before_skipped scan s (AggType a) rest = refl

bound_skipped : {A : Type 0} (scan : List Word → A) → Skips A scan → (bound : Option ℕ) (rest : List Word) → IsBound bound → scan (bound_spelled bound rest) ≡ scan rest
bound_skipped scan s None rest is = s.word RightBracket rest refl
bound_skipped scan s (Some n) rest is = ap (λ (w : Word). scan (w ∷ RightBracket ∷ rest)) (decimal_word n is) ∙ s.word (Number kind.Int n) (RightBracket ∷ rest) refl ∙ s.word RightBracket rest refl

end_skipped : {A : Type 0} (scan : List Word → A) → Skips A scan → (variadic : Bool) (rest : List Word) → scan (end_spelled variadic rest) ≡ scan rest
end_skipped scan s true rest = s.word Comma (Ellipsis ∷ RightParen ∷ rest) refl ∙ s.word Ellipsis (RightParen ∷ rest) refl ∙ s.word RightParen rest refl
end_skipped scan s false rest = s.word RightParen rest refl

mutual
  pub behind_skipped : {A : Type 0} (scan : List Word → A) → Skips A scan → (p : Program) (t : Shape) (rest : List Word) → IsShape p t → scan (behind p t rest) ≡ scan rest
  behind_skipped scan s p VoidType rest is = refl
  behind_skipped scan s p (IntType k) rest is = refl
  behind_skipped scan s p (PtrType q t) rest is =
      let back = behind_skipped scan s p t rest is.1 in
      cond_both scan (grouped t) (RightParen ∷ behind p t rest) (behind p t rest) (scan rest) (s.word RightParen (behind p t rest) refl ∙ back) back
  behind_skipped scan s p (ArrayType q t bound) rest is =
      s.word LeftBracket (bound_spelled bound (behind p t rest)) refl ∙ bound_skipped scan s bound (behind p t rest) is.1 ∙ behind_skipped scan s p t rest is.2
  behind_skipped scan s p (FuncType ret params proto variadic) rest is =
      s.word LeftParen (called_spelled p proto variadic params (behind p ret rest)) refl ∙ called_skipped scan s p proto variadic params (behind p ret rest) is.1 ∙ behind_skipped scan s p ret rest is.0
  behind_skipped scan s p (AggType a) rest is = refl

  called_skipped : {A : Type 0} (scan : List Word → A) → Skips A scan → (p : Program) (proto variadic : Bool) (params : Shapes) (rest : List Word) → AreShapes p params → scan (called_spelled p proto variadic params rest) ≡ scan rest
  called_skipped scan s p false variadic params rest are = s.word RightParen rest refl
  called_skipped scan s p true variadic NoTypes rest are = s.word VoidWord (RightParen ∷ rest) refl ∙ s.word RightParen rest refl
  called_skipped scan s p true variadic (MoreTypes t more) rest are =
      let words = more_spelled p more (end_spelled variadic rest) in
      base_skipped scan s p t (before t (behind p t words)) are.0 ∙ before_skipped scan s t (behind p t words) ∙ behind_skipped scan s p t words are.0 ∙ more_skipped scan s p more (end_spelled variadic rest) are.1 ∙ end_skipped scan s variadic rest

  more_skipped : {A : Type 0} (scan : List Word → A) → Skips A scan → (p : Program) (more : Shapes) (rest : List Word) → AreShapes p more → scan (more_spelled p more rest) ≡ scan rest
  more_skipped scan s p NoTypes rest are = refl
  more_skipped scan s p (MoreTypes t more) rest are =
      let words = more_spelled p more rest in
      s.word Comma (base_spelled p t (before t (behind p t words))) refl ∙ base_skipped scan s p t (before t (behind p t words)) are.0 ∙ before_skipped scan s t (behind p t words) ∙ behind_skipped scan s p t words are.0 ∙ more_skipped scan s p more rest are.1

-- scans

names_word : (w : Word) (rest : List Word) → is_type_word w ≡ true → plain_names (w ∷ rest) ≡ plain_names rest
names_word (TagWord kind) rest e = absurd (cc e)
names_word (Name text) rest e = absurd (cc e)
names_word w rest e = refl

pub names_skip : Skips (List (List ℕ)) plain_names
names_skip = record { word = names_word; tag = λ kind text rest. refl }

from_word : (w : Word) (rest : List Word) → is_type_word w ≡ true → from_name (w ∷ rest) ≡ from_name rest
from_word (TagWord kind) rest e = absurd (cc e)
from_word (Name text) rest e = absurd (cc e)
from_word w rest e = refl

from_skip : Skips (List Word) from_name
from_skip = record { word = from_word; tag = λ kind text rest. refl }

assign_word : (w : Word) (rest : List Word) → is_type_word w ≡ true → has_assign (w ∷ rest) ≡ has_assign rest
assign_word Assign rest e = absurd (cc e)
assign_word w rest e = refl

assign_skip : Skips Bool has_assign
assign_skip = record { word = assign_word; tag = λ kind text rest. refl }

-- the words of a declaration

abbrev pub named_spelled : Program → Shape → List ℕ → List Word → List Word
named_spelled p t name rest = base_spelled p t (before t (Name name ∷ behind p t rest))

pub named_from : (p : Program) (t : Shape) (name : List ℕ) (rest : List Word) → IsShape p t → from_name (named_spelled p t name rest) ≡ Name name ∷ behind p t rest
named_from p t name rest is = base_skipped from_name from_skip p t (before t (Name name ∷ behind p t rest)) is ∙ before_skipped from_name from_skip t (Name name ∷ behind p t rest)

pub named_assign : (p : Program) (t : Shape) (name : List ℕ) (rest : List Word) → IsShape p t → has_assign (named_spelled p t name rest) ≡ has_assign rest
named_assign p t name rest is =
    base_skipped has_assign assign_skip p t (before t (Name name ∷ behind p t rest)) is
    ∙ before_skipped has_assign assign_skip t (Name name ∷ behind p t rest)
    ∙ behind_skipped has_assign assign_skip p t rest is

-- `(` stands right behind the name of a function, and of nothing else
pub named_call : (p : Program) (t : Shape) (name : List ℕ) (rest : List Word) → is_call_in_front (Name name ∷ rest) ≡ false → is_call_in_front (Name name ∷ behind p t rest) ≡ is_function t
named_call p VoidType name rest e = e
named_call p (IntType k) name rest e = e
named_call p (PtrType q t) name rest e = by (grouped t) refl (named_call p t name rest e)
  where
    by : (b : Bool) → grouped t ≡ b → is_call_in_front (Name name ∷ behind p t rest) ≡ is_function t → is_call_in_front (Name name ∷ cond b (RightParen ∷ behind p t rest) (behind p t rest)) ≡ false
    by true h back = refl
    by false h back = back ∙ (neither (Rattle.cil_tree.specs.Typing.is_array t) (is_function t) h).1
named_call p (ArrayType q t bound) name rest e = refl
named_call p (FuncType ret params proto variadic) name rest e = refl
named_call p (AggType a) name rest e = e
