-- Device: the reading of declarations gives back each type and name from its words.
use Rattle.std.proofs.Common.{◌≡◌, ℕ, suc, zero, ◌+◌, ◌≤◌, Bool, true, false, cond, List, [], ◌∷◌, Option, Some, None, slice_get, refl, sym, ap, ◌∙◌, arith}
use Rattle.std.specs.Option.{option_map, option_and_then}
use Rattle.cil_base.specs.declared.kinds.IntKind.{IntKind}
use Rattle.cil_base.specs.declared.kinds.IntKind.TheVariants as kind
use Rattle.cil_base.specs.declared.operators.BinOp.TheVariants.{Mul}
use Rattle.cil_base.specs.Integer.{has_kind, long_of, ulong_of}
use Rattle.cil_base.proofs.KindLaws.{long_is, ulong_is, long4_is, ulong4_is}
use Rattle.type_graph.specs.declared.aggregates.Aggregate.{Aggregate}
use Rattle.type_graph.specs.declared.nodes.Quals.{Quals}
use Rattle.type_graph.specs.Shapes.{Shape, Shapes, VoidType, IntType, PtrType, ArrayType, FuncType, AggType, NoTypes, MoreTypes}
use Rattle.cil_tree.specs.Tree.{Program}
use Rattle.cil_tree.specs.Typing.{unqualified}
use Rattle.cil_tree.specs.WellFormedTypes.{are_parameters, is_parameter}
use Rattle.cil_tree.specs.Names.{is_name, tags}
use Rattle.cil_tree.specs.Declarators.{tag_text}
use Rattle.cil_text.specs.Words.{Word, LeftParen, RightParen, LeftBracket, RightBracket, Comma, Operator, VoidWord, Name, word_of, LongWord, UnsignedWord}
use Rattle.cil_text.specs.ReadTypes.{Reading, find, is_long, read_base, tag_base, Mark, Points, Group, is_star, heads, read_name, Layer, Pointer, Elements, Called, built, is_ellipsis, closed, is_closing, is_void_alone, skip_one, listed_first, read_more, read_params, read_called, is_suffix, read_suffix, layer_first, tails, named_as, declared_as, without_name, read_decl, Bases}
use Rattle.cil_text.proofs.WordsBack.{name_word, decimal_word, both}
use Rattle.cil_text.proofs.TypesBack.{kind_spelled, tag_spelled, base_spelled, grouped, before, bound_spelled, end_spelled, behind, called_spelled, more_spelled, type_spelled, IsBound, IsShape, AreShapes}
use Rattle.cil_text.specs.Known.{bases_of}

-- how many layers and parameters a type has
abbrev mutual
  pub size : Shape → ℕ
  size VoidType = 0
  size (IntType k) = 0
  size (PtrType q s) = 2 + size s
  size (ArrayType q s bound) = 1 + size s
  size (FuncType ret params proto variadic) = 1 + size ret + sizes params
  size (AggType a) = 0

  pub sizes : Shapes → ℕ
  sizes NoTypes = 0
  sizes (MoreTypes s more) = 1 + size s + sizes more

-- what base words begin with
abbrev Begins : List Word → Type 0
Begins ws = (is_star ws ≡ false) × (is_ellipsis ws ≡ false) × (is_closing ws ≡ false)

kind_begins : (k : IntKind) (rest : List Word) → Begins (kind_spelled k rest)
kind_begins k rest = elim k as (λ v. Begins (kind_spelled v rest)) [ kind.Bool ↦ (refl, refl, refl) | kind.Char ↦ (refl, refl, refl) | kind.SChar ↦ (refl, refl, refl) | kind.UChar ↦ (refl, refl, refl) | kind.Short ↦ (refl, refl, refl) | kind.UShort ↦ (refl, refl, refl) | kind.Int ↦ (refl, refl, refl) | kind.UInt ↦ (refl, refl, refl) | kind.Long ↦ (refl, refl, refl) | kind.ULong ↦ (refl, refl, refl) | kind.LLong ↦ (refl, refl, refl) | kind.ULLong ↦ (refl, refl, refl) | kind.Long4 ↦ (refl, refl, refl) | kind.ULong4 ↦ (refl, refl, refl) ]

tag_begins : (p : Program) (o : Option Aggregate) (x : Aggregate) (rest : List Word) → o ≡ Some x → Begins (tag_spelled p o rest)
tag_begins p None x rest e = absurd (cc e)
tag_begins p (Some y) x rest e = (refl, refl, refl)

pub base_begins : (p : Program) (s : Shape) (rest : List Word) → IsShape p s → Begins (base_spelled p s rest)
base_begins p VoidType rest is = (refl, refl, refl)
base_begins p (IntType k) rest is = kind_begins k rest
base_begins p (PtrType q s) rest is = base_begins p s rest is.1
base_begins p (ArrayType q s bound) rest is = base_begins p s rest is.2
base_begins p (FuncType ret params proto variadic) rest is = base_begins p ret rest is.0
base_begins p (AggType a) rest is = tag_begins p (slice_get p.graph.aggs a) is.0 rest is.1

-- base words are read back

abbrev pub base_of : Shape → Shape
base_of VoidType = VoidType
base_of (IntType k) = IntType k
base_of (PtrType q s) = base_of s
base_of (ArrayType q s bound) = base_of s
base_of (FuncType ret params proto variadic) = base_of ret
base_of (AggType a) = AggType a

kind_back : (b : Bases) (k : IntKind) (rest : List Word) → has_kind b.abi k ≡ true → is_long rest ≡ false → read_base b (kind_spelled k rest) ≡ Some (IntType k, rest)
kind_back b k rest h e = each k h
  where
    signed : (v : IntKind) → long_of b.abi ≡ v → read_base b (LongWord ∷ rest) ≡ Some (IntType v, rest)
    signed v i = ap (λ c. Some (cond c (IntType kind.LLong, skip_one rest) (IntType (long_of b.abi), rest))) e ∙ ap (λ (j : IntKind). Some (IntType j, rest)) i

    unsigned : (v : IntKind) → ulong_of b.abi ≡ v → read_base b (UnsignedWord ∷ LongWord ∷ rest) ≡ Some (IntType v, rest)
    unsigned v i = ap (λ c. Some (cond c (IntType kind.ULLong, skip_one rest) (IntType (ulong_of b.abi), rest))) e ∙ ap (λ (j : IntKind). Some (IntType j, rest)) i

    each : (k : IntKind) → has_kind b.abi k ≡ true → read_base b (kind_spelled k rest) ≡ Some (IntType k, rest)
    each k = elim k as (λ v. has_kind b.abi v ≡ true → read_base b (kind_spelled v rest) ≡ Some (IntType v, rest)) [
      | kind.Bool ↦ (λ i. refl)
      | kind.Char ↦ (λ i. refl)
      | kind.SChar ↦ (λ i. refl)
      | kind.UChar ↦ (λ i. refl)
      | kind.Short ↦ (λ i. refl)
      | kind.UShort ↦ (λ i. refl)
      | kind.Int ↦ (λ i. refl)
      | kind.UInt ↦ (λ i. refl)
      | kind.Long ↦ (λ i. signed kind.Long (long_is b.abi i))
      | kind.ULong ↦ (λ i. unsigned kind.ULong (ulong_is b.abi i))
      | kind.LLong ↦ (λ i. refl)
      | kind.ULLong ↦ (λ i. refl)
      | kind.Long4 ↦ (λ i. signed kind.Long4 (long4_is b.abi i))
      | kind.ULong4 ↦ (λ i. unsigned kind.ULong4 (ulong4_is b.abi i))
    ]

tag_back : (p : Program) (a : ℕ) (o : Option Aggregate) (x : Aggregate) (rest : List Word) → o ≡ Some x → is_name (tag_text p x) ≡ true → find (tag_text p x) (tags p) ≡ Some a → read_base (bases_of p) (tag_spelled p o rest) ≡ Some (AggType a, rest)
tag_back p a None x rest e named found = cc
tag_back p a (Some y) x rest e named found =
    let same : y ≡ x = cc in
    let word : word_of (tag_text p y) ≡ Name (tag_text p x) = ap (λ (z : Aggregate). word_of (tag_text p z)) same ∙ name_word (tag_text p x) named in
    ap (λ (w : Word). tag_base (tags p) (w ∷ rest)) word ∙ ap (option_map (λ (n : ℕ). (AggType n, rest))) found

pub base_back : (p : Program) (s : Shape) (rest : List Word) → IsShape p s → is_long rest ≡ false → read_base (bases_of p) (base_spelled p s rest) ≡ Some (base_of s, rest)
base_back p VoidType rest is e = refl
base_back p (IntType k) rest is e = kind_back (bases_of p) k rest is e
base_back p (PtrType q s) rest is e = base_back p s rest is.1 e
base_back p (ArrayType q s bound) rest is e = base_back p s rest is.2 e
base_back p (FuncType ret params proto variadic) rest is e = base_back p ret rest is.0 e
base_back p (AggType a) rest is e = tag_back p a (slice_get p.graph.aggs a) is.0 rest is.1 is.2 is.3

pub cond_both : {A : Type 0} (f : List Word → A) (b : Bool) (x y : List Word) (v : A) → f x ≡ v → f y ≡ v → f (cond b x y) ≡ v
cond_both f true x y v e g = e
cond_both f false x y v e g = g

before_short : (s : Shape) (rest : List Word) → is_long rest ≡ false → is_long (before s rest) ≡ false
before_short VoidType rest e = e
before_short (IntType k) rest e = e
before_short (PtrType q s) rest e = before_short s (cond (grouped s) (LeftParen ∷ Operator Mul ∷ rest) (Operator Mul ∷ rest)) (cond_both is_long (grouped s) (LeftParen ∷ Operator Mul ∷ rest) (Operator Mul ∷ rest) false refl refl)
before_short (ArrayType q s bound) rest e = before_short s rest e
before_short (FuncType ret params proto variadic) rest e = before_short ret rest e
before_short (AggType a) rest e = e

before_open : (s : Shape) (rest : List Word) → is_closing rest ≡ false → is_closing (before s rest) ≡ false
before_open VoidType rest e = e
before_open (IntType k) rest e = e
before_open (PtrType q s) rest e = before_open s (cond (grouped s) (LeftParen ∷ Operator Mul ∷ rest) (Operator Mul ∷ rest)) (cond_both is_closing (grouped s) (LeftParen ∷ Operator Mul ∷ rest) (Operator Mul ∷ rest) false refl refl)
before_open (ArrayType q s bound) rest e = before_open s rest e
before_open (FuncType ret params proto variadic) rest e = before_open ret rest e
before_open (AggType a) rest e = e

-- marks

abbrev pub marks_of : Shape → List Mark → List Mark
marks_of VoidType marks = marks
marks_of (IntType k) marks = marks
marks_of (PtrType q s) marks = Points ∷ cond (grouped s) (Group ∷ marks_of s marks) (marks_of s marks)
marks_of (ArrayType q s bound) marks = marks_of s marks
marks_of (FuncType ret params proto variadic) marks = marks_of ret marks
marks_of (AggType a) marks = marks

heads_back : (s : Shape) (marks : List Mark) (rest : List Word) → heads marks (before s rest) ≡ heads (marks_of s marks) rest
heads_back VoidType marks rest = refl
heads_back (IntType k) marks rest = refl
heads_back (PtrType q s) marks rest = heads_back s marks (cond (grouped s) (LeftParen ∷ Operator Mul ∷ rest) (Operator Mul ∷ rest)) ∙ by (grouped s)
  where
    by : (b : Bool) → heads (marks_of s marks) (cond b (LeftParen ∷ Operator Mul ∷ rest) (Operator Mul ∷ rest)) ≡ heads (Points ∷ cond b (Group ∷ marks_of s marks) (marks_of s marks)) rest
    by true = refl
    by false = refl
heads_back (ArrayType q s bound) marks rest = heads_back s marks rest
heads_back (FuncType ret params proto variadic) marks rest = heads_back ret marks rest
heads_back (AggType a) marks rest = refl

-- what stands behind a name

abbrev pub is_end : List Word → Bool
is_end (RightParen ∷ ws) = true
is_end (Comma ∷ ws) = true
is_end _ = false

-- no mark, no name and no `long` begins it
abbrev Plain : List Word → Type 0
Plain ws = ((marks : List Mark) → heads marks ws ≡ (marks, ws)) × (read_name ws ≡ (None, ws)) × (is_long ws ≡ false)

end_plain : (rest : List Word) → is_end rest ≡ true → Plain rest × (is_suffix rest ≡ false)
end_plain [] e = absurd (cc e)
end_plain (RightParen ∷ ws) e = ((λ m. refl, refl, refl), refl)
end_plain (Comma ∷ ws) e = ((λ m. refl, refl, refl), refl)
end_plain (w ∷ ws) e = absurd (cc e)

called_flat : (p : Program) (proto variadic : Bool) (params : Shapes) (rest : List Word) → AreShapes p params → is_star (called_spelled p proto variadic params rest) ≡ false
called_flat p false variadic params rest are = refl
called_flat p true variadic NoTypes rest are = refl
called_flat p true variadic (MoreTypes s more) rest are = (base_begins p s (before s (behind p s (more_spelled p more (end_spelled variadic rest)))) are.0).0

behind_plain : (p : Program) (s : Shape) (rest : List Word) → IsShape p s → Plain rest → Plain (behind p s rest)
behind_plain p VoidType rest is plain = plain
behind_plain p (IntType k) rest is plain = plain
behind_plain p (PtrType q s) rest is plain = by (grouped s) (behind_plain p s rest is.1 plain)
  where
    by : (b : Bool) → Plain (behind p s rest) → Plain (cond b (RightParen ∷ behind p s rest) (behind p s rest))
    by true h = (λ m. refl, refl, refl)
    by false h = h
behind_plain p (ArrayType q s bound) rest is plain = (λ m. refl, refl, refl)
behind_plain p (FuncType ret params proto variadic) rest is plain =
    (λ m. ap (λ b. cond b (heads (Group ∷ m) (called_spelled p proto variadic params (behind p ret rest))) (m, LeftParen ∷ called_spelled p proto variadic params (behind p ret rest))) (called_flat p proto variadic params (behind p ret rest) is.1), refl, refl)
behind_plain p (AggType a) rest is plain = plain

-- no suffix stands behind a type that needs no parenthesis
behind_stops : (p : Program) (s : Shape) (rest : List Word) → grouped s ≡ false → is_suffix rest ≡ false → is_suffix (behind p s rest) ≡ false
behind_stops p VoidType rest g e = e
behind_stops p (IntType k) rest g e = e
behind_stops p (PtrType q s) rest g e = by (grouped s) refl (λ h. behind_stops p s rest h e)
  where
    by : (b : Bool) → grouped s ≡ b → (grouped s ≡ false → is_suffix (behind p s rest) ≡ false) → is_suffix (cond b (RightParen ∷ behind p s rest) (behind p s rest)) ≡ false
    by true h more = refl
    by false h more = more h
behind_stops p (ArrayType q s bound) rest g e = cc
behind_stops p (FuncType ret params proto variadic) rest g e = cc
behind_stops p (AggType a) rest g e = e

-- layers

abbrev pub layers_of : Shape → List Layer → List Layer
layers_of VoidType more = more
layers_of (IntType k) more = more
layers_of (PtrType q s) more = Pointer ∷ layers_of s more
layers_of (ArrayType q s bound) more = Elements bound ∷ layers_of s more
layers_of (FuncType ret params proto variadic) more = Called params proto variadic ∷ layers_of ret more
layers_of (AggType a) more = more

built_back : (p : Program) (s : Shape) → IsShape p s → built (layers_of s []) (base_of s) ≡ s
built_back p VoidType is = refl
built_back p (IntType k) is = refl
built_back p (PtrType q s) is = ap (PtrType unqualified) (built_back p s is.1) ∙ ap (λ (x : Quals). PtrType x s) (sym is.0)
built_back p (ArrayType q s bound) is = ap (λ (x : Shape). ArrayType unqualified x bound) (built_back p s is.2) ∙ ap (λ (x : Quals). ArrayType x s bound) (sym is.0)
built_back p (FuncType ret params proto variadic) is = ap (λ (x : Shape). FuncType x params proto variadic) (built_back p ret is.0)
built_back p (AggType a) is = refl

suffix_step : (sub : List Word → Reading Shape) (k : ℕ) (marks : List Mark) (ws rest behind_it : List Word) (l : Layer) (ls : List Layer) → is_suffix ws ≡ true → read_suffix sub k ws ≡ Some (l, rest) → tails sub k marks rest ≡ Some (ls, behind_it) →
    tails sub (suc k) marks ws ≡ Some (l ∷ ls, behind_it)
suffix_step sub k marks ws rest behind_it l ls e f g = rw (e, f, g) refl

pop_step : (sub : List Word → Reading Shape) (k : ℕ) (marks : List Mark) (ws behind_it : List Word) (ls : List Layer) → is_suffix ws ≡ false → tails sub k marks ws ≡ Some (ls, behind_it) → tails sub (suc k) (Points ∷ marks) ws ≡ Some (Pointer ∷ ls, behind_it)
pop_step sub k marks ws behind_it ls e f = rw (e, f) refl

bound_back : (sub : List Word → Reading Shape) (k : ℕ) (bound : Option ℕ) (rest : List Word) → IsBound bound → read_suffix sub k (LeftBracket ∷ bound_spelled bound rest) ≡ Some (Elements bound, rest)
bound_back sub k None rest is = refl
bound_back sub k (Some n) rest is = ap (λ (w : Word). read_suffix sub k (LeftBracket ∷ w ∷ RightBracket ∷ rest)) (decimal_word n is)

-- parameters

-- what reads a parameter of fewer layers back
abbrev Good : Program → (List Word → Reading Shape) → ℕ → Type 0
Good p sub bound = (t : Shape) (rest : List Word) → size t + 2 ≤ bound → IsShape p t → is_end rest ≡ true → sub (type_spelled p t rest) ≡ Some (t, rest)

end_ends : (variadic : Bool) (rest : List Word) → is_end (end_spelled variadic rest) ≡ true
end_ends true rest = refl
end_ends false rest = refl

more_ends : (p : Program) (more : Shapes) (variadic : Bool) (rest : List Word) → is_end (more_spelled p more (end_spelled variadic rest)) ≡ true
more_ends p NoTypes variadic rest = end_ends variadic rest
more_ends p (MoreTypes s more) variadic rest = refl

params_back : (p : Program) (sub : List Word → Reading Shape) (bound : ℕ) → Good p sub bound → (s : Shape) (more : Shapes) (k : ℕ) (variadic : Bool) (rest : List Word) →
    sizes (MoreTypes s more) + 1 ≤ bound → sizes (MoreTypes s more) ≤ k → IsShape p s → AreShapes p more →
    read_params sub k (type_spelled p s (more_spelled p more (end_spelled variadic rest))) ≡ Some ((MoreTypes s more, variadic), rest)
params_back p sub bound good s more zero variadic rest low enough is are = absurd (omega arith)
params_back p sub bound good s NoTypes (suc k) variadic rest low enough is are =
    ap (λ (o : Reading Shape). option_and_then (λ (r : Shape × List Word). read_more (read_params sub k) r.0 r.1) o) (good s (end_spelled variadic rest) (omega arith) is (end_ends variadic rest)) ∙ by variadic
  where
    by : (v : Bool) → read_more (read_params sub k) s (end_spelled v rest) ≡ Some ((MoreTypes s NoTypes, v), rest)
    by true = refl
    by false = refl
params_back p sub bound good s (MoreTypes t more) (suc k) variadic rest low enough is are =
    let others = type_spelled p t (more_spelled p more (end_spelled variadic rest)) in
    ap (λ (o : Reading Shape). option_and_then (λ (r : Shape × List Word). read_more (read_params sub k) r.0 r.1) o) (good s (Comma ∷ others) (omega arith) is refl)
    ∙ ap (λ b. cond b (closed (MoreTypes s NoTypes, true) (skip_one others)) (option_map (listed_first s) (read_params sub k others))) (base_begins p t (before t (behind p t (more_spelled p more (end_spelled variadic rest)))) are.0).1
    ∙ ap (option_map (listed_first s)) (params_back p sub bound good t more k variadic rest (omega arith) (omega arith) are.0 are.1)

alone : (rest : List Word) → is_closing rest ≡ false → is_void_alone (VoidWord ∷ rest) ≡ false
alone [] e = refl
alone (RightParen ∷ ws) e = absurd (cc e)
alone (w ∷ ws) e = refl

kind_told : (k : IntKind) (rest : List Word) → is_void_alone (kind_spelled k rest) ≡ false
kind_told k rest = elim k as (λ v. is_void_alone (kind_spelled v rest) ≡ false) [ kind.Bool ↦ refl | kind.Char ↦ refl | kind.SChar ↦ refl | kind.UChar ↦ refl | kind.Short ↦ refl | kind.UShort ↦ refl | kind.Int ↦ refl | kind.UInt ↦ refl | kind.Long ↦ refl | kind.ULong ↦ refl | kind.LLong ↦ refl | kind.ULLong ↦ refl | kind.Long4 ↦ refl | kind.ULong4 ↦ refl ]

tag_told : (p : Program) (o : Option Aggregate) (x : Aggregate) (rest : List Word) → o ≡ Some x → is_void_alone (tag_spelled p o rest) ≡ false
tag_told p None x rest e = absurd (cc e)
tag_told p (Some y) x rest e = refl

base_told : (p : Program) (s : Shape) (rest : List Word) → IsShape p s → is_closing rest ≡ false → is_void_alone (base_spelled p s rest) ≡ false
base_told p VoidType rest is e = alone rest e
base_told p (IntType k) rest is e = kind_told k rest
base_told p (PtrType q s) rest is e = base_told p s rest is.1 e
base_told p (ArrayType q s bound) rest is e = base_told p s rest is.2 e
base_told p (FuncType ret params proto variadic) rest is e = base_told p ret rest is.0 e
base_told p (AggType a) rest is e = tag_told p (slice_get p.graph.aggs a) is.0 rest is.1

-- a parameter is not `void` alone
parameter_told : (p : Program) (s : Shape) (rest : List Word) → is_parameter s ≡ true → IsShape p s → is_void_alone (type_spelled p s rest) ≡ false
parameter_told p VoidType rest e is = absurd (cc e)
parameter_told p (IntType k) rest e is = kind_told k rest
parameter_told p (PtrType q s) rest e is =
    let words = cond (grouped s) (LeftParen ∷ Operator Mul ∷ behind p (PtrType q s) rest) (Operator Mul ∷ behind p (PtrType q s) rest) in
    base_told p s (before s words) is.1 (before_open s words (cond_both is_closing (grouped s) (LeftParen ∷ Operator Mul ∷ behind p (PtrType q s) rest) (Operator Mul ∷ behind p (PtrType q s) rest) false refl refl))
parameter_told p (ArrayType q s bound) rest e is = absurd (cc e)
parameter_told p (FuncType ret params proto variadic) rest e is = absurd (cc e)
parameter_told p (AggType a) rest e is = tag_told p (slice_get p.graph.aggs a) is.0 rest is.1

called_back : (p : Program) (sub : List Word → Reading Shape) (bound : ℕ) → Good p sub bound → (ret : Shape) (params : Shapes) (proto variadic : Bool) (k : ℕ) (rest : List Word) →
    sizes params + 1 ≤ bound → sizes params ≤ k → IsShape p (FuncType ret params proto variadic) →
    read_called sub k (called_spelled p proto variadic params rest) ≡ Some (Called params proto variadic, rest)
called_back p sub bound good ret NoTypes false false k rest low enough is = refl
called_back p sub bound good ret NoTypes false true k rest low enough is = absurd (cc is.3)
called_back p sub bound good ret (MoreTypes s more) false variadic k rest low enough is = absurd (cc is.3)
called_back p sub bound good ret NoTypes true false k rest low enough is = refl
called_back p sub bound good ret NoTypes true true k rest low enough is = absurd (cc is.3)
called_back p sub bound good ret (MoreTypes s more) true variadic k rest low enough is =
    let words = type_spelled p s (more_spelled p more (end_spelled variadic rest)) in
    rw (
      (base_begins p s (before s (behind p s (more_spelled p more (end_spelled variadic rest)))) is.1.0).2,
      parameter_told p s (more_spelled p more (end_spelled variadic rest)) (both (is_parameter s) (are_parameters more) is.2).0 is.1.0,
      params_back p sub bound good s more k variadic rest low enough is.1.0 is.1.1,
    ) refl

tails_back : (p : Program) (sub : List Word → Reading Shape) (bound : ℕ) → Good p sub bound → (s : Shape) (j k : ℕ) (marks : List Mark) (rest behind_it : List Word) (ls : List Layer) →
    size s + 1 ≤ bound → size s + j ≤ k → IsShape p s → is_suffix rest ≡ false → ((i : ℕ) → j ≤ i → tails sub i marks rest ≡ Some (ls, behind_it)) →
    tails sub k (marks_of s marks) (behind p s rest) ≡ Some (layers_of s ls, behind_it)
tails_back p sub bound good VoidType j k marks rest behind_it ls low enough is stops more = more k (omega arith)
tails_back p sub bound good (IntType kind) j k marks rest behind_it ls low enough is stops more = more k (omega arith)
tails_back p sub bound good (AggType a) j k marks rest behind_it ls low enough is stops more = more k (omega arith)
tails_back p sub bound good (PtrType q s) j zero marks rest behind_it ls low enough is stops more = absurd (omega arith)
tails_back p sub bound good (PtrType q s) j (suc zero) marks rest behind_it ls low enough is stops more = absurd (omega arith)
tails_back p sub bound good (PtrType q s) j (suc (suc k)) marks rest behind_it ls low enough is stops more =
    by (grouped s) refl (tails_back p sub bound good s j k marks rest behind_it ls (omega arith) (omega arith) is.1 stops more) (tails_back p sub bound good s j (suc k) marks rest behind_it ls (omega arith) (omega arith) is.1 stops more)
  where
    by : (b : Bool) → grouped s ≡ b → tails sub k (marks_of s marks) (behind p s rest) ≡ Some (layers_of s ls, behind_it) → tails sub (suc k) (marks_of s marks) (behind p s rest) ≡ Some (layers_of s ls, behind_it) →
        tails sub (suc (suc k)) (Points ∷ cond b (Group ∷ marks_of s marks) (marks_of s marks)) (cond b (RightParen ∷ behind p s rest) (behind p s rest)) ≡ Some (Pointer ∷ layers_of s ls, behind_it)
    by true h deep near = ap (option_map (layer_first Pointer)) deep
    by false h deep near = pop_step sub (suc k) (marks_of s marks) (behind p s rest) behind_it (layers_of s ls) (behind_stops p s rest h stops) near
tails_back p sub bound good (ArrayType q s n) j zero marks rest behind_it ls low enough is stops more = absurd (omega arith)
tails_back p sub bound good (ArrayType q s n) j (suc k) marks rest behind_it ls low enough is stops more =
    suffix_step sub k (marks_of s marks) (LeftBracket ∷ bound_spelled n (behind p s rest)) (behind p s rest) behind_it (Elements n) (layers_of s ls) refl
    (bound_back sub k n (behind p s rest) is.1)
    (tails_back p sub bound good s j k marks rest behind_it ls (omega arith) (omega arith) is.2 stops more)
tails_back p sub bound good (FuncType ret params proto variadic) j zero marks rest behind_it ls low enough is stops more = absurd (omega arith)
tails_back p sub bound good (FuncType ret params proto variadic) j (suc k) marks rest behind_it ls low enough is stops more =
    suffix_step sub k (marks_of ret marks) (LeftParen ∷ called_spelled p proto variadic params (behind p ret rest)) (behind p ret rest) behind_it (Called params proto variadic) (layers_of ret ls) refl
    (called_back p sub bound good ret params proto variadic k (behind p ret rest) (omega arith) (omega arith) is)
    (tails_back p sub bound good ret j k marks rest behind_it ls (omega arith) (omega arith) is.0 stops more)

-- no mark is left
tails_end : (sub : List Word → Reading Shape) (rest : List Word) → is_suffix rest ≡ false → (i : ℕ) → 1 ≤ i → tails sub i [] rest ≡ Some ([], rest)
tails_end sub rest e zero some = absurd (omega arith)
tails_end sub rest e (suc i) some = rw e refl

-- declarators whose heads end at some words with or without a name
whole_back : (p : Program) (sub : List Word → Reading Shape) (n : ℕ) (s : Shape) (name : Option (List ℕ)) (words rest : List Word) → Good p sub n → size s + 1 ≤ n → IsShape p s → is_suffix rest ≡ false → is_long words ≡ false →
    ((marks : List Mark) → heads marks words ≡ (marks, words)) → read_name words ≡ (name, behind p s rest) →
    option_and_then (declared_as sub n) (read_base (bases_of p) (base_spelled p s (before s words))) ≡ Some ((s, name), rest)
whole_back p sub n s name words rest good low is stops short flat named =
    ap (option_and_then (declared_as sub n)) (base_back p s (before s words) is (before_short s words short))
    ∙ ap (λ (h : List Mark × List Word). option_map (named_as (base_of s) (read_name h.1).0) (tails sub n h.0 (read_name h.1).1)) (heads_back s [] words ∙ flat (marks_of s []))
    ∙ ap (λ (x : Option (List ℕ) × List Word). option_map (named_as (base_of s) x.0) (tails sub n (marks_of s []) x.1)) named
    ∙ ap (option_map (named_as (base_of s) name)) (tails_back p sub n good s 1 n [] rest rest [] low (omega arith) is stops (tails_end sub rest stops))
    ∙ ap (λ (x : Shape). Some ((x, name), rest)) (built_back p s is)

pub abstract_back : (p : Program) (n : ℕ) (s : Shape) (rest : List Word) → size s + 2 ≤ n → IsShape p s → is_end rest ≡ true → read_decl (bases_of p) n (type_spelled p s rest) ≡ Some ((s, None), rest)
abstract_back p zero s rest low is e = absurd (omega arith)
abstract_back p (suc n) s rest low is e =
    let plain = behind_plain p s rest is (end_plain rest e).0 in
    whole_back p (λ vs. option_map without_name (read_decl (bases_of p) n vs)) n s None (behind p s rest) rest
    (λ t after small it ends. ap (option_map without_name) (abstract_back p n t after small it ends))
    (omega arith) is (end_plain rest e).1 plain.2 plain.0 plain.1

pub named_back : (p : Program) (n : ℕ) (s : Shape) (name : List ℕ) (rest : List Word) → size s + 2 ≤ n → IsShape p s → is_suffix rest ≡ false →
    read_decl (bases_of p) n (base_spelled p s (before s (Name name ∷ behind p s rest))) ≡ Some ((s, Some name), rest)
named_back p zero s name rest low is e = absurd (omega arith)
named_back p (suc n) s name rest low is e =
    whole_back p (λ vs. option_map without_name (read_decl (bases_of p) n vs)) n s (Some name) (Name name ∷ behind p s rest) rest
    (λ t after small it ends. ap (option_map without_name) (abstract_back p n t after small it ends))
    (omega arith) is e refl (λ m. refl) refl
