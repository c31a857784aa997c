-- Device: what the parts of declarations are.
use Rattle.std.proofs.Common.{◌≡◌, ℕ, zero, suc, ◌<◌, ◌≤◌, Bool, true, false, List, [], ◌∷◌, ◌++◌, Option, Some, None, length, slice_get, get_or, drop, codes, refl, sym, ap, ◌∙◌, append-nil, cond, arith}
use Rattle.cil_base.specs.declared.kinds.IntKind.{IntKind}
use Rattle.cil_base.specs.declared.kinds.IntKind.TheVariants.{Bool as Boolean, Char, SChar, UChar, Short, UShort, Int as int, UInt, Long, ULong, LLong, ULLong, Long4, ULong4}
use Rattle.cil_base.specs.declared.numbers.TypeId.{TypeId}
use Rattle.cil_base.specs.Integer.{words_of}
use Rattle.type_graph.specs.declared.aggregates.Aggregate.{Aggregate}
use Rattle.type_graph.specs.declared.nodes.QualType.{QualType}
use Rattle.type_graph.specs.declared.nodes.Node.{Node}
use Rattle.type_graph.specs.declared.nodes.Node.TheVariants.{Void, Int, Ptr, Array, Func, Agg}
use Rattle.type_graph.specs.Shapes.{Shape, shape, shape_of, shapes_of}
use Rattle.type_graph.specs.Arena.{IsArena, NamesBelow, EachType}
use Rattle.type_graph.proofs.ShapeLaws.{shape_is}
use Rattle.cil_tree.specs.Tree.{Program}
use Rattle.cil_tree.specs.Lines.{Token}
use Rattle.cil_tree.specs.Declarators.{kind_words, aggregate_words, tagged, separated, listed, ended, declared, all_declared, in_parentheses, bound_tokens}
use Rattle.cil_tree.specs.Text.{in_brackets}
use Rattle.cil_printer.specs.declared.sides.Sides.{Sides}
use Rattle.cil_printer.specs.Output.{Output, put, puts, counts, capped}
use Rattle.cil_printer.specs.Spaced.{spaced}
use Rattle.cil_printer.specs.Sides.{is_grouped, star, star_end, before, after, following, type_parts, AreSides, IsEntry}
use Rattle.cil_printer.proofs.Puts.{puts-puts, nothing_pushed, two_pushed}
use Rattle.cil_printer.proofs.Declared.{declared_is}

-- the words of a kind, with the blanks between them, are one after the other
kind_spaced : (kind : IntKind) → spaced (kind_words kind) ≡ words_of kind ++ 32 ∷ []
kind_spaced Boolean = refl
kind_spaced Char = refl
kind_spaced SChar = refl
kind_spaced UChar = refl
kind_spaced Short = refl
kind_spaced UShort = refl
kind_spaced int = refl
kind_spaced UInt = refl
kind_spaced Long = refl
kind_spaced ULong = refl
kind_spaced LLong = refl
kind_spaced ULLong = refl
kind_spaced Long4 = refl
kind_spaced ULong4 = refl

pub kind_pushed : (o a : Output) (kind : IntKind) (words : List ℕ) → words ≡ words_of kind → a ≡ puts o (words ∷ []) → a ≡ puts o (kind_words kind)
unfolding puts
kind_pushed o a kind words e h = h ∙ ap (λ w. put o (w ++ 32 ∷ [])) e ∙ ap (put o) (sym (kind_spaced kind))

abbrev is_started : List Token → Bool
is_started [] = false
is_started (x ∷ xs) = true

started_append : (xs ys : List Token) → is_started xs ≡ true → is_started (xs ++ ys) ≡ true
started_append [] ys e = cc
started_append (x ∷ xs) ys e = refl

kind_started : (kind : IntKind) → is_started (kind_words kind) ≡ true
kind_started Boolean = refl
kind_started Char = refl
kind_started SChar = refl
kind_started UChar = refl
kind_started Short = refl
kind_started UShort = refl
kind_started int = refl
kind_started UInt = refl
kind_started Long = refl
kind_started ULong = refl
kind_started LLong = refl
kind_started ULLong = refl
kind_started Long4 = refl
kind_started ULong4 = refl

there : {A : Type 0} (xs : List A) (i : ℕ) → i < length xs → (x : A) × (slice_get xs i ≡ Some x)
there [] i h = absurd (omega arith)
there (x ∷ xs) zero h = (x, refl)
there (x ∷ xs) (suc i) h = there xs i (omega arith)

aggregate_started : (p : Program) (a : ℕ) → a < length p.graph.aggs → is_started (aggregate_words p a) ≡ true
aggregate_started p a h = let x = there p.graph.aggs a h in ap (λ (o : Option Aggregate). is_started (elim o [ None ↦ [] | Some x ↦ tagged p x ])) x.1

node_started : (p : Program) (t : ℕ) (n : Node) → ((u : ℕ) → u < t → is_started (before p (shape p.graph.nodes u)) ≡ true) → NamesBelow t (length p.graph.aggs) n → is_started (before p (shape_of (shape p.graph.nodes) n)) ≡ true
node_started p t Void again b = refl
node_started p t (Int kind) again b = kind_started kind
node_started p t (Ptr q) again b = started_append (before p (shape p.graph.nodes q.of.0)) (star (shape p.graph.nodes q.of.0)) (again q.of.0 b)
node_started p t (Array q bound) again b = again q.of.0 b
node_started p t (Func proto variadic ret params) again b = again ret.0 b.0
node_started p t (Agg a) again b = aggregate_started p a.0 b

-- a type of an arena has a token before what it declares
before_started : (p : Program) → IsArena p.graph → (k t : ℕ) → t < k → t < length p.graph.nodes → is_started (before p (shape p.graph.nodes t)) ≡ true
before_started p is zero t h i = absurd (omega arith)
before_started p is (suc k) t h i = let n = there p.graph.nodes t i in
    ap (λ s. is_started (before p s)) (shape_is p.graph.nodes t (length p.graph.aggs) n.0 n.1 (is.grounded t n.0 n.1))
    ∙ node_started p t n.0 (λ u b. before_started p is k u (omega (arith, h, b)) (omega (arith, i, b))) (is.grounded t n.0 n.1)

declared_started : (p : Program) → IsArena p.graph → (t : ℕ) → t < length p.graph.nodes → (inner : List Token) → is_started (declared p (shape p.graph.nodes t) inner) ≡ true
declared_started p is t h inner = ap is_started (declared_is p (shape p.graph.nodes t) inner) ∙ started_append (before p (shape p.graph.nodes t)) (inner ++ after p (shape p.graph.nodes t)) (before_started p is (suc t) t (omega arith) h)

-- what follows a part
separated_more : (xs ys zs : List Token) → is_started ys ≡ true → separated xs (ys ++ zs) ≡ xs ++ codes "," ∷ (ys ++ zs)
separated_more xs [] zs e = cc
separated_more xs (y ∷ ys) zs e = refl

-- parameters are the first and those that follow it
pub parameters_are : (p : Program) → IsArena p.graph → (t : TypeId) (ts : List TypeId) → EachType (length p.graph.nodes) ts →
    all_declared p (shapes_of (shape p.graph.nodes) (t ∷ ts)) ≡ declared p (shape p.graph.nodes t.0) [] ++ following (type_parts p ts)
parameters_are p is t [] each = sym (append-nil (declared p (shape p.graph.nodes t.0) []))
parameters_are p is t (u ∷ ts) each =
    ap (separated (declared p (shape p.graph.nodes t.0) [])) (parameters_are p is u ts each.1)
    ∙ separated_more (declared p (shape p.graph.nodes t.0) []) (declared p (shape p.graph.nodes u.0) []) (following (type_parts p ts)) (declared_started p is u.0 each.0 [])

-- what is printed of a type and its parts
pub type_pushed : (o a b : Output) (p : Program) (s : Shape) → a ≡ puts o (before p s) → b ≡ puts a (after p s) → b ≡ puts o (declared p s [])
type_pushed o a b p s ea eb = simp (eb, ea, puts-puts, declared_is p s [])

-- types behind a comma each
pub following_from : (o a b : Output) (p : Program) (ts : List TypeId) (i j : ℕ) (d : TypeId) → j ≡ suc i → i < length ts → a ≡ puts o (codes "," ∷ []) → b ≡ puts a (declared p (shape p.graph.nodes (get_or ts i d).0) []) →
    puts b (following (type_parts p (drop j ts))) ≡ puts o (following (type_parts p (drop i ts)))
following_from o a b p ts i j d e h ea eb =
    ap (λ k. puts b (following (type_parts p (drop k ts)))) e ∙ ap (λ k. puts k (following (type_parts p (drop (suc i) ts)))) (two_pushed o a b (codes "," ∷ []) (declared p (shape p.graph.nodes (get_or ts i d).0) []) ea eb)
    ∙ puts-puts o (codes "," ∷ declared p (shape p.graph.nodes (get_or ts i d).0) []) (following (type_parts p (drop (suc i) ts))) ∙ ap (puts o) (sym (parts_from p ts i d h))
  where
    parts_from : (p : Program) (ts : List TypeId) (i : ℕ) (d : TypeId) → i < length ts → following (type_parts p (drop i ts)) ≡ codes "," ∷ (declared p (shape p.graph.nodes (get_or ts i d).0) [] ++ following (type_parts p (drop (suc i) ts)))
    parts_from p [] i d h = absurd (omega arith)
    parts_from p (t ∷ ts) zero d h = refl
    parts_from p (t ∷ ts) (suc i) d h = parts_from p ts i d (omega arith)

pub entry_is : (o : Output) (p : Program) (sides : List Sides) (t : ℕ) (x : Sides) → AreSides sides p → counts o ≡ true → slice_get sides t ≡ Some x → IsEntry o p t x
entry_is o p sides t x table c e = record { counted = c; before = table.before t x e; after = table.after t x e }

pub aggregate_at : (o a : Output) (p : Program) (k : ℕ) (x : Aggregate) → slice_get p.graph.aggs k ≡ Some x → a ≡ puts o (tagged p x) → a ≡ puts o (aggregate_words p k)
aggregate_at o a p k x e h = h ∙ ap (λ (y : Option Aggregate). puts o (elim y [ None ↦ [] | Some x ↦ tagged p x ])) (sym e)

pub star_grouped : (o : Output) (s : Shape) → is_grouped s ≡ true → puts o (star s) ≡ puts o (codes "(" ∷ codes "*" ∷ [])
star_grouped o s e = ap (λ b. puts o (cond b (codes "(" ∷ codes "*" ∷ []) (codes "*" ∷ []))) e

pub star_alone : (o : Output) (s : Shape) → is_grouped s ≡ false → puts o (star s) ≡ puts o (codes "*" ∷ [])
star_alone o s e = ap (λ b. puts o (cond b (codes "(" ∷ codes "*" ∷ []) (codes "*" ∷ []))) e

pub end_grouped : (o : Output) (s : Shape) → is_grouped s ≡ true → puts o (star_end s) ≡ puts o (codes ")" ∷ [])
end_grouped o s e = ap (λ b. puts o (cond b (codes ")" ∷ []) [])) e

pub end_alone : (o : Output) (s : Shape) → is_grouped s ≡ false → o ≡ puts o (star_end s)
end_alone o s e = nothing_pushed o ∙ ap (λ b. puts o (cond b (codes ")" ∷ []) [])) (sym e)

-- an entry of the table counts what it stands for
pub entry_added : (o a : Output) (p : Program) (t : ℕ) (x : Sides) → IsEntry o p t x → ((bytes : List ℕ) → x.before ≡ capped (length bytes) → a ≡ put o bytes) → a ≡ puts o (before p (shape p.graph.nodes t))
unfolding puts
entry_added o a p t x e h = h (spaced (before p (shape p.graph.nodes t))) e.before

pub entry_added_after : (o a : Output) (p : Program) (t : ℕ) (x : Sides) → IsEntry o p t x → ((bytes : List ℕ) → x.behind ≡ capped (length bytes) → a ≡ put o bytes) → a ≡ puts o (after p (shape p.graph.nodes t))
unfolding puts
entry_added_after o a p t x e h = h (spaced (after p (shape p.graph.nodes t))) e.after

pub no_bound : (o : Output) (bound : Option ℕ) → bound ≡ None → puts o (bound_tokens bound) ≡ o
no_bound o bound e = ap (λ (b : Option ℕ). puts o (bound_tokens b)) e ∙ sym (nothing_pushed o)

pub no_dots : (o : Output) (variadic : Bool) → variadic ≡ false → puts o (ended variadic []) ≡ o
no_dots o variadic e = ap (λ b. puts o (ended b [])) e ∙ sym (nothing_pushed o)

-- a prototype's parameters as they are printed
pub parameters_pushed : (o a b c : Output) (p : Program) → IsArena p.graph → (k : ℕ) (first : TypeId) (rest : List TypeId) (variadic : Bool) → k < length p.graph.nodes → EachType k rest → first.0 < k →
    a ≡ puts o (declared p (shape p.graph.nodes first.0) []) → b ≡ puts a (following (type_parts p rest)) → c ≡ puts b (ended variadic []) →
    c ≡ puts o (listed true variadic (all_declared p (shapes_of (shape p.graph.nodes) (first ∷ rest))))
parameters_pushed o a b c p is k first rest variadic h each below ea eb ec =
    simp (ec, eb, ea, puts-puts) (ap (puts o) (whole variadic (declared p (shape p.graph.nodes first.0) []) (following (type_parts p rest)) (declared_started p is first.0 (omega (arith, h, below)) [])
    ∙ ap (listed true variadic) (sym (parameters_are p is first rest (each_more k (length p.graph.nodes) rest h each)))))
  where
    each_more : (k n : ℕ) (ts : List TypeId) → k < n → EachType k ts → EachType n ts
    each_more k n [] h e = e
    each_more k n (t ∷ ts) h e = (omega (arith, h, e.0), each_more k n ts h e.1)

    whole : (variadic : Bool) (xs ys : List Token) → is_started xs ≡ true → (xs ++ ys) ++ ended variadic [] ≡ listed true variadic (xs ++ ys)
    whole variadic [] ys e = cc
    whole true (x ∷ xs) ys e = refl
    whole false (x ∷ xs) ys e = append-nil ((x ∷ xs) ++ ys)

pub each_at : (k : ℕ) (ts : List TypeId) (i : ℕ) (d : TypeId) → EachType k ts → i < length ts → (get_or ts i d).0 < k
each_at k [] i d e h = absurd (omega arith)
each_at k (t ∷ ts) zero d e h = e.0
each_at k (t ∷ ts) (suc i) d e h = each_at k ts i d e.1 (omega arith)

pub following_end : (o x : Output) (p : Program) (ts : List TypeId) (i : ℕ) → length ts ≤ i → puts o (following (type_parts p (drop i ts))) ≡ x → o ≡ x
following_end o x p ts i h e = nothing_pushed o ∙ ap (λ us. puts o (following (type_parts p us))) (sym (past ts i h)) ∙ e
  where
    past : (ts : List TypeId) (i : ℕ) → length ts ≤ i → drop i ts ≡ []
    past [] zero h = refl
    past [] (suc i) h = refl
    past (t ∷ ts) zero h = absurd (omega arith)
    past (t ∷ ts) (suc i) h = past ts i (omega arith)

pub no_prototype : (o : Output) (proto variadic : Bool) (xs : List Token) → proto ≡ false → o ≡ puts o (listed proto variadic xs)
no_prototype o proto variadic xs e = nothing_pushed o ∙ ap (λ b. puts o (listed b variadic xs)) (sym e)

pub array_after : (o a b : Output) (p : Program) (at : ℕ → Shape) (s : Shape) (n : Node) (q : QualType) (bound : Option ℕ) → s ≡ shape_of at n → n ≡ Array q bound →
    a ≡ puts o (in_brackets (bound_tokens bound)) → b ≡ puts a (after p (at q.of.0)) → b ≡ puts o (after p s)
array_after o a b p at s n q bound e is ea eb = two_pushed o a b (in_brackets (bound_tokens bound)) (after p (at q.of.0)) ea eb ∙ ap (λ t. puts o (after p t)) (sym (e ∙ ap (shape_of at) is))

pub function_after : (o a b : Output) (p : Program) (at : ℕ → Shape) (s : Shape) (n : Node) (ret : TypeId) (params : List TypeId) (proto variadic : Bool) → s ≡ shape_of at n → n ≡ Func proto variadic ret params →
    a ≡ puts o (in_parentheses (listed proto variadic (all_declared p (shapes_of at params)))) → b ≡ puts a (after p (at ret.0)) → b ≡ puts o (after p s)
function_after o a b p at s n ret params proto variadic e is ea eb =
    two_pushed o a b (in_parentheses (listed proto variadic (all_declared p (shapes_of at params)))) (after p (at ret.0)) ea eb ∙ ap (λ t. puts o (after p t)) (sym (e ∙ ap (shape_of at) is))
