-- Device: what is printed of functions' definitions.
use Rattle.std.proofs.Common.{◌≡◌, ℕ, zero, suc, ◌<◌, ◌≤◌, min, Bool, true, false, List, [], ◌∷◌, ◌++◌, length, get_or, drop, map, codes, refl, sym, ap, ◌∙◌, append-nil, arith}
use Rattle.cil_base.specs.declared.numbers.NameId.{NameId}
use Rattle.cil_base.specs.declared.numbers.TypeId.{TypeId}
use Rattle.type_graph.specs.Shapes.{Shape, shape, shapes_of}
use Rattle.cil_tree.specs.Tree.{Program}
use Rattle.cil_tree.specs.View.{text_at}
use Rattle.cil_tree.specs.Lines.{Token}
use Rattle.cil_tree.specs.Declarators.{separated, listed, ended, declared}
use Rattle.cil_tree.specs.Text.{parameter_tokens}
use Rattle.cil_printer.specs.Output.{Output, puts}
use Rattle.cil_printer.specs.Sides.{following, before, after}
use Rattle.cil_printer.specs.Seen.{named_parts}
use Rattle.cil_printer.proofs.Puts.{puts-puts, nothing_pushed, two_pushed}
use Rattle.cil_printer.proofs.Declared.{declared_is}

abbrev is_started : List Token → Bool
is_started [] = false
is_started (x ∷ xs) = true

around_started : (xs ys : List Token) (x : Token) → is_started (xs ++ x ∷ ys) ≡ true
around_started [] ys x = refl
around_started (y ∷ xs) ys x = refl

named_started : (p : Program) (s : Shape) (name : Token) → is_started (declared p s (name ∷ [])) ≡ true
named_started p s name = ap is_started (declared_is p s (name ∷ [])) ∙ around_started (before p s) (after p s) name

separated_more : (xs ys zs : List Token) → is_started ys ≡ true → separated xs (ys ++ zs) ≡ xs ++ codes "," ∷ (ys ++ zs)
separated_more xs [] zs e = cc
separated_more xs (y ∷ ys) zs e = refl

parameters_are : (p : Program) (t : TypeId) (ts : List TypeId) (n : NameId) (ns : List NameId) →
    parameter_tokens p (shapes_of (shape p.graph.nodes) (t ∷ ts)) (map (text_at p.names) (n ∷ ns)) ≡ declared p (shape p.graph.nodes t.0) (text_at p.names n ∷ []) ++ following (named_parts p ts ns)
parameters_are p t [] n ns = sym (append-nil (declared p (shape p.graph.nodes t.0) (text_at p.names n ∷ [])))
parameters_are p t (u ∷ ts) n [] = sym (append-nil (declared p (shape p.graph.nodes t.0) (text_at p.names n ∷ [])))
parameters_are p t (u ∷ ts) n (m ∷ ns) =
    ap (separated (declared p (shape p.graph.nodes t.0) (text_at p.names n ∷ []))) (parameters_are p u ts m ns)
    ∙ separated_more (declared p (shape p.graph.nodes t.0) (text_at p.names n ∷ [])) (declared p (shape p.graph.nodes u.0) (text_at p.names m ∷ [])) (following (named_parts p ts ns)) (named_started p (shape p.graph.nodes u.0) (text_at p.names m))

listed_more : (variadic : Bool) (xs ys : List Token) → is_started xs ≡ true → (xs ++ ys) ++ ended variadic [] ≡ listed true variadic (xs ++ ys)
listed_more variadic [] ys e = cc
listed_more true (x ∷ xs) ys e = refl
listed_more false (x ∷ xs) ys e = append-nil ((x ∷ xs) ++ ys)

pub parameters_pushed : (o a b c : Output) (p : Program) (t : TypeId) (ts : List TypeId) (n : NameId) (ns : List NameId) (variadic : Bool) →
    a ≡ puts o (declared p (shape p.graph.nodes t.0) (text_at p.names n ∷ [])) → b ≡ puts a (following (named_parts p ts ns)) → c ≡ puts b (ended variadic []) →
    c ≡ puts o (listed true variadic (parameter_tokens p (shapes_of (shape p.graph.nodes) (t ∷ ts)) (map (text_at p.names) (n ∷ ns))))
parameters_pushed o a b c p t ts n ns variadic ea eb ec =
    simp (ec, eb, ea, puts-puts) (ap (puts o) (listed_more variadic (declared p (shape p.graph.nodes t.0) (text_at p.names n ∷ [])) (following (named_parts p ts ns)) (named_started p (shape p.graph.nodes t.0) (text_at p.names n)) ∙ ap (listed true variadic) (sym (parameters_are p t ts n ns))))

pub void_types : (o : Output) (p : Program) (ts : List TypeId) (ns : List NameId) (proto variadic : Bool) → proto ≡ true → length ts < 1 → puts o (listed proto variadic (parameter_tokens p (shapes_of (shape p.graph.nodes) ts) (map (text_at p.names) ns))) ≡ puts o (codes "void" ∷ [])
void_types o p [] ns proto variadic e h = ap (λ b. puts o (listed b variadic [])) e
void_types o p (t ∷ ts) ns proto variadic e h = absurd (omega (arith, h))

pub void_names : (o : Output) (p : Program) (t : TypeId) (ts : List TypeId) (ns : List NameId) (variadic : Bool) → length ns < 1 → puts o (listed true variadic (parameter_tokens p (shapes_of (shape p.graph.nodes) (t ∷ ts)) (map (text_at p.names) ns))) ≡ puts o (codes "void" ∷ [])
void_names o p t ts [] variadic h = refl
void_names o p t ts (n ∷ ns) variadic h = absurd (omega (arith, h))

pub named_from : (o a b : Output) (p : Program) (ts : List TypeId) (ns : List NameId) (i j : ℕ) (d : TypeId) (e : NameId) → j ≡ suc i → i < length ts → i < length ns → a ≡ puts o (codes "," ∷ []) → b ≡ puts a (declared p (shape p.graph.nodes (get_or ts i d).0) (text_at p.names (get_or ns i e) ∷ [])) →
    puts b (following (named_parts p (drop j ts) (drop j ns))) ≡ puts o (following (named_parts p (drop i ts) (drop i ns)))
named_from o a b p ts ns i j d e k h g ea eb =
    ap (λ l. puts b (following (named_parts p (drop l ts) (drop l ns)))) k ∙ ap (λ y. puts y (following (named_parts p (drop (suc i) ts) (drop (suc i) ns)))) (two_pushed o a b (codes "," ∷ []) (declared p (shape p.graph.nodes (get_or ts i d).0) (text_at p.names (get_or ns i e) ∷ [])) ea eb)
    ∙ puts-puts o (codes "," ∷ declared p (shape p.graph.nodes (get_or ts i d).0) (text_at p.names (get_or ns i e) ∷ [])) (following (named_parts p (drop (suc i) ts) (drop (suc i) ns))) ∙ ap (puts o) (sym (parts_from ts ns i h g))
  where
    parts_from : (ts : List TypeId) (ns : List NameId) (i : ℕ) → i < length ts → i < length ns → following (named_parts p (drop i ts) (drop i ns)) ≡ codes "," ∷ (declared p (shape p.graph.nodes (get_or ts i d).0) (text_at p.names (get_or ns i e) ∷ []) ++ following (named_parts p (drop (suc i) ts) (drop (suc i) ns)))
    parts_from [] ns i h g = absurd (omega arith)
    parts_from (t ∷ ts) [] i h g = absurd (omega arith)
    parts_from (t ∷ ts) (n ∷ ns) zero h g = refl
    parts_from (t ∷ ts) (n ∷ ns) (suc i) h g = parts_from ts ns i (omega arith) (omega arith)

pub named_end : (o x : Output) (p : Program) (ts : List TypeId) (ns : List NameId) (i m : ℕ) → m ≡ min (length ts) (length ns) → m ≤ i → puts o (following (named_parts p (drop i ts) (drop i ns))) ≡ x → o ≡ x
named_end o x p ts ns i m k h e = nothing_pushed o ∙ ap (λ z. puts o (following z)) (sym (past ts ns i (omega (arith, k, h)))) ∙ e
  where
    past : (ts : List TypeId) (ns : List NameId) (i : ℕ) → min (length ts) (length ns) ≤ i → named_parts p (drop i ts) (drop i ns) ≡ []
    past [] ns zero h = refl
    past [] ns (suc i) h = refl
    past (t ∷ ts) [] zero h = refl
    past (t ∷ ts) [] (suc i) h = empty (drop i ts)
      where
        empty : (us : List TypeId) → named_parts p us [] ≡ []
        empty [] = refl
        empty (u ∷ us) = refl
    past (t ∷ ts) (n ∷ ns) zero h = absurd (omega (arith, h))
    past (t ∷ ts) (n ∷ ns) (suc i) h = past ts ns i (omega (arith, h))
