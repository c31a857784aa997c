-- Device: what is printed of lists of items.
use Rattle.std.proofs.Common.{◌≡◌, ℕ, zero, suc, ◌<◌, ◌≤◌, Bool, true, false, cond, List, [], ◌∷◌, ◌++◌, Option, Some, None, length, get_or, drop, map, slice_get, codes, refl, sym, ap, ◌∙◌, append-nil, arith}
use Rattle.cil_base.specs.declared.numbers.AggId.{AggId}
use Rattle.type_graph.specs.declared.aggregates.Aggregate.{Aggregate}
use Rattle.type_graph.specs.declared.nodes.Node.{Node}
use Rattle.type_graph.specs.declared.nodes.Node.TheVariants.{Agg}
use Rattle.type_graph.specs.Shapes.{Shape, shape_of}
use Rattle.type_graph.specs.Arena.{Graph}
use Rattle.cil_tree.specs.declared.globals.ImageItem.{ImageItem}
use Rattle.cil_tree.specs.Tree.{Item, Program}
use Rattle.cil_tree.specs.View.{item_of}
use Rattle.cil_tree.specs.Typing.{is_enum, is_scalar}
use Rattle.cil_tree.specs.Lines.{Token}
use Rattle.cil_tree.specs.Declarators.{separated}
use Rattle.cil_tree.specs.Text.{path_tokens, path_type, constant_tokens, item_tokens, items_tokens, is_scalar_type, scalar_tokens, in_braces, image_tokens}
use Rattle.cil_printer.specs.Output.{Output, puts}
use Rattle.cil_printer.specs.Sides.{following}
use Rattle.cil_printer.specs.Seen.{item_parts}
use Rattle.cil_printer.proofs.Puts.{puts-puts, nothing_pushed, two_pushed}

abbrev is_started : List Token → Bool
is_started [] = false
is_started (x ∷ xs) = true

-- what has a token is no empty list
around_started : (xs ys : List Token) (x : Token) → is_started (xs ++ x ∷ ys) ≡ true
around_started [] ys x = refl
around_started (y ∷ xs) ys x = refl

separated_more : (xs ys zs : List Token) → is_started ys ≡ true → separated xs (ys ++ zs) ≡ xs ++ codes "," ∷ (ys ++ zs)
separated_more xs [] zs e = cc
separated_more xs (y ∷ ys) zs e = refl

-- items are the first and those that follow it
items_are : (p : Program) (s : Option Shape) (x : ImageItem) (xs : List ImageItem) → items_tokens p s (map item_of (x ∷ xs)) ≡ item_tokens p s (item_of x) ++ following (item_parts p s xs)
items_are p s x [] = sym (append-nil (item_tokens p s (item_of x)))
items_are p s x (y ∷ xs) =
    ap (separated (item_tokens p s (item_of x))) (items_are p s y xs)
    ∙ separated_more (item_tokens p s (item_of x)) (item_tokens p s (item_of y)) (following (item_parts p s xs)) (around_started (path_tokens p (item_of y).path s) (constant_tokens p (path_type p (item_of y).path s) (item_of y).value) (codes "="))

pub items_pushed : (o a b : Output) (p : Program) (s : Option Shape) (x : ImageItem) (xs : List ImageItem) → a ≡ puts o (item_tokens p s (item_of x)) → b ≡ puts a (following (item_parts p s xs)) → b ≡ puts o (items_tokens p s (map item_of (x ∷ xs)))
items_pushed o a b p s x xs ea eb = two_pushed o a b (item_tokens p s (item_of x)) (following (item_parts p s xs)) ea eb ∙ ap (puts o) (sym (items_are p s x xs))

pub no_items : (o : Output) (p : Program) (s : Option Shape) (xs : List ImageItem) → length xs < 1 → o ≡ puts o (items_tokens p s (map item_of xs))
no_items o p s [] h = nothing_pushed o
no_items o p s (x ∷ xs) h = absurd (omega (arith, h))

pub no_scalar : (o : Output) (p : Program) (s : Option Shape) (xs : List ImageItem) → length xs < 1 → o ≡ puts o (scalar_tokens p s (map item_of xs))
no_scalar o p s [] h = nothing_pushed o
no_scalar o p s (x ∷ xs) h = absurd (omega (arith, h))

pub items_from : (o a b : Output) (p : Program) (s : Option Shape) (xs : List ImageItem) (i j : ℕ) (x : ImageItem) → j ≡ suc i → i < length xs → x ≡ get_or xs i x → a ≡ puts o (codes "," ∷ []) → b ≡ puts a (item_tokens p s (item_of x)) →
    puts b (following (item_parts p s (drop j xs))) ≡ puts o (following (item_parts p s (drop i xs)))
items_from o a b p s xs i j x k h is ea eb =
    ap (λ l. puts b (following (item_parts p s (drop l xs)))) k ∙ ap (λ y. puts y (following (item_parts p s (drop (suc i) xs)))) (two_pushed o a b (codes "," ∷ []) (item_tokens p s (item_of x)) ea eb)
    ∙ puts-puts o (codes "," ∷ item_tokens p s (item_of x)) (following (item_parts p s (drop (suc i) xs))) ∙ ap (puts o) (sym (parts_from xs i x h is))
  where
    parts_from : (xs : List ImageItem) (i : ℕ) (x : ImageItem) → i < length xs → x ≡ get_or xs i x → following (item_parts p s (drop i xs)) ≡ codes "," ∷ (item_tokens p s (item_of x) ++ following (item_parts p s (drop (suc i) xs)))
    parts_from [] i x h is = absurd (omega arith)
    parts_from (y ∷ xs) zero x h is = ap (λ z. codes "," ∷ (item_tokens p s (item_of z) ++ following (item_parts p s xs))) (sym is)
    parts_from (y ∷ xs) (suc i) x h is = parts_from xs i x (omega arith) is

pub items_end : (o x : Output) (p : Program) (s : Option Shape) (xs : List ImageItem) (i : ℕ) → length xs ≤ i → puts o (following (item_parts p s (drop i xs))) ≡ x → o ≡ x
items_end o x p s xs i h e = nothing_pushed o ∙ ap (λ ys. puts o (following (item_parts p s ys))) (sym (past xs i h)) ∙ e
  where
    past : (xs : List ImageItem) (i : ℕ) → length xs ≤ i → drop i xs ≡ []
    past [] zero h = refl
    past [] (suc i) h = refl
    past (t ∷ xs) zero h = absurd (omega arith)
    past (t ∷ xs) (suc i) h = past xs i (omega arith)

pub enum_at : (g : Graph) (at : ℕ → Shape) (s : Shape) (n : Node) (a : AggId) (x : Aggregate) (b : Bool) → s ≡ shape_of at n → n ≡ Agg a → slice_get g.aggs a.0 ≡ Some x → b ≡ is_enum x.kind → b ≡ is_scalar g s
enum_at g at s n a x b e is h k = k ∙ sym (ap (is_scalar g) (e ∙ ap (shape_of at) is) ∙ ap (λ (o : Option Aggregate). elim o [ None ↦ false | Some x ↦ is_enum x.kind ]) h)

pub scalar_image : (p : Program) (s : Option Shape) (xs : List Item) → is_scalar_type p s ≡ true → image_tokens p s xs ≡ scalar_tokens p s xs
scalar_image p s xs e = ap (λ b. cond b (scalar_tokens p s xs) (in_braces (items_tokens p s xs))) e

pub braced_image : (p : Program) (s : Option Shape) (xs : List Item) → is_scalar_type p s ≡ false → image_tokens p s xs ≡ in_braces (items_tokens p s xs)
braced_image p s xs e = ap (λ b. cond b (scalar_tokens p s xs) (in_braces (items_tokens p s xs))) e
