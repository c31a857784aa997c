-- Device: a declaration is what stands before the declared, the declared, and what stands behind it.
use Rattle.std.proofs.Common.{◌≡◌, Bool, true, false, List, [], ◌∷◌, ◌++◌, codes, refl, ap, ◌∙◌, append_assoc, append-nil, cond}
use Rattle.type_graph.specs.Shapes.{Shape, VoidType, IntType, PtrType, ArrayType, FuncType, AggType}
use Rattle.cil_tree.specs.Tree.{Program}
use Rattle.cil_tree.specs.Lines.{Token}
use Rattle.cil_tree.specs.Declarators.{starred, bound_tokens, in_parentheses, listed, all_declared, declared}
use Rattle.cil_tree.specs.Text.{in_brackets}
use Rattle.cil_printer.specs.Sides.{is_grouped, star, star_end, before, after}

starred_is : (s : Shape) (inner : List Token) → starred s inner ≡ star s ++ (inner ++ star_end s)
starred_is s inner = by (is_grouped s)
  where
    by : (b : Bool) → cond b (codes "(" ∷ codes "*" ∷ (inner ++ codes ")" ∷ [])) (codes "*" ∷ inner) ≡ cond b (codes "(" ∷ codes "*" ∷ []) (codes "*" ∷ []) ++ (inner ++ cond b (codes ")" ∷ []) [])
    by true = refl
    by false = simp append-nil

around : (bs xs inner ys cs : List Token) → bs ++ ((xs ++ (inner ++ ys)) ++ cs) ≡ (bs ++ xs) ++ (inner ++ (ys ++ cs))
around bs xs inner ys cs = simp append_assoc

pub declared_is : (p : Program) (s : Shape) (inner : List Token) → declared p s inner ≡ before p s ++ (inner ++ after p s)
declared_is p VoidType inner = simp append-nil
declared_is p (IntType kind) inner = simp append-nil
declared_is p (PtrType q s) inner = declared_is p s (starred s inner) ∙ ap (λ t. before p s ++ (t ++ after p s)) (starred_is s inner) ∙ around (before p s) (star s) inner (star_end s) (after p s)
declared_is p (ArrayType q s bound) inner = declared_is p s (inner ++ in_brackets (bound_tokens bound)) ∙ ap (λ t. before p s ++ t) (append_assoc inner (in_brackets (bound_tokens bound)) (after p s))
declared_is p (FuncType ret params proto variadic) inner = declared_is p ret (inner ++ in_parentheses (listed proto variadic (all_declared p params))) ∙ ap (λ t. before p ret ++ t) (append_assoc inner (in_parentheses (listed proto variadic (all_declared p params))) (after p ret))
declared_is p (AggType a) inner = simp append-nil
