-- Device: the table of what types have within them.
use Rattle.std.proofs.Common.{◌≡◌, ℕ, zero, suc, ◌<◌, ◌≤◌, max, true, ◌&&◌, Option, Some, None, is_some, refl, nat_lt, nat_le, List, [], ◌∷◌, ◌++◌, length, drop, get_or, slice_get, sym, ap, ◌∙◌, subst, arith, ◌⊎◌, inl, inr, length-append}
use Rattle.std.proofs.lemmas.Option.{slice_get-get_or}
use Rattle.cil_base.specs.declared.numbers.TypeId.{TypeId}
use Rattle.type_graph.specs.declared.aggregates.Member.{Member}
use Rattle.type_graph.specs.declared.nodes.Node.{Node}
use Rattle.type_graph.specs.declared.nodes.Quals.{Quals}
use Rattle.type_graph.specs.Shapes.{Shape, Shapes, VoidType, IntType, PtrType, ArrayType, FuncType, AggType, NoTypes, MoreTypes, shape, shape_of, shapes_of}
use Rattle.type_graph.specs.Arena.{Graph, held, complete_shape}
use Rattle.cil_tree.specs.WellFormedTypes.{holds_below, elements_below, all_elements_below}
use Rattle.layout_lp64.proofs.TableLaws.{push_get}
use Rattle.cil_check.specs.declared.elements.Tops.{Tops}
use Rattle.cil_check.specs.Rules.{held_top, element_top, elements_top, member_is_after, IsTop, AreTops}
use Rattle.cil_check.proofs.TypeSteps.{cases}

-- the greatest entry of the parameters from one on
pub tops_next : (at : ℕ → Shape) (ts : List TypeId) (i : ℕ) (d : TypeId) (top : ℕ) → i < length ts →
    max top (elements_top (shapes_of at (drop i ts))) ≡ max (max top (element_top (at (get_or ts i d).0))) (elements_top (shapes_of at (drop (suc i) ts)))
tops_next at [] i d top h = absurd (omega arith)
tops_next at (t ∷ ts) zero d top h = omega arith
tops_next at (t ∷ ts) (suc i) d top h = tops_next at ts i d top (omega arith)

-- a number is at least the greater of two where it is at least each
most : (m n a : ℕ) → nat_le (max m n) a ≡ nat_le m a && nat_le n a
most m n a = by (cases m a) (cases n a)
  where
    by : (m ≤ a) ⊎ (a < m) → (n ≤ a) ⊎ (a < n) → nat_le (max m n) a ≡ nat_le m a && nat_le n a
    by h k = grind arith

held_is : (a : ℕ) (s : Shape) → holds_below a s ≡ nat_le (held_top s) a
held_is a s = by (held s)
  where
    by : (o : Option ℕ) → elim o [ None ↦ true | Some b ↦ nat_lt b a ] ≡ nat_le (elim o [ None ↦ 0 | Some b ↦ suc b ]) a
    by None = grind arith
    by (Some b) = grind arith

mutual
  elements_are : (a : ℕ) (s : Shape) → elements_below a s ≡ nat_le (element_top s) a
  elements_are a VoidType = grind arith
  elements_are a (IntType kind) = grind arith
  elements_are a (PtrType q s) = elements_are a s
  elements_are a (ArrayType q s bound) = ap (λ b. b && elements_below a s) (held_is a s) ∙ ap (λ b. nat_le (held_top s) a && b) (elements_are a s) ∙ sym (most (held_top s) (element_top s) a)
  elements_are a (FuncType ret params proto variadic) = ap (λ b. b && all_elements_below a params) (elements_are a ret) ∙ ap (λ b. nat_le (element_top ret) a && b) (all_elements_are a params) ∙ sym (most (element_top ret) (elements_top params) a)
  elements_are a (AggType b) = grind arith

  all_elements_are : (a : ℕ) (ss : Shapes) → all_elements_below a ss ≡ nat_le (elements_top ss) a
  all_elements_are a NoTypes = grind arith
  all_elements_are a (MoreTypes s more) = ap (λ b. b && all_elements_below a more) (elements_are a s) ∙ ap (λ b. nat_le (element_top s) a && b) (all_elements_are a more) ∙ sym (most (element_top s) (elements_top more) a)

both_after : (g : Graph) (a : ℕ) (m : Member) (x y : ℕ) → x ≡ held_top (shape g.nodes m.ty.of.0) → y ≡ element_top (shape g.nodes m.ty.of.0) → member_is_after g a m ≡ nat_le (max x y) a
both_after g a m x y h e =
    ap (λ b. b && elements_below a (shape g.nodes m.ty.of.0)) (held_is a (shape g.nodes m.ty.of.0)) ∙ ap (λ b. nat_le (held_top (shape g.nodes m.ty.of.0)) a && b) (elements_are a (shape g.nodes m.ty.of.0))
    ∙ sym (most (held_top (shape g.nodes m.ty.of.0)) (element_top (shape g.nodes m.ty.of.0)) a) ∙ ap (λ k. nat_le (max k (element_top (shape g.nodes m.ty.of.0))) a) (sym h) ∙ ap (λ k. nat_le (max x k) a) (sym e)

-- both bounds of a member at once
pub after_is : (g : Graph) (a : ℕ) (m : Member) (top : Tops) → IsTop g top (shape g.nodes m.ty.of.0) → member_is_after g a m ≡ nat_le (max top.held top.elements) a
after_is g a m top is = both_after g a m top.held top.elements is.held is.elements

-- an array is complete where its bound is known and its element is complete
pub array_is : (g : Graph) (of : Tops) (q : Quals) (s : Shape) (bound : Option ℕ) → IsTop g of s → is_some bound && of.complete ≡ complete_shape g.aggs (ArrayType q s bound)
array_is g of q s None is = refl
array_is g of q s (Some n) is = is.complete

-- an entry of the table is that of its type
pub entry_is : (tops : List Tops) (g : Graph) (t : ℕ) (x : Tops) → AreTops tops g → t < length tops → x ≡ get_or tops t x → IsTop g x (shape g.nodes t)
entry_is tops g t x table h e = table.each t x (slice_get-get_or tops t x h ∙ ap Some (sym e))

-- a table with the entry of the next type
pub tops_pushed : (tops : List Tops) (g : Graph) (t : ℕ) (x : Tops) (n : Node) → AreTops tops g → length tops ≡ t → t < length g.nodes → shape g.nodes t ≡ shape_of (shape g.nodes) n → IsTop g x (shape_of (shape g.nodes) n) → AreTops (tops ++ x ∷ []) g
tops_pushed tops g t x n table count h same is = record { few = omega (arith, length-append tops (x ∷ []), count); each = λ u y e. one u y (push_get tops x u y e) }
  where
    one : (u : ℕ) (y : Tops) → (slice_get tops u ≡ Some y) ⊎ ((u ≡ length tops) × (x ≡ y)) → IsTop g y (shape g.nodes u)
    one u y (inl e) = table.each u y e
    one u y (inr e) = subst (λ (z : Tops). IsTop g z (shape g.nodes u)) e.1 (subst (λ (s : Shape). IsTop g x s) (sym same ∙ ap (shape g.nodes) (sym (e.0 ∙ count))) is)
