-- Device: what stays where types are added alone.
use Rattle.std.proofs.Common.{◌≡◌, ℕ, ◌<◌, ◌≤◌, ◌+◌, List, length, length-append, Option, Some, refl, ap, ◌∙◌, subst, arith}
use Rattle.std.specs.Prelude.{IfSome}
use Rattle.type_graph.specs.declared.nodes.QualType.{QualType}
use Rattle.typed_tree.specs.declared.expressions.TypedExp.{TypedExp}
use Rattle.type_graph.specs.declared.aggregates.Aggregate.{Aggregate}
use Rattle.type_graph.specs.declared.nodes.Node.{Node}
use Rattle.type_graph.specs.Arena.{Graph}
use Rattle.type_graph.specs.Growth.{Grows}
use Rattle.type_graph.specs.Shapes.{Shape, VoidType, IntType, PtrType, ArrayType, FuncType, AggType, shape}
use Rattle.type_graph.proofs.GrowthLaws.{grows_none, grows_twice}
use Rattle.type_graph.proofs.ShapeLaws.{kept}
use Rattle.unit_types.specs.Steps.{Makes}
use Rattle.cast_rules.specs.declared.pairings.Pairing.{Pairing}
use Rattle.cast_rules.specs.declared.pairings.Pairing.TheVariants as pairing
use Rattle.cast_rules.specs.Given.{Extends, element_shape, promoted_shape}
use Rattle.cast_rules.specs.Seen.{seen_pair, AreThere}
use Rattle.cast_rules.specs.Values.{Pointers, PointerNumber, NumberPointer}

pub extends_none : (g : Graph) → Extends g g
extends_none g = record { grows = grows_none g; aggregates = (refl, refl) }

pub extends_twice : (f g h : Graph) → Extends f g → Extends g h → Extends f h
extends_twice f g h x y = record { grows = grows_twice f g h x.grows y.grows; aggregates = (y.aggregates.0 ∙ x.aggregates.0, y.aggregates.1 ∙ x.aggregates.1) }

pub extends_made : (g h : Graph) (s : Shape) (t : ℕ) → Makes g h s t → Extends g h
extends_made g h s t made = record { grows = made.grows; aggregates = made.aggregates }

longer : (g h : Graph) → Grows g h → length g.nodes ≤ length h.nodes
longer g h grows = omega (arith, ap length grows.nodes.1, length-append g.nodes grows.nodes.0)

still : (g h : Graph) (t : ℕ) → Extends g h → t < length g.nodes → t < length h.nodes
still g h t x there = omega (arith, there, longer g h x.grows)

pub pair_there : (g h : Graph) (p : Pairing) → Extends g h → AreThere g.nodes p → AreThere h.nodes p
pair_there g h (pairing.Numbers x y) e there = tt
pair_there g h (pairing.PointerNumber p) e there = still g h p.of.0 e there
pair_there g h (pairing.NumberPointer q) e there = still g h q.of.0 e there
pair_there g h (pairing.Pointers p q) e there = (still g h p.of.0 e there.0, still g h q.of.0 e there.1)
pair_there g h pairing.Others e there = tt

pub pair_stays : (g h : Graph) (p : Pairing) → Extends g h → AreThere g.nodes p → seen_pair h.nodes p ≡ seen_pair g.nodes p
pair_stays g h (pairing.Numbers x y) e there = refl
pair_stays g h (pairing.PointerNumber p) e there = ap (λ s. PointerNumber p.quals s) (kept g h p.of.0 e.grows there)
pair_stays g h (pairing.NumberPointer q) e there = ap (λ s. NumberPointer q.quals s) (kept g h q.of.0 e.grows there)
pair_stays g h (pairing.Pointers p q) e there = ap (λ s. Pointers p.quals s q.quals (shape h.nodes q.of.0)) (kept g h p.of.0 e.grows there.0) ∙ ap (λ t. Pointers p.quals (shape g.nodes p.of.0) q.quals t) (kept g h q.of.0 e.grows there.1)
pair_stays g h pairing.Others e there = refl

-- what a type is promoted to hangs on the aggregates alone
pub promotion_stays : (g h : Graph) (s : Shape) → Extends g h → promoted_shape h s ≡ promoted_shape g s
promotion_stays g h VoidType e = refl
promotion_stays g h (IntType kind) e = refl
promotion_stays g h (PtrType quals s) e = refl
promotion_stays g h (ArrayType quals s bound) e = refl
promotion_stays g h (FuncType ret params proto variadic) e = refl
promotion_stays g h (AggType a) e = ap (λ (aggs : List Aggregate). promoted_shape (record g { aggs = aggs }) (AggType a)) e.aggregates.0

-- what has the type of the element has its shape as it was
pub element_given : (g h : Graph) (p : Pairing) (ty : QualType) (v : TypedExp) → Extends g h → AreThere g.nodes p → Some (shape h.nodes ty.of.0) ≡ element_shape (seen_pair h.nodes p) → shape h.nodes v.ty.of.0 ≡ shape h.nodes ty.of.0
    → IfSome (element_shape (seen_pair g.nodes p)) (λ s. shape h.nodes v.ty.of.0 ≡ s)
element_given g h p ty v e there known is = subst (λ (o : Option Shape). IfSome o (λ s. shape h.nodes v.ty.of.0 ≡ s)) (known ∙ ap element_shape (pair_stays g h p e there)) is
