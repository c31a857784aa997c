-- Device: steps of the loops over expressions and places.
use Rattle.std.proofs.Common.{◌≡◌, ℕ, zero, suc, ◌<◌, Option, Some, None, List, [], ◌∷◌, length, drop, get_or, slice_get, refl, sym, ap, ◌∙◌, subst, arith}
use Rattle.std.specs.Option.{option_and_then}
use Rattle.type_graph.specs.declared.nodes.Node.{Node}
use Rattle.type_graph.specs.declared.aggregates.Aggregate.{Aggregate}
use Rattle.type_graph.specs.declared.aggregates.Member.{Member}
use Rattle.type_graph.specs.Shapes.{Shape}
use Rattle.type_graph.specs.Arena.{Graph, IsArena}
use Rattle.cil_tree.specs.declared.expressions.Offset.{Offset, Field, Index'}
use Rattle.cil_tree.specs.Typing.{Scope, part_type, element_type, type_of}
use Rattle.cil_tree.specs.View.{offsets_of, exp_of}
use Rattle.cil_check.specs.Rules.{AreThere, MembersThere}
use Rattle.cil_check.specs.Seen.{steps_to}
use Rattle.cil_check.proofs.AggregateRules.{members_there}
use Rattle.cil_check.proofs.TypeSteps.{member_there}

then_then : {A B C : Type 0} (f : A → Option B) (g : B → Option C) (o : Option A) → option_and_then (λ x. option_and_then g (f x)) o ≡ option_and_then g (option_and_then f o)
then_then f g None = refl
then_then f g (Some x) = refl

-- the part that the steps from one on lead to is that of those behind it, from the part that it leads to
pub part_next : (c : Scope) (nodes : List Node) (os : List Offset) (i : ℕ) (o : Offset) (s : Shape) → i < length os → o ≡ get_or os i o →
    part_type c (offsets_of nodes (drop i os)) s ≡ option_and_then (part_type c (offsets_of nodes (drop (suc i) os))) (steps_to c nodes o s)
part_next c nodes [] i o s h e = absurd (omega arith)
part_next c nodes (x ∷ os) zero o s h e = by x o (sym e)
  where
    by : (x o : Offset) → x ≡ o → part_type c (offsets_of nodes (x ∷ os)) s ≡ option_and_then (part_type c (offsets_of nodes os)) (steps_to c nodes o s)
    by x o same = at x ∙ ap (λ y. option_and_then (part_type c (offsets_of nodes os)) (steps_to c nodes y s)) same
      where
        at : (x : Offset) → part_type c (offsets_of nodes (x ∷ os)) s ≡ option_and_then (part_type c (offsets_of nodes os)) (steps_to c nodes x s)
        at (Field number) = refl
        at (Index' p index) = then_then (element_type s) (part_type c (offsets_of nodes os)) (type_of c (exp_of nodes index))
part_next c nodes (x ∷ os) (suc i) o s h e = part_next c nodes os i o s (omega arith) e

-- a type that is found by way of another, and that is missing with it
pub then_some : (f : Shape → Option Shape) (p q : Option Shape) (s : Shape) (r : Option Shape) → q ≡ option_and_then f p → Some s ≡ p → r ≡ f s → r ≡ q
then_some f p q s r is there found = found ∙ ap (option_and_then f) there ∙ sym is

pub then_none : (f : Shape → Option Shape) (p q : Option Shape) → q ≡ option_and_then f p → None ≡ p → None ≡ q
then_none f p q is missing = ap (option_and_then f) missing ∙ sym is

-- a member that was found is there
pub member_at : (n : ℕ) (ms : List Member) (i : ℕ) (m : Member) → AreThere n ms → i < length ms → m ≡ get_or ms i m → m.ty.of.0 < n
member_at n ms i m e h is = let there : (get_or ms i m).ty.of.0 < n = member_there n ms i m e h in let same : m.ty.of.0 ≡ (get_or ms i m).ty.of.0 = ap (λ (y : Member). y.ty.of.0) is in omega (arith, there, same)

-- the members of an aggregate of an arena are there
pub members_found : (g : Graph) (a : ℕ) (x : Aggregate) (ms : List Member) → IsArena g → slice_get g.aggs a ≡ Some x → x.members ≡ Some ms → AreThere (length g.nodes) ms
members_found g a x ms arena there e = subst (MembersThere (length g.nodes)) e (members_there g a x arena there)
