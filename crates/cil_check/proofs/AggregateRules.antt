-- Device: steps of the loops over aggregates.
use Rattle.std.proofs.Common.{◌≡◌, ℕ, zero, suc, ◌+◌, Bool, true, false, ◌&&◌, not, if◌then◌else◌, Option, Some, None, List, [], ◌∷◌, length, drop, slice_get, refl, sym, ap, ◌∙◌, arith}
use Rattle.std.specs.List.{list_all}
use Rattle.std.specs.Option.{option_and_then}
use Rattle.cil_base.specs.declared.numbers.AggId.{AggId}
use Rattle.type_graph.specs.declared.aggregates.Aggregate.{Aggregate}
use Rattle.type_graph.specs.declared.aggregates.Member.{Member}
use Rattle.type_graph.specs.declared.nodes.Node.{Node}
use Rattle.type_graph.specs.Arena.{Graph, IsArena, EachBelow, members_of, rank}
use Rattle.cil_tree.specs.Typing.{is_enum}
use Rattle.cil_tree.specs.WellFormedTypes.{enums_first}
use Rattle.cil_check.specs.Rules.{AreThere, MembersThere, HasMembers, aggregate_rules, aggregate_fits_at, ordered}

all_there : (nodes : List Node) (order : List AggId) (r : ℕ) (ms : List Member) → EachBelow nodes order r ms → AreThere (length nodes) ms
all_there nodes order r [] e = tt
all_there nodes order r (m ∷ ms) e = (e.0, all_there nodes order r ms e.2)

-- the members of an aggregate of an arena are there
pub members_there : (g : Graph) (a : ℕ) (x : Aggregate) → IsArena g → slice_get g.aggs a ≡ Some x → HasMembers (length g.nodes) x
members_there g a x arena there = by x.members refl
  where
    by : (o : Option (List Member)) → x.members ≡ o → MembersThere (length g.nodes) o
    by None e = tt
    by (Some ms) e =
        let known : members_of g.aggs a ≡ Some ms = ap (option_and_then (λ (y : Aggregate). y.members)) there ∙ e in
        all_there g.nodes g.completed (rank g.completed a) ms (arena.nested a ms known).1

pub aggregate_is : (g : Graph) (a : ℕ) (x : Aggregate) → slice_get g.aggs a ≡ Some x → aggregate_rules g a x ≡ aggregate_fits_at g a
aggregate_is g a x there = ap (λ o. elim o [ None ↦ true | Some y ↦ aggregate_rules g a y ]) (sym there)

pub kind_is : (xs : List Aggregate) (i : ℕ) (x : Aggregate) (seen : Bool) → slice_get xs i ≡ Some x →
    ordered seen (drop i xs) ≡ (if is_enum x.kind then (not seen && ordered seen (drop (i + 1) xs)) else ordered true (drop (i + 1) xs))
kind_is [] i x seen e = cc
kind_is (y ∷ ys) zero x seen e = let same : y ≡ x = cc in ap (λ (z : Aggregate). if is_enum z.kind then (not seen && ordered seen ys) else ordered true ys) same
kind_is (y ∷ ys) (suc i) x seen e = let next : suc (i + 1) ≡ suc i + 1 = omega arith in kind_is ys i x seen e ∙ ap (λ k. if is_enum x.kind then (not seen && ordered seen (drop k (y ∷ ys))) else ordered true (drop k (y ∷ ys))) next

others : (xs : List Aggregate) → ordered true xs ≡ list_all (λ (y : Aggregate). not (is_enum y.kind)) xs
others [] = refl
others (x ∷ xs) = by (is_enum x.kind) (others xs)
  where
    by : (b : Bool) → ordered true xs ≡ list_all (λ (y : Aggregate). not (is_enum y.kind)) xs → (if b then false else ordered true xs) ≡ not b && list_all (λ (y : Aggregate). not (is_enum y.kind)) xs
    by true e = refl
    by false e = e

pub ordered_is : (xs : List Aggregate) → ordered false xs ≡ enums_first xs
ordered_is [] = refl
ordered_is (x ∷ xs) = by (is_enum x.kind) (ordered_is xs)
  where
    by : (b : Bool) → ordered false xs ≡ enums_first xs → (if b then ordered false xs else ordered true xs) ≡ (if b then enums_first xs else list_all (λ (y : Aggregate). not (is_enum y.kind)) xs)
    by true e = e
    by false e = others xs
