-- Device: whether aggregates have members, in the graph and as they are seen.
use Rattle.std.proofs.Common.{◌≡◌, ℕ, zero, suc, ◌+◌, ◌≤◌, ◌&&◌, Bool, true, false, not, cond, List, [], ◌∷◌, length, drop, map, slice_get, Option, Some, None, refl, sym, ap, ◌∙◌, arith}
use Rattle.std.specs.List.{list_all}
use Rattle.std.specs.Option.{option_map, option_and_then}
use Rattle.type_graph.specs.declared.aggregates.Aggregate.{Aggregate}
use Rattle.type_graph.specs.declared.aggregates.Member.{Member}
use Rattle.type_graph.specs.Arena.{Graph}
use Rattle.cil_tree.specs.Tree.{Program}
use Rattle.cil_tree.specs.WellFormedTypes.{is_nonempty, has_member}
use Rattle.cil_tree.specs.Programs.{seen_member, SeenAggregate, seen_aggregate}
use Rattle.cil_text.specs.Allowed.{allowed, is_last, is_filled}
use Rattle.cil_text.specs.ReadAggregates.{Lines, LinesReading, first_filled}
use Rattle.cil_reader.specs.Aggregates.{program_with, aggregates_in}

-- one aggregate

by_members : Option (List Member) → Bool
by_members o = elim o [ None ↦ true | Some ms ↦ is_nonempty ms ]

pub is_open : (x : Aggregate) → x.members ≡ None → true ≡ has_member x
unfolding by_members
is_open x e = sym (ap by_members e)

pub has_none : (x : Aggregate) (ms : List Member) → x.members ≡ Some ms → length ms ≡ 0 → has_member x ≡ false
unfolding by_members
has_none x [] e f = ap by_members e
has_none x (m ∷ ms) e f = absurd (omega (arith, f))

pub has_some : (x : Aggregate) (ms : List Member) → x.members ≡ Some ms → (length ms ≡ 0 → ⊥) → has_member x ≡ true
unfolding by_members
has_some x [] e f = absurd (f refl)
has_some x (m ∷ ms) e f = ap by_members e

-- all aggregates

from_here : (aggs : List Aggregate) (i : ℕ) (x : Aggregate) → slice_get aggs i ≡ Some x → drop i aggs ≡ x ∷ drop (suc i) aggs
from_here [] i x e = absurd (cc e)
from_here (y ∷ aggs) zero x e = let same : y ≡ x = cc in ap (λ (z : Aggregate). z ∷ aggs) same
from_here (y ∷ aggs) (suc i) x e = from_here aggs i x e

fills_at : (aggs : List Aggregate) (i : ℕ) (x : Aggregate) (b : Bool) → slice_get aggs i ≡ Some x → has_member x ≡ b → list_all has_member (drop i aggs) ≡ b && list_all has_member (drop (i + 1) aggs)
fills_at aggs i x b e f =
    let next : suc i ≡ i + 1 = omega arith in
    ap (list_all has_member) (from_here aggs i x e) ∙ ap (λ v. v && list_all has_member (drop (suc i) aggs)) f ∙ ap (λ j. b && list_all has_member (drop j aggs)) next

pub fills_next : (aggs : List Aggregate) (i : ℕ) (x : Aggregate) (whole : Bool) → slice_get aggs i ≡ Some x → has_member x ≡ true → list_all has_member (drop i aggs) ≡ whole → list_all has_member (drop (i + 1) aggs) ≡ whole
fills_next aggs i x whole e f inv = sym (fills_at aggs i x true e f) ∙ inv

pub fills_not : (aggs : List Aggregate) (i : ℕ) (x : Aggregate) (whole : Bool) → slice_get aggs i ≡ Some x → has_member x ≡ false → list_all has_member (drop i aggs) ≡ whole → false ≡ whole
fills_not aggs i x whole e f inv = sym (fills_at aggs i x false e f) ∙ inv

past : (aggs : List Aggregate) (i : ℕ) → length aggs ≤ i → drop i aggs ≡ []
past [] zero h = refl
past [] (suc i) h = refl
past (x ∷ aggs) zero h = absurd (omega arith)
past (x ∷ aggs) (suc i) h = past aggs i (omega arith)

pub fills_end : (aggs : List Aggregate) (i : ℕ) (whole : Bool) → length aggs ≤ i → list_all has_member (drop i aggs) ≡ whole → true ≡ whole
fills_end aggs i whole h inv = sym (ap (list_all has_member) (past aggs i h)) ∙ inv

-- as they are seen

one_seen : (p : Program) (o : Option (List Member)) → elim (option_map (map (seen_member p)) o) as (λ _. Bool) [ None ↦ true | Some ms ↦ not (is_last ms) ] ≡ elim o as (λ _. Bool) [ None ↦ true | Some ms ↦ is_nonempty ms ]
one_seen p None = refl
one_seen p (Some []) = refl
one_seen p (Some (m ∷ ms)) = refl

all_seen : (p : Program) (xs : List Aggregate) → list_all is_filled (map (seen_aggregate p) xs) ≡ list_all has_member xs
all_seen p [] = refl
all_seen p (x ∷ xs) = ap (λ b. b && list_all is_filled (map (seen_aggregate p) xs)) (one_seen p x.members) ∙ ap (λ b. has_member x && b) (all_seen p xs)

pub seen_filled : (g : Graph) (names : List (List ℕ)) → list_all has_member g.aggs ≡ true → list_all is_filled (aggregates_in g names) ≡ true
unfolding aggregates_in
seen_filled g names e = all_seen (program_with g names) g.aggs ∙ e

filled_by : (g : Graph) (names : List (List ℕ)) (o : LinesReading (List SeenAggregate)) (ls : Lines) (b : Bool) → o ≡ Some (aggregates_in g names, ls) → list_all has_member g.aggs ≡ b →
    option_and_then (allowed first_filled) o ≡ cond b (Some (aggregates_in g names, ls)) None
unfolding aggregates_in
filled_by g names o ls b e f =
    ap (option_and_then (allowed first_filled)) e ∙ ap (λ v. cond v (Some (map (seen_aggregate (program_with g names)) g.aggs, ls)) None) (all_seen (program_with g names) g.aggs ∙ f)

pub filled_gives : (g : Graph) (names : List (List ℕ)) (o : LinesReading (List SeenAggregate)) (ls : Lines) → o ≡ Some (aggregates_in g names, ls) → list_all has_member g.aggs ≡ true → option_and_then (allowed first_filled) o ≡ Some (aggregates_in g names, ls)
filled_gives g names o ls e f = filled_by g names o ls true e f

pub filled_refused : (g : Graph) (names : List (List ℕ)) (o : LinesReading (List SeenAggregate)) (ls : Lines) → o ≡ Some (aggregates_in g names, ls) → list_all has_member g.aggs ≡ false → option_and_then (allowed first_filled) o ≡ None
filled_refused g names o ls e f = filled_by g names o ls false e f

pub filled_fails : (o : LinesReading (List SeenAggregate)) → o ≡ None → option_and_then (allowed first_filled) o ≡ None
filled_fails o e = ap (option_and_then (allowed first_filled)) e
