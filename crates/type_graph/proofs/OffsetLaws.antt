-- Device: each member of a complete aggregate has an offset.
use Rattle.std.proofs.Common.{◌≡◌, ℕ, suc, ◌+◌, ◌<◌, true, List, [], ◌∷◌, length, map, slice_get, is_some, Option, Some, None, refl, sym, ap, ◌∙◌, subst, arith, length-append}
use Rattle.std.specs.Option.{option_and_then, option_map}
use Rattle.type_graph.specs.declared.aggregates.AggKind.{AggKind}
use Rattle.type_graph.specs.declared.aggregates.AggKind.TheVariants.{Struct, Union, Enum}
use Rattle.type_graph.specs.declared.aggregates.Member.{Member}
use Rattle.type_graph.specs.declared.layout.Layout.{Layout}
use Rattle.type_graph.specs.Shapes.{shape}
use Rattle.type_graph.specs.Arena.{Graph, IsArena, members_of}
use Rattle.type_graph.specs.Layouts.{AggLayout, Placed, round_up, member_in, placed_behind, placed_over, placed_all, nothing_placed, finished, enum_layout, members_layout, whole_of, agg_layout, offset}
use Rattle.type_graph.proofs.Lists.{get_there}
use Rattle.type_graph.proofs.ArenaLaws.{agg_there, some_there, is_some_from}
use Rattle.type_graph.proofs.LayoutLaws.{at_members, agg_layout_is, agg_layout_there}

-- placing a member adds an offset
abbrev AddsOffset : (Placed → Layout → Placed) → Type 0
AddsOffset step = (p : Placed) (l : Layout) → length (step p l).offsets ≡ suc (length p.offsets)

behind_adds : AddsOffset placed_behind
behind_adds p l = omega (arith, length-append p.offsets (round_up p.end l.align ∷ []))

over_adds : AddsOffset placed_over
over_adds p l = omega (arith, length-append p.offsets (0 ∷ []))

placed_length : (step : Placed → Layout → Placed) → AddsOffset step → (of : Member → Option Layout) (p : Placed) (ms : List Member) (q : Placed) → placed_all step of p ms ≡ Some q → length q.offsets ≡ length p.offsets + length ms
placed_length step adds of p [] q e = let same : p ≡ q = cc in subst (λ (r : Placed). length r.offsets ≡ length p.offsets + 0) same (omega arith)
placed_length step adds of p (m ∷ ms) q e = by (of m) e (λ l f. placed_length step adds of (step p l) ms q f)
  where
    by : (o : Option Layout) → option_and_then (λ (l : Layout). placed_all step of (step p l) ms) o ≡ Some q → ((l : Layout) → placed_all step of (step p l) ms ≡ Some q → length q.offsets ≡ length (step p l).offsets + length ms) → length q.offsets ≡ length p.offsets + suc (length ms)
    by None f rest = cc
    by (Some l) f rest = omega (arith, rest l f, adds p l)

finished_length : (o : Option Placed) (n : ℕ) (l : AggLayout) → ((q : Placed) → o ≡ Some q → length q.offsets ≡ n) → option_map finished o ≡ Some l → length l.offsets ≡ n
finished_length None n l h e = cc
finished_length (Some q) n l h e = let same : finished q ≡ l = cc in subst (λ (x : AggLayout). length x.offsets ≡ n) same (h q refl)

zeros_length : (ms : List Member) → length {A = ℕ} (map (λ (m : Member). 0) ms) ≡ length ms
zeros_length [] = refl
zeros_length (m ∷ ms) = ap suc (zeros_length ms)

members_length : (kind : AggKind) (of : Member → Option Layout) (ms : List Member) (l : AggLayout) → members_layout kind of ms ≡ Some l → length l.offsets ≡ length ms
members_length Struct of ms l e = finished_length (placed_all placed_behind of nothing_placed ms) (length ms) l (λ q f. let n : length q.offsets ≡ 0 + length ms = placed_length placed_behind behind_adds of nothing_placed ms q f in omega (arith, n)) e
members_length Union of ms l e = finished_length (placed_all placed_over of nothing_placed ms) (length ms) l (λ q f. let n : length q.offsets ≡ 0 + length ms = placed_length placed_over over_adds of nothing_placed ms q f in omega (arith, n)) e
members_length Enum of ms l e = let same : enum_layout ms ≡ l = cc in subst (λ (x : AggLayout). length x.offsets ≡ length ms) same (zeros_length ms)

-- the law of offsets: each member of a complete aggregate has one
pub offset_there : (g : Graph) → IsArena g → (a : ℕ) (ms : List Member) (i : ℕ) → members_of g.aggs a ≡ Some ms → i < length ms → is_some (offset g a i) ≡ true
offset_there g w a ms i members within =
    let x = agg_there g.aggs a ms members in
    let l = some_there (agg_layout g a) (agg_layout_there g w a ∙ ap is_some members) in
    let made : members_layout x.0.kind (λ (m : Member). member_in g.abi (λ b. whole_of (agg_layout g b)) (shape g.nodes m.ty.of.0)) ms ≡ Some l.0 =
    sym (at_members g (λ b. whole_of (agg_layout g b)) a x.0 ms x.1 x.2) ∙ sym (agg_layout_is g w a) ∙ l.1 in
    let count : length l.0.offsets ≡ length ms = members_length x.0.kind (λ (m : Member). member_in g.abi (λ b. whole_of (agg_layout g b)) (shape g.nodes m.ty.of.0)) ms l.0 made in
    let at = get_there l.0.offsets i (omega arith) in
    is_some_from (offset g a i) at.0 (ap (option_and_then (λ (y : AggLayout). slice_get y.offsets i)) l.1 ∙ at.1)
