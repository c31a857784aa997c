-- Device: names have no part in layouts.
use Rattle.std.proofs.Common.{◌≡◌, ◌≢◌, ℕ, zero, suc, ◌^◌, true, false, nat_eq, List, [], ◌∷◌, slice_get, Option, Some, None, map, ◌⊎◌, inl, inr, refl, sym, ap, ◌∙◌}
use Rattle.std.proofs.Math.ListN.{set}
use Rattle.std.proofs.lemmas.Bool.Decides.{eqb_tells}
use Rattle.std.specs.Option.{option_and_then, option_map}
use Rattle.cil_base.specs.declared.kinds.Abi.{Abi}
use Rattle.cil_base.specs.declared.numbers.NameId.{NameId}
use Rattle.type_graph.specs.declared.aggregates.AggKind.{AggKind}
use Rattle.type_graph.specs.declared.aggregates.AggKind.TheVariants.{Struct, Union, Enum}
use Rattle.type_graph.specs.declared.aggregates.Member.{Member}
use Rattle.type_graph.specs.declared.aggregates.Aggregate.{Aggregate}
use Rattle.type_graph.specs.declared.layout.Layout.{Layout}
use Rattle.type_graph.specs.declared.nodes.Node.{Node}
use Rattle.type_graph.specs.Shapes.{shape}
use Rattle.type_graph.specs.Renaming.{renamed_members}
use Rattle.type_graph.specs.Arena.{Graph, IsArena}
use Rattle.type_graph.specs.Growth.{renamed}
use Rattle.type_graph.specs.Layouts.{Placed, member_in, placed_behind, placed_over, placed_all, nothing_placed, finished, enum_layout, members_layout, aggregate_in, whole_of, agg_at, agg_layout, layout}
use Rattle.type_graph.proofs.Lists.{get_set_same, get_set_other}
use Rattle.type_graph.proofs.LayoutLaws.{both_keep, layout_in-keeps, step_same}

-- the layout of a member, which its name has no part in
abbrev of_type : Abi → List Node → (ℕ → Option Layout) → Member → Option Layout
of_type abi nodes f m = member_in abi f (shape nodes m.ty.of.0)

placed_renamed : (abi : Abi) (nodes : List Node) (f : ℕ → Option Layout) (step : Placed → Layout → Placed) (p : Placed) (ms : List Member) (names : List NameId) → placed_all step (of_type abi nodes f) p (renamed_members ms names) ≡ placed_all step (of_type abi nodes f) p ms
placed_renamed abi nodes f step p [] names = refl
placed_renamed abi nodes f step p (m ∷ ms) [] = refl
placed_renamed abi nodes f step p (m ∷ ms) (n ∷ names) = by (of_type abi nodes f m) (λ l. placed_renamed abi nodes f step (step p l) ms names)
  where
    by : (o : Option Layout) → ((l : Layout) → placed_all step (of_type abi nodes f) (step p l) (renamed_members ms names) ≡ placed_all step (of_type abi nodes f) (step p l) ms) → option_and_then (λ (l : Layout). placed_all step (of_type abi nodes f) (step p l) (renamed_members ms names)) o ≡ option_and_then (λ (l : Layout). placed_all step (of_type abi nodes f) (step p l) ms) o
    by None rest = refl
    by (Some l) rest = rest l

zeros_renamed : (ms : List Member) (names : List NameId) → map (λ (m : Member). zero) (renamed_members ms names) ≡ map (λ (m : Member). zero) ms
zeros_renamed [] names = refl
zeros_renamed (m ∷ ms) [] = refl
zeros_renamed (m ∷ ms) (n ∷ names) = ap (λ (os : List ℕ). zero ∷ os) (zeros_renamed ms names)

enum_renamed : (ms : List Member) (names : List NameId) → enum_layout (renamed_members ms names) ≡ enum_layout ms
enum_renamed ms names = ap (λ (os : List ℕ). record (enum_layout ms) { offsets = os }) (zeros_renamed ms names)

members_renamed : (abi : Abi) (nodes : List Node) (f : ℕ → Option Layout) (kind : AggKind) (ms : List Member) (names : List NameId) → members_layout kind (of_type abi nodes f) (renamed_members ms names) ≡ members_layout kind (of_type abi nodes f) ms
members_renamed abi nodes f Struct ms names = ap (option_map finished) (placed_renamed abi nodes f placed_behind nothing_placed ms names)
members_renamed abi nodes f Union ms names = ap (option_map finished) (placed_renamed abi nodes f placed_over nothing_placed ms names)
members_renamed abi nodes f Enum ms names = ap Some (enum_renamed ms names)

aggregate_renamed : (abi : Abi) (nodes : List Node) (f : ℕ → Option Layout) (x : Aggregate) (tag : NameId) (names : List NameId) → aggregate_in abi nodes f (renamed x tag names) ≡ aggregate_in abi nodes f x
aggregate_renamed abi nodes f x tag names = by x.members
  where
    by : (o : Option (List Member)) → option_and_then (members_layout x.kind (of_type abi nodes f)) (option_map (λ (ms : List Member). renamed_members ms names) o) ≡ option_and_then (members_layout x.kind (of_type abi nodes f)) o
    by None = refl
    by (Some ms) = members_renamed abi nodes f x.kind ms names

module _ (g : Graph) (a : ℕ) (x : Aggregate) (tag : NameId) (names : List NameId) (at : slice_get g.aggs a ≡ Some x) (w : IsArena (record g { aggs = set g.aggs a (renamed x tag names) })) where
  abbrev after : Graph
  after = record g { aggs = set g.aggs a (renamed x tag names) }

  one_renamed : (f : ℕ → Option Layout) (b : ℕ) → option_and_then (aggregate_in g.abi g.nodes f) (slice_get (set g.aggs a (renamed x tag names)) b) ≡ option_and_then (aggregate_in g.abi g.nodes f) (slice_get g.aggs b)
  one_renamed f b = by (eqb_tells b a)
    where
      by : ((nat_eq b a ≡ true) × (b ≡ a)) ⊎ ((nat_eq b a ≡ false) × (b ≢ a)) → option_and_then (aggregate_in g.abi g.nodes f) (slice_get (set g.aggs a (renamed x tag names)) b) ≡ option_and_then (aggregate_in g.abi g.nodes f) (slice_get g.aggs b)
      by (inl h) =
          ap (λ k. option_and_then (aggregate_in g.abi g.nodes f) (slice_get (set g.aggs a (renamed x tag names)) k)) h.1
          ∙ ap (option_and_then (aggregate_in g.abi g.nodes f)) (get_set_same g.aggs a x (renamed x tag names) at)
          ∙ aggregate_renamed g.abi g.nodes f x tag names
          ∙ sym (ap (option_and_then (aggregate_in g.abi g.nodes f)) (ap (slice_get g.aggs) h.1 ∙ at))
      by (inr h) = ap (option_and_then (aggregate_in g.abi g.nodes f)) (get_set_other g.aggs a b (renamed x tag names) h.1)

  at_renamed : (depth b : ℕ) → agg_at depth after b ≡ agg_at depth g b
  at_renamed zero b = refl
  at_renamed (suc depth) b =
      step_same after w (λ c. whole_of (agg_at depth after c)) (λ c. whole_of (agg_at depth g c)) b (λ c below. ap whole_of (at_renamed depth c))
      ∙ one_renamed (λ c. whole_of (agg_at depth g c)) b

  -- the layout of an aggregate stays under other names
  pub agg_layout_renamed : (b : ℕ) → agg_layout after b ≡ agg_layout g b
  unfolding agg_layout
  agg_layout_renamed b = at_renamed (2 ^ 32) b

  -- the layout of a type stays under other names
  pub layout_renamed : (t : ℕ) → layout after t ≡ layout g t
  layout_renamed t =
      both_keep (layout after t) (layout g t)
      (layout_in-keeps g.abi (λ b. whole_of (agg_layout after b)) (λ b. whole_of (agg_layout g b)) (shape g.nodes t) (λ b held l e. sym (ap whole_of (agg_layout_renamed b)) ∙ e))
      (layout_in-keeps g.abi (λ b. whole_of (agg_layout g b)) (λ b. whole_of (agg_layout after b)) (shape g.nodes t) (λ b held l e. ap whole_of (agg_layout_renamed b) ∙ e))
