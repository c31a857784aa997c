-- Device: the sizes that layouts in step have.
use Rattle.std.proofs.Common.{◌≡◌, ℕ, ◌<◌, List, length, Bool, true, false, Option, Some, None, option_map, refl, ap, ◌∙◌, subst}
use Rattle.std.specs.Prelude.{IfSome, IsSome, is_some, slice_get, if◌then◌else◌}
use Rattle.std.specs.Option.{option_and_then}
use Rattle.cil_base.specs.declared.numbers.AggId.{AggId}
use Rattle.type_graph.specs.declared.aggregates.Aggregate.{Aggregate}
use Rattle.type_graph.specs.declared.aggregates.Member.{Member}
use Rattle.type_graph.specs.declared.nodes.Node.TheVariants.{Agg}
use Rattle.type_graph.proofs.OffsetLaws.{offset_there}
use Rattle.cil_tree.specs.Typing.{member_type, member_of, is_enum}
use Rattle.type_graph.specs.declared.layout.Layout.{Layout}
use Rattle.type_graph.specs.Shapes.{AggType, shape}
use Rattle.type_graph.specs.Arena.{Graph, IsArena, complete}
use Rattle.type_graph.specs.Layouts.{layout, offset}
use Rattle.type_graph.proofs.LayoutLaws.{layout_there}
use Rattle.layout_lp64.specs.declared.layouts.Layouts.{Layouts}
use Rattle.layout_lp64.specs.Tables.{InStep, found, found_offset}
use Rattle.std.proofs.lemmas.Option.{slice_get_within}
use Rattle.cil_semantics.specs.Values.{size_in}

get_below : {A : Type 0} (xs : List A) (n : ℕ) (o : Option A) → slice_get xs n ≡ o → is_some o ≡ true → n < length xs
get_below xs n None is e = absurd (cc)
get_below xs n (Some x) is e = slice_get_within xs n x is

-- complete types have a size
pub size_there : (l : Layouts) (g : Graph) (t : ℕ) → InStep l g → IsArena g → complete g t ≡ true → IsSome (found l t)
size_there l g t step arena is = ap is_some (step.sizes t) ∙ (layout_there g arena t ∙ is)

pub size_found : (l : Layouts) (g : Graph) (t : ℕ) (n : ℕ) → InStep l g → IsArena g → complete g t ≡ true → IfSome (found l t) (λ x. n ≡ x.size) → Some n ≡ size_in g (shape g.nodes t)
size_found l g t n step arena is told = by (found l t) (layout g t) (step.sizes t) (size_there l g t step arena is) told
  where
    by : (o u : Option Layout) → o ≡ u → IsSome o → IfSome o (λ x. n ≡ x.size) → Some n ≡ option_map (λ (l : Layout). l.size) u
    by None u e there told = absurd (cc)
    by (Some x) u e there told = ap Some told ∙ ap (option_map (λ (l : Layout). l.size)) e

-- and others have none
pub no_size : (g : Graph) (t : ℕ) → IsArena g → complete g t ≡ false → None ≡ size_in g (shape g.nodes t)
no_size g t arena is = by (layout g t) (layout_there g arena t ∙ is)
  where
    by : (o : Option Layout) → is_some o ≡ false → None ≡ option_map (λ (l : Layout). l.size) o
    by None e = refl
    by (Some x) e = absurd (cc)

-- members of aggregates have offsets
pub offset_found : (l : Layouts) (g : Graph) (t n : ℕ) (a : AggId) → InStep l g → IsArena g → slice_get g.nodes t ≡ Some (Agg a) → shape g.nodes t ≡ AggType a.0 → is_some (member_type g (shape g.nodes t) n) ≡ true → IsSome (found_offset l a.0 n)
offset_found l g t n a step arena node is there = ap is_some (step.offsets t a node n) ∙ by (slice_get g.aggs a.0) refl (subst (λ s. is_some (member_type g s n) ≡ true) is there)
  where
    among : (x : Aggregate) (ms : Option (List Member)) → x.members ≡ ms → slice_get g.aggs a.0 ≡ Some x → is_some (option_and_then (λ (ms : List Member). slice_get ms n) ms) ≡ true → is_some (offset g a.0 n) ≡ true
    among x None e has there = absurd (cc)
    among x (Some ms) e has there = offset_there g arena a.0 ms n (ap (option_and_then (λ (x : Aggregate). x.members)) has ∙ e) (get_below ms n (slice_get ms n) refl there)

    kinds : (x : Aggregate) (b : Bool) → slice_get g.aggs a.0 ≡ Some x → is_some (option_map (λ (m : Member). shape g.nodes m.ty.of.0) (if b then None else option_and_then (λ (ms : List Member). slice_get ms n) x.members)) ≡ true → is_some (offset g a.0 n) ≡ true
    kinds x true has there = absurd (cc)
    kinds x false has there = among x x.members refl has (mapped (option_and_then (λ (ms : List Member). slice_get ms n) x.members) there)
      where
        mapped : (o : Option Member) → is_some (option_map (λ (m : Member). shape g.nodes m.ty.of.0) o) ≡ true → is_some o ≡ true
        mapped None e = absurd (cc)
        mapped (Some m) e = refl

    by : (o : Option Aggregate) → slice_get g.aggs a.0 ≡ o → is_some (option_map (λ (m : Member). shape g.nodes m.ty.of.0) (option_and_then (λ (x : Aggregate). member_of g x n) o)) ≡ true → is_some (offset g a.0 n) ≡ true
    by None has there = absurd (cc)
    by (Some x) has there = kinds x (is_enum x.kind) has there
