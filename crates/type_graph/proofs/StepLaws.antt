-- Device: what the fields of an arena are after a step, and the arena that contracts see.
use Rattle.std.proofs.Common.{◌≡◌, ◌≢◌, ℕ, ◌^◌, ◌<◌, Bool, true, false, ◌&&◌, ◌||◌, nat_eq, zero, suc, List, [], ◌∷◌, ◌++◌, length, slice_get, is_some, Option, Some, None, ◌⊎◌, inl, inr, refl, sym, ap, ◌∙◌, subst}
use Rattle.std.proofs.Math.ListN.{set, length-set}
use Rattle.std.proofs.lemmas.Bool.Decides.{eqb_tells}
use Rattle.std.specs.Option.{option_and_then, option_map}
use Rattle.cil_base.specs.declared.kinds.Abi.{Abi}
use Rattle.cil_base.specs.declared.numbers.AggId.{AggId}
use Rattle.cil_base.specs.declared.numbers.NameId.{NameId}
use Rattle.type_graph.specs.declared.aggregates.AggKind.{AggKind}
use Rattle.type_graph.specs.declared.aggregates.Member.{Member}
use Rattle.type_graph.specs.declared.aggregates.Aggregate.{Aggregate}
use Rattle.type_graph.specs.declared.nodes.Node.{Node}
use Rattle.type_graph.specs.Shapes.{shape}
use Rattle.type_graph.specs.Renaming.{renamed_members}
use Rattle.type_graph.specs.Arena.{Graph, IsArena, NamesBelow, members_of, complete, flexible_shape, members_fit, is_struct, is_last, rank, EachBelow, defined_count}
use Rattle.type_graph.specs.Growth.{with_agg, with_members, renamed}
use Rattle.type_graph.proofs.Lists.{get_set_same, get_set_other}
use Rattle.type_graph.proofs.ArenaLaws.{some_there, is_some_from, fit_defined}

abbrev pub graph : Abi → List Node → List Aggregate → List AggId → Graph
graph abi nodes aggs order = record { abi = abi; nodes = nodes; aggs = aggs; completed = order }

pub nodes_are : (abi : Abi) (ns new after : List Node) (xs : List Aggregate) (order : List AggId) (g : Graph) → graph abi ns xs order ≡ g → new ≡ after → graph abi new xs order ≡ record g { nodes = after }
nodes_are abi ns new after xs order g e q = ap (λ (l : List Node). graph abi l xs order) q ∙ ap (λ (k : Graph). record k { nodes = after }) e

pub aggs_are : (abi : Abi) (ns : List Node) (xs new after : List Aggregate) (order : List AggId) (g : Graph) → graph abi ns xs order ≡ g → new ≡ after → graph abi ns new order ≡ record g { aggs = after }
aggs_are abi ns xs new after order g e q = ap (λ (l : List Aggregate). graph abi ns l order) q ∙ ap (λ (k : Graph). record k { aggs = after }) e

pub aggs_stay : (abi : Abi) (ns : List Node) (xs new : List Aggregate) (order : List AggId) (g : Graph) → graph abi ns xs order ≡ g → new ≡ xs → graph abi ns new order ≡ g
aggs_stay abi ns xs new order g e q = ap (λ (l : List Aggregate). graph abi ns l order) q ∙ e

pub order_stays : (abi : Abi) (ns : List Node) (xs : List Aggregate) (order new : List AggId) (g : Graph) → graph abi ns xs order ≡ g → new ≡ order → graph abi ns xs new ≡ g
order_stays abi ns xs order new g e q = ap (graph abi ns xs) q ∙ e

pub agg_is_added : (abi : Abi) (ns : List Node) (xs new : List Aggregate) (order : List AggId) (g : Graph) (x : Aggregate) → graph abi ns xs order ≡ g → new ≡ xs ++ x ∷ [] → graph abi ns new order ≡ with_agg g x
agg_is_added abi ns xs new order g x e q = ap (λ (l : List Aggregate). graph abi ns l order) q ∙ ap (λ (k : Graph). with_agg k x) e

pub members_are : (abi : Abi) (ns : List Node) (xs : List Aggregate) (order new : List AggId) (g : Graph) (a : AggId) (x : Aggregate) (ms : List Member) → graph abi ns xs order ≡ g → new ≡ order ++ a ∷ [] → graph abi ns (set xs a.0 (record x { members = Some ms })) new ≡ with_members g a x ms
members_are abi ns xs order new g a x ms e q = ap (graph abi ns (set xs a.0 (record x { members = Some ms }))) q ∙ ap (λ (k : Graph). with_members k a x ms) e

pub agg_renamed : (abi : Abi) (ns : List Node) (xs : List Aggregate) (order : List AggId) (g : Graph) (a : AggId) (x y : Aggregate) → graph abi ns xs order ≡ g → x ≡ y → graph abi ns (set xs a.0 x) order ≡ record g { aggs = set g.aggs a.0 y }
agg_renamed abi ns xs order g a x y e q = ap (λ (z : Aggregate). graph abi ns (set xs a.0 z) order) q ∙ ap (λ (k : Graph). record k { aggs = set k.aggs a.0 y }) e

-- names have no part in types
EachBelow-renamed : (ns : List Node) (order : List AggId) (r : ℕ) (ms : List Member) (names : List NameId) → EachBelow ns order r ms → EachBelow ns order r (renamed_members ms names)
EachBelow-renamed ns order r [] names h = tt
EachBelow-renamed ns order r (m ∷ ms) [] h = h
EachBelow-renamed ns order r (m ∷ ms) (n ∷ names) (within, below, rest) = (within, below, EachBelow-renamed ns order r ms names rest)

renamed_some : (o : Option (List Member)) (names : List NameId) (bs : List Member) → option_map (λ (ms : List Member). renamed_members ms names) o ≡ Some bs → (ms : List Member) × (o ≡ Some ms) × (renamed_members ms names ≡ bs)
renamed_some None names bs e = cc
renamed_some (Some ms) names bs e = (ms, refl, cc)

abbrev count : ℕ → Option (List Member) → ℕ
count n o = elim o [ None ↦ n | Some ms ↦ suc n ]

count_mapped : (n : ℕ) (names : List NameId) (o : Option (List Member)) → count n (option_map (λ (ms : List Member). renamed_members ms names) o) ≡ count n o
count_mapped n names None = refl
count_mapped n names (Some ms) = refl

count_renamed : (xs : List Aggregate) (a : ℕ) (x : Aggregate) (tag : NameId) (names : List NameId) → slice_get xs a ≡ Some x → defined_count (set xs a (renamed x tag names)) ≡ defined_count xs
count_renamed [] a x tag names at = cc
count_renamed (z ∷ xs) zero x tag names at =
    let same : z ≡ x = cc in
    count_mapped (defined_count xs) names x.members ∙ ap (λ (y : Aggregate). count (defined_count xs) y.members) (sym same)
count_renamed (z ∷ xs) (suc a) x tag names at = ap (λ n. elim z.members [ None ↦ n | Some ms ↦ suc n ]) (count_renamed xs a x tag names at)

last_renamed : (ms : List Member) (names : List NameId) → is_last (renamed_members ms names) ≡ is_last ms
last_renamed [] names = refl
last_renamed (m ∷ ms) [] = refl
last_renamed (m ∷ ms) (n ∷ names) = refl

fit_renamed : (g : Graph) (kind : AggKind) (behind : Bool) (ms : List Member) (names : List NameId) → members_fit g kind behind (renamed_members ms names) ≡ members_fit g kind behind ms
fit_renamed g kind behind [] names = refl
fit_renamed g kind behind (m ∷ ms) [] = refl
fit_renamed g kind behind (m ∷ ms) (n ∷ names) =
    ap (λ (l : Bool). (complete g m.ty.of.0 || (is_struct kind && (behind && (l && flexible_shape g.aggs (shape g.nodes m.ty.of.0))))) && members_fit g kind true (renamed_members ms names)) (last_renamed ms names)
    ∙ ap (λ (r : Bool). (complete g m.ty.of.0 || (is_struct kind && (behind && (is_last ms && flexible_shape g.aggs (shape g.nodes m.ty.of.0))))) && r) (fit_renamed g kind true ms names)

pub IsArena-renamed : (g : Graph) (a : AggId) (x : Aggregate) (tag : NameId) (names : List NameId) → IsArena g → slice_get g.aggs a.0 ≡ Some x → IsArena (record g { aggs = set g.aggs a.0 (renamed x tag names) })
IsArena-renamed g a x tag names w at = record {
  few_nodes = w.few_nodes;
  few_aggs = subst (λ k. k < 2 ^ 32) (sym same_length) w.few_aggs;
  grounded = λ t n e. subst (λ k. NamesBelow t k n) (sym same_length) (w.grounded t n e);
  kinds = w.kinds;
  once = w.once;
  nested = λ b bs e. nested b bs (eqb_tells b a.0) e;
  fitting = λ b z bs e q. fitting b z bs (eqb_tells b a.0) e q;
  counted = w.counted ∙ sym (count_renamed g.aggs a.0 x tag names at);
  ordered = λ i b e. (defined b.0 (w.ordered i b e).0 (eqb_tells b.0 a.0), (w.ordered i b e).1);
}
  where
    same_length : length (set g.aggs a.0 (renamed x tag names)) ≡ length g.aggs
    same_length = length-set g.aggs a.0 (renamed x tag names)

    now : members_of (set g.aggs a.0 (renamed x tag names)) a.0 ≡ option_map (λ (ms : List Member). renamed_members ms names) x.members
    now = ap (option_and_then (λ (z : Aggregate). z.members)) (get_set_same g.aggs a.0 x (renamed x tag names) at)

    was : members_of g.aggs a.0 ≡ x.members
    was = ap (option_and_then (λ (z : Aggregate). z.members)) at

    others : (b : ℕ) → b ≢ a.0 → members_of (set g.aggs a.0 (renamed x tag names)) b ≡ members_of g.aggs b
    others b differ = ap (option_and_then (λ (z : Aggregate). z.members)) (get_set_other g.aggs a.0 b (renamed x tag names) differ)

    nested : (b : ℕ) (bs : List Member) → ((nat_eq b a.0 ≡ true) × (b ≡ a.0)) ⊎ ((nat_eq b a.0 ≡ false) × (b ≢ a.0)) → members_of (set g.aggs a.0 (renamed x tag names)) b ≡ Some bs → (rank g.completed b < length g.completed) × EachBelow g.nodes g.completed (rank g.completed b) bs
    nested b bs (inl h) e =
        let some = renamed_some x.members names bs (sym now ∙ ap (members_of (set g.aggs a.0 (renamed x tag names))) (sym h.1) ∙ e) in
        let old = w.nested b some.0 (ap (members_of g.aggs) h.1 ∙ was ∙ some.1) in
        (old.0, subst (EachBelow g.nodes g.completed (rank g.completed b)) some.2 (EachBelow-renamed g.nodes g.completed (rank g.completed b) some.0 names old.1))
    nested b bs (inr h) e = w.nested b bs (sym (others b h.1) ∙ e)

    defined : (b : ℕ) → is_some (members_of g.aggs b) ≡ true → ((nat_eq b a.0 ≡ true) × (b ≡ a.0)) ⊎ ((nat_eq b a.0 ≡ false) × (b ≢ a.0)) → is_some (members_of (set g.aggs a.0 (renamed x tag names)) b) ≡ true
    defined b d (inl h) =
        let there = some_there (members_of g.aggs b) d in
        is_some_from (members_of (set g.aggs a.0 (renamed x tag names)) b) (renamed_members there.0 names) (ap (members_of (set g.aggs a.0 (renamed x tag names))) h.1 ∙ now ∙ ap (option_map (λ (ms : List Member). renamed_members ms names)) (sym was ∙ ap (members_of g.aggs) (sym h.1) ∙ there.1))
    defined b d (inr h) = ap is_some (others b h.1) ∙ d

    still : (k : ℕ) → is_some (members_of g.aggs k) ≡ true → is_some (members_of (set g.aggs a.0 (renamed x tag names)) k) ≡ true
    still k d = defined k d (eqb_tells k a.0)

    fitting : (b : ℕ) (z : Aggregate) (bs : List Member) → ((nat_eq b a.0 ≡ true) × (b ≡ a.0)) ⊎ ((nat_eq b a.0 ≡ false) × (b ≢ a.0)) → slice_get (set g.aggs a.0 (renamed x tag names)) b ≡ Some z → z.members ≡ Some bs → members_fit (record g { aggs = set g.aggs a.0 (renamed x tag names) }) z.kind false bs ≡ true
    fitting b z bs (inl h) e q =
        let same : renamed x tag names ≡ z = let p : Some (renamed x tag names) ≡ Some z = sym (get_set_same g.aggs a.0 x (renamed x tag names) at) ∙ ap (slice_get (set g.aggs a.0 (renamed x tag names))) (sym h.1) ∙ e in cc in
        let some = renamed_some x.members names bs (ap (λ (v : Aggregate). v.members) same ∙ q) in
        subst (λ (v : Aggregate). members_fit (record g { aggs = set g.aggs a.0 (renamed x tag names) }) v.kind false bs ≡ true) same
        (fit_defined g (set g.aggs a.0 (renamed x tag names)) x.kind bs still (record g { aggs = set g.aggs a.0 (renamed x tag names) }) refl refl
        (subst (λ (l : List Member). members_fit g x.kind false l ≡ true) some.2 (fit_renamed g x.kind false some.0 names ∙ w.fitting a.0 x some.0 at some.1)))
    fitting b z bs (inr h) e q = fit_defined g (set g.aggs a.0 (renamed x tag names)) z.kind bs still (record g { aggs = set g.aggs a.0 (renamed x tag names) }) refl refl (w.fitting b z bs (sym (get_set_other g.aggs a.0 b (renamed x tag names) h.1) ∙ e) q)
