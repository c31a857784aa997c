-- Device: steps of the reading of aggregates.
use Rattle.std.proofs.Common.{◌≡◌, ◌≢◌, ℕ, zero, suc, ◌+◌, ◌-◌, ◌<◌, ◌≤◌, nat_eq, Bool, true, false, cond, not, ◌&&◌, ◌||◌, List, [], ◌∷◌, ◌++◌, map, length, take, drop, slice_get, slice_set, is_some, Option, Some, None, refl, sym, ap, ◌∙◌, arith, length-append, append_assoc, append-nil, subst, Vec}
use Rattle.std.specs.List.{list_all}
use Rattle.std.specs.Option.{option_map, option_and_then}
use Rattle.std.specs.Str.{bytes_eq}
use Rattle.std.specs.Global.{Global}
use Rattle.std.proofs.lemmas.List.{map-append, map-set, length-map, take-append-le, take_all}
use Rattle.std.proofs.lemmas.Bool.Decides.{nat_tests}
use Rattle.std.proofs.lemmas.Option.{slice_get-map}
use Rattle.std.proofs.lemmas.Slice.Eq.{bytes_eq-Decides}
use Rattle.std.proofs.Math.ListN.{drop_of_length-le, length-set}
use Rattle.std.proofs.Math.Seq.{drop-append_seam, take-append_seam}
use Rattle.cil_base.specs.declared.kinds.Abi.{Abi}
use Rattle.cil_base.specs.declared.kinds.IntKind.TheVariants.{Int as int}
use Rattle.cil_base.specs.declared.numbers.AggId.{AggId}
use Rattle.cil_base.specs.declared.numbers.NameId.{NameId}
use Rattle.cil_base.specs.Arithmetic.{fits}
use Rattle.cil_base.specs.NamePool.{Interns}
use Rattle.cil_base.proofs.PoolLemmas.{list_any-get}
use Rattle.type_graph.specs.declared.aggregates.AggKind.{AggKind}
use Rattle.type_graph.specs.declared.aggregates.AggKind.TheVariants.{Enum}
use Rattle.type_graph.specs.declared.aggregates.Aggregate.{Aggregate}
use Rattle.type_graph.specs.declared.aggregates.Member.{Member}
use Rattle.type_graph.specs.declared.nodes.Node.{Node}
use Rattle.type_graph.specs.Shapes.{Shape, VoidType, IntType, PtrType, ArrayType, FuncType, AggType, shape}
use Rattle.type_graph.specs.Arena.{Graph, EachType, members_of, complete_shape, flexible_shape, is_struct, members_fit}
use Rattle.type_graph.specs.Growth.{Grows, KeepsAggregates, with_agg, with_members}
use Rattle.type_graph.proofs.GrowthLaws.{grows_twice, grows_agg}
use Rattle.type_graph.proofs.Lists.{get_there}
use Rattle.cil_tree.specs.Tree.{Local}
use Rattle.cil_tree.specs.Typing.{is_enum}
use Rattle.cil_tree.specs.WellFormedTypes.{members_are_unqualified}
use Rattle.cil_tree.specs.View.{text_at}
use Rattle.cil_tree.specs.Names.{is_among, are_different}
use Rattle.cil_tree.specs.Programs.{SeenMember, SeenAggregate, seen_member, seen_aggregate}
use Rattle.cil_text.specs.Words.{Word, Comma, Assign, Name, TagWord, Semicolon}
use Rattle.cil_text.specs.Allowed.{allowed, members_among, is_complete, is_flexible, can_hold, member_name_of, stands_well, stand_well}
use Rattle.cil_text.specs.Allowed as reading
use Rattle.cil_text.specs.ReadTypes.{Bases, find}
use Rattle.cil_text.specs.ReadExps.{Env, bases}
use Rattle.cil_text.specs.ReadStmts.{Numbered, read_number}
use Rattle.cil_text.specs.ReadAggregates.{Lines, LinesReading, enumerator_at, read_enumerator, read_member, member_first, is_close, read_members, opened_tag, lone_tag, enum_with, aggregate_first, read_enums, Tag, tag_first, read_tags, complete_with, incomplete, is_opened, read_structs, tag_of, tag_text_of, all_tags, all_bases, with_enums, structs_from, first_allowed, read_placed}
use Rattle.cil_text.specs.ReadGlobals.{seen_field, seen_fields, bases_from}
use Rattle.cil_reader.specs.declared.names.Names.{Names}
use Rattle.cil_reader.specs.declared.names.Known.{Known}
use Rattle.cil_reader.specs.Settings.{Setting, KnownIn, zipped, locals_of, env_of, env_in}
use Rattle.cil_declarators.specs.Bases.{bases_in}
use Rattle.cil_declarators.specs.Fresh.{with_new}
use Rattle.cil_reader.specs.Pools.{KeepsNames}
use Rattle.cil_reader.specs.Members.{AreThere, may_hold, may_complete, member_in, members_in, MembersKnown, type_number, FieldsKnown, enumerator_with, members_behind, enumerators_from, members_apart, members_from}
use Rattle.cil_reader.specs.Aggregates.{program_with, aggregates_in, AggregatesKnown, Holds, IsBlank, AddsTag, completed, with_fields, is_number, enum_behind, one_enum, one_more, enum_if, next_enum, tags_apart, enums_from, enums_on, with_tag, tag_before, tag_if, next_tag, tags_behind, tags_from, tags_on, bit, tag_back, AreOpen, ArePlain, first_tag, tag_at, complete_behind, one_complete, own_if, own_members, one_struct, stands_behind, structs_behind, structs_after, tagged_structs, AggregatesAdded}
use Rattle.cil_reader.proofs.SettingsLaws.{setting_kept, setting_model}
use Rattle.cil_reader.proofs.MemberLaws.{locals_known, both_true, all_joined, different_without, different_more, different_front, new_some, new_none, text_is}
use Rattle.cil_reader.proofs.PoolLaws.{pool_twice}

-- lists by place

take_next : {A : Type 0} (a : ℕ) (xs : List A) (x : A) → slice_get xs a ≡ Some x → take (suc a) xs ≡ take a xs ++ x ∷ []
take_next a [] x e = absurd (cc e)
take_next zero (y ∷ xs) x e = let same : y ≡ x = cc in ap (λ z. z ∷ []) same
take_next (suc a) (y ∷ xs) x e = ap (λ zs. y ∷ zs) (take_next a xs x e)

drop_next : {A : Type 0} (a : ℕ) (xs : List A) (x : A) → slice_get xs a ≡ Some x → drop a xs ≡ x ∷ drop (suc a) xs
drop_next a [] x e = absurd (cc e)
drop_next zero (y ∷ xs) x e = let same : y ≡ x = cc in ap (λ z. z ∷ xs) same
drop_next (suc a) (y ∷ xs) x e = drop_next a xs x e

take_set : {A : Type 0} (a : ℕ) (xs : List A) (x y : A) → slice_get xs a ≡ Some x → take (suc a) (slice_set xs a y) ≡ take a xs ++ y ∷ []
take_set a [] x y e = absurd (cc e)
take_set zero (z ∷ xs) x y e = refl
take_set (suc a) (z ∷ xs) x y e = ap (λ zs. z ∷ zs) (take_set a xs x y e)

drop_set : {A : Type 0} (a : ℕ) (xs : List A) (y : A) → drop (suc a) (slice_set xs a y) ≡ drop (suc a) xs
drop_set zero [] y = refl
drop_set (suc a) [] y = refl
drop_set zero (z ∷ xs) y = refl
drop_set (suc a) (z ∷ xs) y = drop_set a xs y

set_at : {A B : Type 0} (f : A → B) (xs : List A) (a : ℕ) (x y : A) → slice_get xs a ≡ Some x → f y ≡ f x → map f (slice_set xs a y) ≡ map f xs
set_at f [] a x y e h = refl
set_at f (z ∷ xs) zero x y e h = let same : z ≡ x = cc in ap (λ w. w ∷ map f xs) (h ∙ ap f (sym same))
set_at f (z ∷ xs) (suc a) x y e h = ap (λ ws. f z ∷ ws) (set_at f xs a x y e h)

-- aggregates whose members have no qualifiers

all_set : (xs : List Aggregate) (a : ℕ) (y : Aggregate) → list_all members_are_unqualified xs ≡ true → members_are_unqualified y ≡ true → list_all members_are_unqualified (slice_set xs a y) ≡ true
all_set [] a y e f = refl
all_set (x ∷ xs) zero y e f = let h = both_true (members_are_unqualified x) (list_all members_are_unqualified xs) e in ap (λ b. b && list_all members_are_unqualified xs) f ∙ h.1
all_set (x ∷ xs) (suc a) y e f =
    let h = both_true (members_are_unqualified x) (list_all members_are_unqualified xs) e in
    ap (λ b. b && list_all members_are_unqualified (slice_set xs a y)) h.0 ∙ all_set xs a y h.1 f

plus_one : (a : ℕ) → a + 1 ≡ suc a
plus_one a = omega arith

-- what is seen of a graph

pub count_in : (g : Graph) (names : List (List ℕ)) → length (aggregates_in g names) ≡ length g.aggs
unfolding aggregates_in
count_in g names = length-map g.aggs (seen_aggregate (program_with g names))

-- what the graph has is seen alike later
pub seen_later : (g h : Graph) (names later : List (List ℕ)) → AggregatesKnown g names → Grows g h → KeepsAggregates g h → KeepsNames names later → aggregates_in h later ≡ aggregates_in g names
unfolding aggregates_in
seen_later g h names later k r same q = ap (map (seen_aggregate (program_with h later))) same.0 ∙ k.steady h later r q

pub aggregates_later : (g h : Graph) (names later : List (List ℕ)) → AggregatesKnown g names → Grows g h → KeepsAggregates g h → KeepsNames names later → AggregatesKnown h later
aggregates_later g h names later k r same q = record {
  steady = λ i last p o.
      ap (map (seen_aggregate (program_with i last))) same.0
      ∙ k.steady i last (grows_twice g h i r p) (pool_twice names later last q o)
      ∙ sym (seen_later g h names later k r same q);
}

pub holds_later : (s t : Setting) (names later : List (List ℕ)) (k : ℕ) → Holds s names k → Grows s.graph t.graph → KeepsAggregates s.graph t.graph → env_in t ≡ env_in s → KeepsNames names later → Holds t later k
holds_later s t names later k h r same e q =
    let now = seen_later s.graph t.graph names later h.seen r same q in record {
      seen = aggregates_later s.graph t.graph names later h.seen r same q;
      tags = ap (λ (env : Env). env.tags) e ∙ h.tags ∙ ap (map tag_of) (sym now);
      apart = ap (λ (env : Env). are_different env.tags) e ∙ h.apart;
      fields = ap (λ (env : Env). env.members) e ∙ h.fields ∙ ap (λ xs. map seen_fields (take k xs)) (sym now);
      plain = ap (list_all members_are_unqualified) same.0 ∙ h.plain;
    }

pub blank_holds : (s : Setting) (names : List (List ℕ)) → IsBlank s → Holds s names (length s.graph.aggs)
unfolding aggregates_in env_in env_of
blank_holds s names b = record {
  seen = record { steady = λ h later r q. ap (map (seen_aggregate (program_with h later))) b.aggs ∙ sym (ap (map (seen_aggregate (program_with s.graph names))) b.aggs) };
  tags = b.tags ∙ sym (ap (λ (xs : List Aggregate). map tag_of (map (seen_aggregate (program_with s.graph names)) xs)) b.aggs);
  apart = ap are_different b.tags;
  fields = ap (map (locals_of s.graph.nodes)) b.members ∙ sym (ap (λ (xs : List Aggregate). map seen_fields (take (length xs) (map (seen_aggregate (program_with s.graph names)) xs))) b.aggs);
  plain = ap (list_all members_are_unqualified) b.aggs;
}

blank_none : (s : Setting) (names : List (List ℕ)) → IsBlank s → aggregates_in s.graph names ≡ []
unfolding aggregates_in
blank_none s names b = ap (map (seen_aggregate (program_with s.graph names))) b.aggs

-- the names that are known

abbrev pub setting : Graph → Known → Setting
setting g k = record { graph = g; known = k }

locals_kept : (g h : Graph) (k : Known) (x : Names) → Grows g h → KnownIn g k → EachType (length g.nodes) x.types.items → locals_of h.nodes x ≡ locals_of g.nodes x
unfolding env_in env_of
locals_kept g h k x r known e = ap (λ (env : Env). env.locals) (setting_kept (setting g (record k { locals = x })) (setting h (record k { locals = x })) r (locals_known g k x known e) refl)

with_more : (g : Graph) (k : Known) (v : Vec Names Global) (x : Names) → v.items ≡ k.members.items ++ x ∷ [] → env_of g (record k { members = v }) ≡ with_fields (env_of g k) (locals_of g.nodes x)
unfolding env_of
with_more g k v x e =
    ap (λ ms. record { abi = g.abi; tags = k.tags; members = ms; globals = locals_of g.nodes k.globals; locals = locals_of g.nodes k.locals })
    (ap (map (locals_of g.nodes)) e ∙ map-append (locals_of g.nodes) k.members.items (x ∷ []))

pub fields_env : (s t : Setting) (v : Vec Names Global) (x : Names) → Grows s.graph t.graph → KnownIn s.graph s.known → EachType (length s.graph.nodes) x.types.items → v.items ≡ s.known.members.items ++ x ∷ [] → t.known ≡ record s.known { members = v } → env_in t ≡ with_fields (env_in s) (locals_of s.graph.nodes x)
unfolding env_in
fields_env s t v x r known e is same =
    ap (env_of t.graph) same
    ∙ with_more t.graph s.known v x is
    ∙ ap (λ env. with_fields env (locals_of t.graph.nodes x)) (setting_kept s (record { graph = t.graph; known = s.known }) r known refl)
    ∙ ap (with_fields (env_of s.graph s.known)) (locals_kept s.graph t.graph s.known x r known e)

pub nothing_env : (s t : Setting) (v : Vec Names Global) (x : Names) → t.graph ≡ s.graph → x.numbering ≡ [] → v.items ≡ s.known.members.items ++ x ∷ [] → t.known ≡ record s.known { members = v } → env_in t ≡ with_fields (env_in s) []
unfolding env_in
nothing_env s t v x graph none is same =
    ap (env_of t.graph) same
    ∙ ap (λ (g : Graph). env_of g (record s.known { members = v })) graph
    ∙ with_more s.graph s.known v x is
    ∙ ap (λ ns. with_fields (env_of s.graph s.known) (zipped s.graph.nodes ns x.types.items)) none

pub tag_members : (s t : Setting) (ts : List (List ℕ)) → t.graph.nodes ≡ s.graph.nodes → t.known ≡ record s.known { tags = ts } → (env_in t).members ≡ (env_in s).members
unfolding env_in env_of
tag_members s t ts nodes same = ap (λ (k : Known). map (locals_of t.graph.nodes) k.members.items) same ∙ ap (λ ns. map (locals_of ns) s.known.members.items) nodes

-- an aggregate more

pub adds_tag : (g h : Graph) (old names : List (List ℕ)) (kind : AggKind) (tag : List ℕ) (n : NameId) → Interns old names tag n.0 → h ≡ with_agg g (record { kind = kind; tag = Some n; members = None }) → AddsTag g h names kind tag
adds_tag g h old names kind tag n i e = record { name = n; text = i.number; is = e }

abbrev bare : AggKind → NameId → Aggregate
bare kind n = record { kind = kind; tag = Some n; members = None }

bare_seen : (g : Graph) (names : List (List ℕ)) (kind : AggKind) (tag : List ℕ) (n : NameId) → slice_get names n.0 ≡ Some tag → seen_aggregate (program_with g names) (bare kind n) ≡ incomplete (kind, tag)
bare_seen g names kind tag n e = ap (λ (t : List ℕ). incomplete (kind, t)) (text_is names n.0 tag e)

pub tag_seen : (g h : Graph) (names later : List (List ℕ)) (kind : AggKind) (tag : List ℕ) → AggregatesKnown g names → KeepsNames names later → AddsTag g h later kind tag → aggregates_in h later ≡ aggregates_in g names ++ incomplete (kind, tag) ∷ []
unfolding aggregates_in
tag_seen g h names later kind tag k q a =
    ap (λ (x : Graph). map (seen_aggregate (program_with h later)) x.aggs) a.is
    ∙ map-append (seen_aggregate (program_with h later)) g.aggs (bare kind a.name ∷ [])
    ∙ ap (λ xs. xs ++ seen_aggregate (program_with h later) (bare kind a.name) ∷ []) (k.steady h later (grows_agg g h (bare kind a.name) a.is) q)
    ∙ ap (λ x. aggregates_in g names ++ x ∷ []) (bare_seen h later kind tag a.name a.text)

tag_steady : (g h : Graph) (names later : List (List ℕ)) (kind : AggKind) (tag : List ℕ) → AggregatesKnown g names → KeepsNames names later → AddsTag g h later kind tag → AggregatesKnown h later
tag_steady g h names later kind tag k q a = record {
  steady = λ i last r p.
      ap (λ (x : Graph). map (seen_aggregate (program_with i last)) x.aggs) a.is
      ∙ map-append (seen_aggregate (program_with i last)) g.aggs (bare kind a.name ∷ [])
      ∙ ap (λ xs. xs ++ seen_aggregate (program_with i last) (bare kind a.name) ∷ []) (k.steady i last (grows_twice g h i (grows_agg g h (bare kind a.name) a.is) r) (pool_twice names later last q p))
      ∙ ap (λ x. aggregates_in g names ++ x ∷ []) (bare_seen i last kind tag a.name (p.at a.name.0 tag a.text))
      ∙ sym (tag_seen g h names later kind tag k q a);
}

pub tag_holds : (s t : Setting) (names later : List (List ℕ)) (k : ℕ) (kind : AggKind) (tag : List ℕ) → Holds s names k → k ≤ length s.graph.aggs → KeepsNames names later → AddsTag s.graph t.graph later kind tag →
    with_new (env_in s).tags tag ≡ Some (env_in t).tags → (env_in t).members ≡ (env_in s).members → Holds t later k
tag_holds s t names later k kind tag h less q a e same =
    let new = new_some (env_in s).tags (env_in t).tags tag e in
    let now = tag_seen s.graph t.graph names later kind tag h.seen q a in record {
      seen = tag_steady s.graph t.graph names later kind tag h.seen q a;
      tags =
          new.1
          ∙ ap (λ ts. ts ++ tag ∷ []) h.tags
          ∙ sym (map-append tag_of (aggregates_in s.graph names) (incomplete (kind, tag) ∷ []))
          ∙ ap (map tag_of) (sym now);
      apart = ap are_different new.1 ∙ different_more (env_in s).tags tag h.apart new.0;
      fields =
          same ∙ h.fields
          ∙ ap (map seen_fields) (sym (take-append-le k (aggregates_in s.graph names) (incomplete (kind, tag) ∷ []) (omega (arith, less, count_in s.graph names))))
          ∙ ap (λ xs. map seen_fields (take k xs)) (sym now);
      plain = ap (λ (g : Graph). list_all members_are_unqualified g.aggs) a.is ∙ all_joined members_are_unqualified s.graph.aggs (bare kind a.name) h.plain refl;
    }

pub tag_gives : (s t : Setting) (names later : List (List ℕ)) (k : ℕ) (kind : AggKind) (tag : List ℕ) → Holds s names k → KeepsNames names later → AddsTag s.graph t.graph later kind tag → with_new (env_in s).tags tag ≡ Some (env_in t).tags →
    with_tag (aggregates_in s.graph names) (kind, tag) ≡ Some (aggregates_in t.graph later)
tag_gives s t names later k kind tag h q a e =
    ap (λ b. cond b None (Some (aggregates_in s.graph names ++ incomplete (kind, tag) ∷ []))) (ap (λ ts. is_among ts tag) (sym h.tags) ∙ (new_some (env_in s).tags (env_in t).tags tag e).0)
    ∙ ap Some (sym (tag_seen s.graph t.graph names later kind tag h.seen q a))

pub tag_refused : (s : Setting) (names : List (List ℕ)) (k : ℕ) (kind : AggKind) (tag : List ℕ) → Holds s names k → with_new (env_in s).tags tag ≡ None → with_tag (aggregates_in s.graph names) (kind, tag) ≡ None
tag_refused s names k kind tag h e = ap (λ b. cond b None (Some (aggregates_in s.graph names ++ incomplete (kind, tag) ∷ []))) (ap (λ ts. is_among ts tag) (sym h.tags) ∙ new_none (env_in s).tags tag e)

pub tag_count : (g h : Graph) (names : List (List ℕ)) (kind : AggKind) (tag : List ℕ) (k : ℕ) → k ≤ length g.aggs → AddsTag g h names kind tag → k ≤ length h.aggs
tag_count g h names kind tag k less a = omega (arith, less, ap (λ (x : Graph). length x.aggs) a.is, length-append g.aggs (bare kind a.name ∷ []))

-- which types are complete

alike_shape : (aggs : List Aggregate) (xs : List SeenAggregate) → ((b : ℕ) → is_some (members_of aggs b) ≡ is_some (members_among xs b)) → (s : Shape) → complete_shape aggs s ≡ is_complete xs s
alike_shape aggs xs e VoidType = refl
alike_shape aggs xs e (IntType kind) = refl
alike_shape aggs xs e (PtrType q s) = refl
alike_shape aggs xs e (ArrayType q s None) = refl
alike_shape aggs xs e (ArrayType q s (Some n)) = alike_shape aggs xs e s
alike_shape aggs xs e (FuncType ret params proto variadic) = refl
alike_shape aggs xs e (AggType a) = e a

alike_flexible : (aggs : List Aggregate) (xs : List SeenAggregate) → ((b : ℕ) → is_some (members_of aggs b) ≡ is_some (members_among xs b)) → (s : Shape) → flexible_shape aggs s ≡ is_flexible xs s
alike_flexible aggs xs e VoidType = refl
alike_flexible aggs xs e (IntType kind) = refl
alike_flexible aggs xs e (PtrType q s) = refl
alike_flexible aggs xs e (ArrayType q s None) = alike_shape aggs xs e s
alike_flexible aggs xs e (ArrayType q s (Some n)) = refl
alike_flexible aggs xs e (FuncType ret params proto variadic) = refl
alike_flexible aggs xs e (AggType a) = refl

members_seen : (g : Graph) (names : List (List ℕ)) (ms : List Member) → map (seen_member (program_with g names)) ms ≡ members_in g.nodes names ms
unfolding members_in
members_seen g names ms = refl

alike_fit : (g : Graph) (names : List (List ℕ)) (xs : List SeenAggregate) → ((b : ℕ) → is_some (members_of g.aggs b) ≡ is_some (members_among xs b)) → (kind : AggKind) (behind : Bool) (ms : List Member) →
    members_fit g kind behind ms ≡ can_hold xs kind behind (map (seen_member (program_with g names)) ms)
alike_fit g names xs e kind behind [] = refl
alike_fit g names xs e kind behind (m ∷ []) =
    ap (λ c. (c || (is_struct kind && (behind && flexible_shape g.aggs (shape g.nodes m.ty.of.0)))) && true) (alike_shape g.aggs xs e (shape g.nodes m.ty.of.0))
    ∙ ap (λ c. (is_complete xs (shape g.nodes m.ty.of.0) || (is_struct kind && (behind && c))) && true) (alike_flexible g.aggs xs e (shape g.nodes m.ty.of.0))
alike_fit g names xs e kind behind (m ∷ n ∷ ms) =
    ap (λ c. (c || (is_struct kind && (behind && false))) && members_fit g kind true (n ∷ ms)) (alike_shape g.aggs xs e (shape g.nodes m.ty.of.0))
    ∙ ap (λ c. (is_complete xs (shape g.nodes m.ty.of.0) || (is_struct kind && (behind && false))) && c) (alike_fit g names xs e kind true (n ∷ ms))

open_none : (xs : List SeenAggregate) (b : ℕ) → AreOpen xs → is_some (members_among xs b) ≡ false
open_none [] b o = refl
open_none (x ∷ xs) zero o = ap (λ (y : SeenAggregate). is_some y.members) o.0
open_none (x ∷ xs) (suc b) o = open_none xs b o.1

among_taken : (a : ℕ) (xs : List SeenAggregate) (b : ℕ) → AreOpen (drop a xs) → is_some (members_among xs b) ≡ is_some (members_among (take a xs) b)
among_taken zero xs b o = open_none xs b o
among_taken (suc a) [] b o = refl
among_taken (suc a) (x ∷ xs) zero o = refl
among_taken (suc a) (x ∷ xs) (suc b) o = among_taken a xs b o

some_mapped : {A B : Type 0} (f : A → B) (o : Option A) → is_some (option_map f o) ≡ is_some o
some_mapped f None = refl
some_mapped f (Some x) = refl

among_seen : (g : Graph) (names : List (List ℕ)) (b : ℕ) → is_some (members_of g.aggs b) ≡ is_some (members_among (aggregates_in g names) b)
unfolding aggregates_in
among_seen g names b = sym (ap (λ o. is_some (option_and_then (λ (x : SeenAggregate). x.members) o)) (slice_get-map (seen_aggregate (program_with g names)) g.aggs b) ∙ by (slice_get g.aggs b))
  where
    by : (o : Option Aggregate) → is_some (option_and_then (λ (x : SeenAggregate). x.members) (option_map (seen_aggregate (program_with g names)) o)) ≡ is_some (option_and_then (λ (x : Aggregate). x.members) o)
    by None = refl
    by (Some x) = some_mapped (map (seen_member (program_with g names))) x.members

-- the members that an aggregate behind these may have
fits_here : (g : Graph) (names : List (List ℕ)) (a : ℕ) (kind : AggKind) (ms : List Member) → AreOpen (drop a (aggregates_in g names)) → members_fit g kind false ms ≡ can_hold (take a (aggregates_in g names)) kind false (members_in g.nodes names ms)
fits_here g names a kind ms o =
    alike_fit g names (take a (aggregates_in g names)) (λ b. among_seen g names b ∙ among_taken a (aggregates_in g names) b o) kind false ms
    ∙ ap (can_hold (take a (aggregates_in g names)) kind false) (members_seen g names ms)

-- an aggregate gets its members

pub completed_gives : (g h : Graph) (a : AggId) (ms : List Member) → may_complete g a.0 ms ≡ true → ((x : Aggregate) → slice_get g.aggs a.0 ≡ Some x → h ≡ with_members g a x ms) → completed g a ms ≡ Some h
completed_gives g h a ms e f = by (slice_get g.aggs a.0) e f
  where
    by : (o : Option Aggregate) → elim o as (λ _. Bool) [ None ↦ false | Some x ↦ may_hold g x ms ] ≡ true → ((x : Aggregate) → o ≡ Some x → h ≡ with_members g a x ms) → elim o as (λ _. Option Graph) [ None ↦ None | Some x ↦ cond (may_hold g x ms) (Some (with_members g a x ms)) None ] ≡ Some h
    by None p q = absurd (cc p)
    by (Some x) p q = ap (λ b. cond b (Some (with_members g a x ms)) None) p ∙ ap Some (sym (q x refl))

pub completed_open : (g : Graph) (a : AggId) (ms : List Member) → may_complete g a.0 ms ≡ false → completed g a ms ≡ None
completed_open g a ms e = by (slice_get g.aggs a.0) e
  where
    by : (o : Option Aggregate) → elim o as (λ _. Bool) [ None ↦ false | Some x ↦ may_hold g x ms ] ≡ false → elim o as (λ _. Option Graph) [ None ↦ None | Some x ↦ cond (may_hold g x ms) (Some (with_members g a x ms)) None ] ≡ None
    by None p = refl
    by (Some x) p = ap (λ b. cond b (Some (with_members g a x ms)) None) p

pub completed_some : (g h : Graph) (a : AggId) (ms : List Member) → completed g a ms ≡ Some h → (x : Aggregate) × (slice_get g.aggs a.0 ≡ Some x) × (may_hold g x ms ≡ true) × (h ≡ with_members g a x ms)
completed_some g h a ms e = by (slice_get g.aggs a.0) refl e
  where
    one : (x : Aggregate) (b : Bool) → slice_get g.aggs a.0 ≡ Some x → may_hold g x ms ≡ b → cond b (Some (with_members g a x ms)) None ≡ Some h → (y : Aggregate) × (slice_get g.aggs a.0 ≡ Some y) × (may_hold g y ms ≡ true) × (h ≡ with_members g a y ms)
    one x true p q f = (x, p, q, cc)
    one x false p q f = absurd (cc f)

    by : (o : Option Aggregate) → slice_get g.aggs a.0 ≡ o → elim o as (λ _. Option Graph) [ None ↦ None | Some x ↦ cond (may_hold g x ms) (Some (with_members g a x ms)) None ] ≡ Some h → (x : Aggregate) × (slice_get g.aggs a.0 ≡ Some x) × (may_hold g x ms ≡ true) × (h ≡ with_members g a x ms)
    by None p f = absurd (cc f)
    by (Some x) p f = one x (may_hold g x ms) p refl f

completed_none : (g : Graph) (a : AggId) (x : Aggregate) (ms : List Member) → slice_get g.aggs a.0 ≡ Some x → completed g a ms ≡ None → may_hold g x ms ≡ false
completed_none g a x ms at e = by (may_hold g x ms) (sym (ap (λ o. elim o as (λ _. Option Graph) [ None ↦ None | Some y ↦ cond (may_hold g y ms) (Some (with_members g a y ms)) None ]) at) ∙ e)
  where
    by : (b : Bool) → cond b (Some (with_members g a x ms)) None ≡ None → b ≡ false
    by true f = absurd (cc f)
    by false f = refl

pub seen_at : (g : Graph) (names : List (List ℕ)) (a : ℕ) (x : Aggregate) → slice_get g.aggs a ≡ Some x → slice_get (aggregates_in g names) a ≡ Some (seen_aggregate (program_with g names) x)
unfolding aggregates_in
seen_at g names a x e = slice_get-map (seen_aggregate (program_with g names)) g.aggs a ∙ ap (option_map (seen_aggregate (program_with g names))) e

tag_is : (g : Graph) (names : List (List ℕ)) (a : ℕ) (x : Aggregate) → slice_get g.aggs a ≡ Some x → tag_at a (aggregates_in g names) ≡ tag_back (seen_aggregate (program_with g names) x)
tag_is g names a x e = ap first_tag (drop_next a (aggregates_in g names) (seen_aggregate (program_with g names) x) (seen_at g names a x e))

pub open_at : (xs : List SeenAggregate) (a : ℕ) (y : SeenAggregate) → slice_get xs a ≡ Some y → AreOpen (drop a xs) → y ≡ incomplete (tag_back y)
open_at xs a y e o = (subst AreOpen (drop_next a xs y e) o).0

plain_at : (xs : List SeenAggregate) (a : ℕ) → a < length xs → ArePlain (drop a xs) → is_enum (tag_at a xs).0 ≡ false
plain_at xs a less o =
    let found = get_there xs a less in
    ap (λ ys. is_enum (first_tag ys).0) (drop_next a xs found.0 found.1) ∙ (subst ArePlain (drop_next a xs found.0 found.1) o).0

abbrev given : Aggregate → List Member → Aggregate
given x ms = record x { members = Some ms }

-- an aggregate with its members, where it was seen without
given_seen : (g i : Graph) (names last : List (List ℕ)) (x : Aggregate) (ms : List Member) → seen_aggregate (program_with i last) x ≡ incomplete (tag_back (seen_aggregate (program_with i last) x)) →
    seen_aggregate (program_with i last) (given x ms) ≡ complete_with (tag_back (seen_aggregate (program_with i last) x)) (members_in i.nodes last ms)
unfolding members_in
given_seen g i names last x ms e = ap (λ t. record { kind = x.kind; tag = t; members = Some (map (member_in i.nodes last) ms) }) (ap (λ (y : SeenAggregate). y.tag) e)

pub complete_seen : (g h : Graph) (names : List (List ℕ)) (a : AggId) (ms : List Member) → AreOpen (drop a.0 (aggregates_in g names)) → completed g a ms ≡ Some h →
    aggregates_in h names ≡ slice_set (aggregates_in g names) a.0 (complete_with (tag_at a.0 (aggregates_in g names)) (members_in g.nodes names ms))
unfolding aggregates_in
complete_seen g h names a ms o e =
    let found = completed_some g h a ms e in
    let x = found.0 in
    let f = seen_aggregate (program_with g names) in
    ap (λ (i : Graph). map (seen_aggregate (program_with i names)) i.aggs) found.3
    ∙ map-set f g.aggs a.0 (given x ms)
    ∙ ap (slice_set (map f g.aggs) a.0) (given_seen g g names names x ms (open_at (map f g.aggs) a.0 (f x) (seen_at g names a.0 x found.1) o))
    ∙ ap (λ t. slice_set (map f g.aggs) a.0 (complete_with t (members_in g.nodes names ms))) (sym (tag_is g names a.0 x found.1))

hold_fit : (g : Graph) (x : Aggregate) (ms : List Member) → may_hold g x ms ≡ true → members_fit g x.kind false ms ≡ true
hold_fit g x ms e = by (is_some x.members) e
  where
    by : (b : Bool) → cond b false (members_fit g x.kind false ms) ≡ true → members_fit g x.kind false ms ≡ true
    by true f = absurd (cc f)
    by false f = f

hold_unfit : (g : Graph) (x : Aggregate) (ms : List Member) → is_some x.members ≡ false → may_hold g x ms ≡ false → members_fit g x.kind false ms ≡ false
hold_unfit g x ms e f = sym (ap (λ b. cond b false (members_fit g x.kind false ms)) e) ∙ f

complete_fits : (g h : Graph) (names : List (List ℕ)) (a : AggId) (ms : List Member) → AreOpen (drop a.0 (aggregates_in g names)) → completed g a ms ≡ Some h →
    can_hold (take a.0 (aggregates_in g names)) (tag_at a.0 (aggregates_in g names)).0 false (members_in g.nodes names ms) ≡ true
complete_fits g h names a ms o e =
    let found = completed_some g h a ms e in
    ap (λ (t : Tag). can_hold (take a.0 (aggregates_in g names)) t.0 false (members_in g.nodes names ms)) (tag_is g names a.0 found.0 found.1)
    ∙ sym (fits_here g names a.0 found.0.kind ms o)
    ∙ hold_fit g found.0 ms found.2

without_members : (g : Graph) (names : List (List ℕ)) (x : Aggregate) → seen_aggregate (program_with g names) x ≡ incomplete (tag_back (seen_aggregate (program_with g names) x)) → is_some x.members ≡ false
without_members g names x e = sym (some_mapped (map (seen_member (program_with g names))) x.members) ∙ ap (λ (y : SeenAggregate). is_some y.members) e

complete_unfit : (g : Graph) (names : List (List ℕ)) (a : AggId) (ms : List Member) → AreOpen (drop a.0 (aggregates_in g names)) → a.0 < length g.aggs → completed g a ms ≡ None →
    can_hold (take a.0 (aggregates_in g names)) (tag_at a.0 (aggregates_in g names)).0 false (members_in g.nodes names ms) ≡ false
complete_unfit g names a ms o less e =
    let found = get_there g.aggs a.0 less in
    let bare_here = open_at (aggregates_in g names) a.0 (seen_aggregate (program_with g names) found.0) (seen_at g names a.0 found.0 found.1) o in
    ap (λ (t : Tag). can_hold (take a.0 (aggregates_in g names)) t.0 false (members_in g.nodes names ms)) (tag_is g names a.0 found.0 found.1)
    ∙ sym (fits_here g names a.0 found.0.kind ms o)
    ∙ hold_unfit g found.0 ms (without_members g names found.0 bare_here) (completed_none g a found.0 ms found.1 e)

same_at : {A : Type 0} (xs ys : List A) (a : ℕ) (x y : A) → xs ≡ ys → slice_get xs a ≡ Some x → slice_get ys a ≡ Some y → x ≡ y
same_at xs ys a x y e p q = let f : Some x ≡ Some y = sym p ∙ ap (λ zs. slice_get zs a) e ∙ q in cc

complete_steady : (g h : Graph) (names : List (List ℕ)) (a : AggId) (ms : List Member) → AggregatesKnown g names → MembersKnown g names ms → AreOpen (drop a.0 (aggregates_in g names)) → Grows g h → completed g a ms ≡ Some h → AggregatesKnown h names
complete_steady g h names a ms k m o grown e = record { steady = at }
  where
    at : (i : Graph) (last : List (List ℕ)) → Grows h i → KeepsNames names last → map (seen_aggregate (program_with i last)) h.aggs ≡ aggregates_in h names
    at i last r q =
        let found = completed_some g h a ms e in
        let x = found.0 in
        let f = seen_aggregate (program_with i last) in
        let xs = aggregates_in g names in
        let later = k.steady i last (grows_twice g h i grown r) q in
        let same : f x ≡ seen_aggregate (program_with g names) x = same_at (map f g.aggs) xs a.0 (f x) (seen_aggregate (program_with g names) x) later (slice_get-map f g.aggs a.0 ∙ ap (option_map f) found.1) (seen_at g names a.0 x found.1) in
        let bare_here = open_at xs a.0 (seen_aggregate (program_with g names) x) (seen_at g names a.0 x found.1) o in
        ap (λ (j : Graph). map f j.aggs) found.3
        ∙ map-set f g.aggs a.0 (given x ms)
        ∙ ap (λ ys. slice_set ys a.0 (f (given x ms))) later
        ∙ ap (slice_set xs a.0) (given_seen g i names last x ms (same ∙ bare_here ∙ ap (λ y. incomplete (tag_back y)) (sym same)))
        ∙ ap (λ y. slice_set xs a.0 (complete_with (tag_back y) (members_in i.nodes last ms))) same
        ∙ ap (λ ys. slice_set xs a.0 (complete_with (tag_back (seen_aggregate (program_with g names) x)) ys)) (m.steady i last (grows_twice g h i grown r) q)
        ∙ ap (λ t. slice_set xs a.0 (complete_with t (members_in g.nodes names ms))) (sym (tag_is g names a.0 x found.1))
        ∙ sym (complete_seen g h names a ms o e)

-- what is known behind an aggregate that got its members
core_holds : (r t : Setting) (names : List (List ℕ)) (a : AggId) (ms : List Member) (ls : List Local) → Holds r names a.0 → AreOpen (drop a.0 (aggregates_in r.graph names)) → MembersKnown r.graph names ms → completed r.graph a ms ≡ Some t.graph → Grows r.graph t.graph →
    env_in t ≡ with_fields (env_in r) ls → ls ≡ seen_fields (complete_with (tag_at a.0 (aggregates_in r.graph names)) (members_in r.graph.nodes names ms)) → Holds t names (suc a.0)
core_holds r t names a ms ls h o m e grown env same =
    let found = completed_some r.graph t.graph a ms e in
    let xs = aggregates_in r.graph names in
    let y = complete_with (tag_at a.0 xs) (members_in r.graph.nodes names ms) in
    let now = complete_seen r.graph t.graph names a ms o e in
    let x = seen_aggregate (program_with r.graph names) found.0 in
    let at : slice_get xs a.0 ≡ Some x = seen_at r.graph names a.0 found.0 found.1 in
    let tags : (env_in t).tags ≡ (env_in r).tags = ap (λ (v : Env). v.tags) env in record {
      seen = complete_steady r.graph t.graph names a ms h.seen m o grown e;
      tags =
          tags ∙ h.tags
          ∙ sym (set_at tag_of xs a.0 x y at (ap (λ (v : Tag). v.1) (tag_is r.graph names a.0 found.0 found.1)))
          ∙ ap (map tag_of) (sym now);
      apart = ap are_different tags ∙ h.apart;
      fields =
          ap (λ (v : Env). v.members) env
          ∙ ap (λ ms'. ms' ++ ls ∷ []) h.fields
          ∙ ap (λ l. map seen_fields (take a.0 xs) ++ l ∷ []) same
          ∙ sym (map-append seen_fields (take a.0 xs) (y ∷ []))
          ∙ ap (map seen_fields) (sym (take_set a.0 xs x y at))
          ∙ ap (λ ys. map seen_fields (take (suc a.0) ys)) (sym now);
      plain = ap (λ (g : Graph). list_all members_are_unqualified g.aggs) found.3 ∙ all_set r.graph.aggs a.0 (given found.0 ms) h.plain m.plain;
    }

-- structs and unions

members_later : (g h : Graph) (names later : List (List ℕ)) (ms : List Member) → Grows g h → KeepsNames names later → MembersKnown g names ms → MembersKnown h later ms
members_later g h names later ms r q k = record { steady = λ i last p o. k.steady i last (grows_twice g h i r p) (pool_twice names later last q o) ∙ sym (k.steady h later r q); plain = k.plain }

zipped_fields : (nodes : List Node) (names : List (List ℕ)) (ms : List Member) → zipped nodes (map member_name_of (members_in nodes names ms)) (map type_number ms) ≡ map seen_field (members_in nodes names ms)
unfolding members_in
zipped_fields nodes names [] = refl
zipped_fields nodes names (m ∷ ms) = ap (λ (ls : List Local). record { name = text_at names m.name; type = Some (shape nodes m.ty.of.0) } ∷ ls) (zipped_fields nodes names ms)

fields_seen : (g : Graph) (names : List (List ℕ)) (ms : List Member) (x : Names) (t : Tag) → is_enum t.0 ≡ false → FieldsKnown g names ms x → locals_of g.nodes x ≡ seen_fields (complete_with t (members_in g.nodes names ms))
fields_seen g names ms x t e k =
    ap (λ ns. zipped g.nodes ns x.types.items) k.named
    ∙ ap (zipped g.nodes (map member_name_of (members_in g.nodes names ms))) k.typed
    ∙ zipped_fields g.nodes names ms
    ∙ sym (ap (λ b. cond b [] (map seen_field (members_in g.nodes names ms))) e)

pub fields_types : (g : Graph) (names : List (List ℕ)) (ms : List Member) (x : Names) → FieldsKnown g names ms x → EachType (length g.nodes) x.types.items
fields_types g names ms x k = subst (EachType (length g.nodes)) (sym k.typed) (by ms k.there)
  where
    by : (ns : List Member) → AreThere (length g.nodes) ns → EachType (length g.nodes) (map type_number ns)
    by [] o = tt
    by (n ∷ ns) o = (o.0, by ns o.1)

pub fields_there : (g : Graph) (names : List (List ℕ)) (ms : List Member) (x : Names) → FieldsKnown g names ms x → AreThere (length g.nodes) ms
fields_there g names ms x k = k.there

pub open_later : (g h : Graph) (names later : List (List ℕ)) (a : ℕ) → AggregatesKnown g names → Grows g h → KeepsAggregates g h → KeepsNames names later → AreOpen (drop a (aggregates_in g names)) → AreOpen (drop a (aggregates_in h later))
open_later g h names later a k r same q o = subst (λ xs. AreOpen (drop a xs)) (sym (seen_later g h names later k r same q)) o

plain_later : (g h : Graph) (names later : List (List ℕ)) (a : ℕ) → AggregatesKnown g names → Grows g h → KeepsAggregates g h → KeepsNames names later → ArePlain (drop a (aggregates_in g names)) → ArePlain (drop a (aggregates_in h later))
plain_later g h names later a k r same q o = subst (λ xs. ArePlain (drop a xs)) (sym (seen_later g h names later k r same q)) o

pub complete_holds : (s r t : Setting) (names later : List (List ℕ)) (a : AggId) (ms : List Member) (x : Names) → Holds s names a.0 → a.0 < length s.graph.aggs → AreOpen (drop a.0 (aggregates_in s.graph names)) → ArePlain (drop a.0 (aggregates_in s.graph names)) →
    Grows s.graph r.graph → KeepsAggregates s.graph r.graph → env_in r ≡ env_in s → KeepsNames names later → FieldsKnown r.graph later ms x → completed r.graph a ms ≡ Some t.graph → Grows r.graph t.graph → env_in t ≡ with_fields (env_in r) (locals_of r.graph.nodes x) → Holds t later (a.0 + 1)
complete_holds s r t names later a ms x h less o plain grows same env q k e grown new =
    let now = open_later s.graph r.graph names later a.0 h.seen grows same q o in
    let flat = plain_at (aggregates_in r.graph later) a.0 (omega (arith, less, count_in r.graph later, ap length same.0)) (plain_later s.graph r.graph names later a.0 h.seen grows same q plain) in
    subst (Holds t later) (sym (plus_one a.0))
    (core_holds r t later a ms (locals_of r.graph.nodes x) (holds_later s r names later a.0 h grows same env q) now k.members e grown new (fields_seen r.graph later ms x (tag_at a.0 (aggregates_in r.graph later)) flat k))

from_some : (of : List Word → Option SeenMember) (ls vs : Lines) (ms : List SeenMember) → members_from of [] ls ≡ Some (ms, vs) → (read_members of ls ≡ Some (ms, vs)) × (are_different (map member_name_of ms) ≡ true)
unfolding members_from
from_some of ls vs ms e = by (read_members of ls) refl e
  where
    one : (r : List SeenMember × Lines) (b : Bool) → read_members of ls ≡ Some r → are_different (map member_name_of r.0) ≡ b → cond b (Some r) None ≡ Some (ms, vs) → (read_members of ls ≡ Some (ms, vs)) × (are_different (map member_name_of ms) ≡ true)
    one r true p d f = let same : r ≡ (ms, vs) = cc in (p ∙ ap Some same, ap (λ (u : List SeenMember × Lines). are_different (map member_name_of u.0)) (sym same) ∙ d)
    one r false p d f = absurd (cc f)

    by : (o : LinesReading (List SeenMember)) → read_members of ls ≡ o → option_and_then members_apart (option_map (members_behind []) o) ≡ Some (ms, vs) → (read_members of ls ≡ Some (ms, vs)) × (are_different (map member_name_of ms) ≡ true)
    by None p f = absurd (cc f)
    by (Some r) p f = one r (are_different (map member_name_of r.0)) p refl f

stands_by : (before : List SeenAggregate) (t : Tag) (ms : List SeenMember) (b c : Bool) → can_hold before t.0 false ms ≡ b → is_enum t.0 ≡ false → are_different (map member_name_of ms) ≡ c → stands_well before (complete_with t ms) ≡ b && c
stands_by before t ms b c e f d =
    ap (λ u. u && (is_enum t.0 || are_different (map member_name_of ms))) e
    ∙ ap (λ u. b && (u || are_different (map member_name_of ms))) f
    ∙ ap (λ u. b && u) d

behind_by : (before : List SeenAggregate) (t : Tag) (ms : List SeenMember) (vs : Lines) (b : Bool) → stands_well before (complete_with t ms) ≡ b → complete_behind before t (ms, vs) ≡ cond {A = LinesReading (List SeenAggregate)} b (Some (before ++ complete_with t ms ∷ [], vs)) None
behind_by before t ms vs b e = ap (λ u. cond {A = LinesReading (List SeenAggregate)} u (Some (before ++ complete_with t ms ∷ [], vs)) None) e

complete_now : (g h : Graph) (names : List (List ℕ)) (a : AggId) (ms : List Member) (of : List Word → Option SeenMember) (ls vs : Lines) → AreOpen (drop a.0 (aggregates_in g names)) → is_enum (tag_at a.0 (aggregates_in g names)).0 ≡ false →
    members_from of [] ls ≡ Some (members_in g.nodes names ms, vs) → completed g a ms ≡ Some h →
    one_complete of (take a.0 (aggregates_in g names)) (tag_at a.0 (aggregates_in g names)) ls ≡ Some (take (suc a.0) (aggregates_in h names), vs)
complete_now g h names a ms of ls vs o flat e f =
    let xs = aggregates_in g names in
    let t = tag_at a.0 xs in
    let found = completed_some g h a ms f in
    let from = from_some of ls vs (members_in g.nodes names ms) e in
    ap (option_and_then (complete_behind (take a.0 xs) t)) from.0
    ∙ behind_by (take a.0 xs) t (members_in g.nodes names ms) vs true (stands_by (take a.0 xs) t (members_in g.nodes names ms) true true (complete_fits g h names a ms o f) flat from.1)
    ∙ ap (λ ys. Some (ys, vs)) (sym (ap (take (suc a.0)) (complete_seen g h names a ms o f) ∙ take_set a.0 xs (seen_aggregate (program_with g names) found.0) (complete_with t (members_in g.nodes names ms)) (seen_at g names a.0 found.0 found.1)))

refused_now : (g : Graph) (names : List (List ℕ)) (a : AggId) (ms : List Member) (of : List Word → Option SeenMember) (ls vs : Lines) → AreOpen (drop a.0 (aggregates_in g names)) → a.0 < length g.aggs → is_enum (tag_at a.0 (aggregates_in g names)).0 ≡ false →
    members_from of [] ls ≡ Some (members_in g.nodes names ms, vs) → completed g a ms ≡ None → one_complete of (take a.0 (aggregates_in g names)) (tag_at a.0 (aggregates_in g names)) ls ≡ None
refused_now g names a ms of ls vs o less flat e f =
    let xs = aggregates_in g names in
    let t = tag_at a.0 xs in
    let from = from_some of ls vs (members_in g.nodes names ms) e in
    ap (option_and_then (complete_behind (take a.0 xs) t)) from.0
    ∙ behind_by (take a.0 xs) t (members_in g.nodes names ms) vs false (stands_by (take a.0 xs) t (members_in g.nodes names ms) false true (complete_unfit g names a ms o less f) flat from.1)

pub complete_gives : (s r t : Setting) (names later : List (List ℕ)) (a : AggId) (ms : List Member) (n : ℕ) (ls vs : Lines) → Holds s names a.0 → a.0 < length s.graph.aggs → AreOpen (drop a.0 (aggregates_in s.graph names)) → ArePlain (drop a.0 (aggregates_in s.graph names)) →
    Grows s.graph r.graph → KeepsAggregates s.graph r.graph → KeepsNames names later → members_from (read_member (bases (env_in s)) n) [] ls ≡ Some (members_in r.graph.nodes later ms, vs) → completed r.graph a ms ≡ Some t.graph →
    one_complete (read_member (bases (env_in s)) n) (take a.0 (aggregates_in s.graph names)) (tag_at a.0 (aggregates_in s.graph names)) ls ≡ Some (take (a.0 + 1) (aggregates_in t.graph later), vs)
complete_gives s r t names later a ms n ls vs h less o plain grows same q e f =
    let now = open_later s.graph r.graph names later a.0 h.seen grows same q o in
    let flat = plain_at (aggregates_in r.graph later) a.0 (omega (arith, less, count_in r.graph later, ap length same.0)) (plain_later s.graph r.graph names later a.0 h.seen grows same q plain) in
    ap (λ xs. one_complete (read_member (bases (env_in s)) n) (take a.0 xs) (tag_at a.0 xs) ls) (sym (seen_later s.graph r.graph names later h.seen grows same q))
    ∙ complete_now r.graph t.graph later a ms (read_member (bases (env_in s)) n) ls vs now flat e f
    ∙ ap (λ k. Some (take k (aggregates_in t.graph later), vs)) (sym (plus_one a.0))

pub complete_refused : (s r : Setting) (names later : List (List ℕ)) (a : AggId) (ms : List Member) (n : ℕ) (ls vs : Lines) → Holds s names a.0 → a.0 < length s.graph.aggs → AreOpen (drop a.0 (aggregates_in s.graph names)) → ArePlain (drop a.0 (aggregates_in s.graph names)) →
    Grows s.graph r.graph → KeepsAggregates s.graph r.graph → KeepsNames names later → members_from (read_member (bases (env_in s)) n) [] ls ≡ Some (members_in r.graph.nodes later ms, vs) → completed r.graph a ms ≡ None →
    one_complete (read_member (bases (env_in s)) n) (take a.0 (aggregates_in s.graph names)) (tag_at a.0 (aggregates_in s.graph names)) ls ≡ None
complete_refused s r names later a ms n ls vs h less o plain grows same q e f =
    let now = open_later s.graph r.graph names later a.0 h.seen grows same q o in
    let flat = plain_at (aggregates_in r.graph later) a.0 (omega (arith, less, count_in r.graph later, ap length same.0)) (plain_later s.graph r.graph names later a.0 h.seen grows same q plain) in
    ap (λ xs. one_complete (read_member (bases (env_in s)) n) (take a.0 xs) (tag_at a.0 xs) ls) (sym (seen_later s.graph r.graph names later h.seen grows same q))
    ∙ refused_now r.graph later a ms (read_member (bases (env_in s)) n) ls vs now (omega (arith, less, ap length same.0)) flat e f

pub complete_fails : (s : Setting) (names : List (List ℕ)) (a : AggId) (n : ℕ) (ls : Lines) → a.0 < length s.graph.aggs → ArePlain (drop a.0 (aggregates_in s.graph names)) → members_from (read_member (bases (env_in s)) n) [] ls ≡ None →
    one_complete (read_member (bases (env_in s)) n) (take a.0 (aggregates_in s.graph names)) (tag_at a.0 (aggregates_in s.graph names)) ls ≡ None
unfolding members_from
complete_fails s names a n ls less plain e = by (read_members (read_member (bases (env_in s)) n) ls) e
  where
    xs : List SeenAggregate
    xs = aggregates_in s.graph names

    flat : is_enum (tag_at a.0 xs).0 ≡ false
    flat = plain_at xs a.0 (omega (arith, less, count_in s.graph names)) plain

    refused : (b : Bool) → b && false ≡ false
    refused true = refl
    refused false = refl

    one : (r : List SeenMember × Lines) (b : Bool) → are_different (map member_name_of r.0) ≡ b → cond b (Some r) None ≡ None → complete_behind (take a.0 xs) (tag_at a.0 xs) r ≡ None
    one r true d f = absurd (cc f)
    one r false d f = behind_by (take a.0 xs) (tag_at a.0 xs) r.0 r.1 false (stands_by (take a.0 xs) (tag_at a.0 xs) r.0 (can_hold (take a.0 xs) (tag_at a.0 xs).0 false r.0) false refl flat d ∙ refused (can_hold (take a.0 xs) (tag_at a.0 xs).0 false r.0))

    by : (o : LinesReading (List SeenMember)) → option_and_then members_apart (option_map (members_behind []) o) ≡ None → option_and_then (complete_behind (take a.0 xs) (tag_at a.0 xs)) o ≡ None
    by None f = refl
    by (Some r) f = one r (are_different (map member_name_of r.0)) refl f

pub complete_rest : (s r t : Setting) (names later : List (List ℕ)) (a : AggId) (ms : List Member) → Holds s names a.0 → AreOpen (drop a.0 (aggregates_in s.graph names)) → Grows s.graph r.graph → KeepsAggregates s.graph r.graph → KeepsNames names later → completed r.graph a ms ≡ Some t.graph →
    drop (a.0 + 1) (aggregates_in t.graph later) ≡ drop (a.0 + 1) (aggregates_in s.graph names)
complete_rest s r t names later a ms h o grows same q e =
    let now = open_later s.graph r.graph names later a.0 h.seen grows same q o in
    let xs = aggregates_in r.graph later in
    ap (λ k. drop k (aggregates_in t.graph later)) (plus_one a.0)
    ∙ ap (drop (suc a.0)) (complete_seen r.graph t.graph later a ms now e)
    ∙ drop_set a.0 xs (complete_with (tag_at a.0 xs) (members_in r.graph.nodes later ms))
    ∙ ap (drop (suc a.0)) (seen_later s.graph r.graph names later h.seen grows same q)
    ∙ ap (λ k. drop k (aggregates_in s.graph names)) (sym (plus_one a.0))

pub complete_count : (g r t : Graph) (a : AggId) (ms : List Member) → KeepsAggregates g r → completed r a ms ≡ Some t → length t.aggs ≡ length g.aggs
complete_count g r t a ms same e = let found = completed_some r t a ms e in ap (λ (i : Graph). length i.aggs) found.3 ∙ length-set r.aggs a.0 (given found.0 ms) ∙ ap length same.0

pub complete_tags : (s r t : Setting) (ls : List Local) → env_in r ≡ env_in s → env_in t ≡ with_fields (env_in r) ls → (env_in t).tags ≡ (env_in s).tags
complete_tags s r t ls e f = ap (λ (v : Env). v.tags) f ∙ ap (λ (v : Env). v.tags) e

-- one that is left without members

left_at : (xs : List SeenAggregate) (a : ℕ) → a < length xs → AreOpen (drop a xs) → take (suc a) xs ≡ take a xs ++ incomplete (tag_at a xs) ∷ []
left_at xs a less o =
    let found = get_there xs a less in
    take_next a xs found.0 found.1
    ∙ ap (λ y. take a xs ++ y ∷ []) (open_at xs a found.0 found.1 o)
    ∙ ap (λ ys. take a xs ++ incomplete (first_tag ys) ∷ []) (sym (drop_next a xs found.0 found.1))

nothing_seen : (t : Tag) → seen_fields (incomplete t) ≡ []
nothing_seen t = by (is_enum t.0)
  where
    by : (b : Bool) → cond {A = List Local} b [] [] ≡ []
    by true = refl
    by false = refl

pub left_gives : (s t : Setting) (names : List (List ℕ)) (a : AggId) → a.0 < length s.graph.aggs → AreOpen (drop a.0 (aggregates_in s.graph names)) → t.graph ≡ s.graph →
    Some (take a.0 (aggregates_in s.graph names) ++ incomplete (tag_at a.0 (aggregates_in s.graph names)) ∷ []) ≡ Some (take (a.0 + 1) (aggregates_in t.graph names))
left_gives s t names a less o same =
    let xs = aggregates_in s.graph names in
    ap Some (sym (left_at xs a.0 (omega (arith, less, count_in s.graph names)) o)
    ∙ ap (λ k. take k xs) (sym (plus_one a.0))
    ∙ ap (λ (g : Graph). take (a.0 + 1) (aggregates_in g names)) (sym same))

pub left_holds : (s t : Setting) (names : List (List ℕ)) (a : AggId) → Holds s names a.0 → a.0 < length s.graph.aggs → AreOpen (drop a.0 (aggregates_in s.graph names)) → t.graph ≡ s.graph → env_in t ≡ with_fields (env_in s) [] → Holds t names (a.0 + 1)
left_holds s t names a h less o same env =
    let xs = aggregates_in s.graph names in
    let now : aggregates_in t.graph names ≡ xs = ap (λ (g : Graph). aggregates_in g names) same in
    let tags : (env_in t).tags ≡ (env_in s).tags = ap (λ (v : Env). v.tags) env in record {
      seen = subst (λ (g : Graph). AggregatesKnown g names) (sym same) h.seen;
      tags = tags ∙ h.tags ∙ ap (map tag_of) (sym now);
      apart = ap are_different tags ∙ h.apart;
      fields =
          ap (λ (v : Env). v.members) env
          ∙ ap (λ ms. ms ++ [] ∷ []) h.fields
          ∙ ap (λ l. map seen_fields (take a.0 xs) ++ l ∷ []) (sym (nothing_seen (tag_at a.0 xs)))
          ∙ sym (map-append seen_fields (take a.0 xs) (incomplete (tag_at a.0 xs) ∷ []))
          ∙ ap (map seen_fields) (sym (left_at xs a.0 (omega (arith, less, count_in s.graph names)) o))
          ∙ ap (λ k. map seen_fields (take k xs)) (sym (plus_one a.0))
          ∙ ap (λ ys. map seen_fields (take (a.0 + 1) ys)) (sym now);
      plain = ap (λ (g : Graph). list_all members_are_unqualified g.aggs) same ∙ h.plain;
    }

pub left_tags : (s t : Setting) → env_in t ≡ with_fields (env_in s) [] → (env_in t).tags ≡ (env_in s).tags
left_tags s t e = ap (λ (v : Env). v.tags) e

-- what has a stop that is none
pub never : {A B : Type 0} (x : A) (o : Option B) → Some x ≡ None → o ≡ None
never x o e = absurd (cc e)

pub nothing_types : (n : ℕ) (x : Names) → x.types.items ≡ [] → EachType n x.types.items
nothing_types n x e = subst (EachType n) (sym e) tt

-- enums

all_behind : (o : LinesReading (List SeenMember)) → option_map (members_behind []) o ≡ o
all_behind None = refl
all_behind (Some r) = refl

pub from_first : (ls : Lines) → enumerators_from [] ls ≡ read_members read_enumerator ls
unfolding enumerators_from
from_first ls = all_behind (read_members read_enumerator ls)

pub enum_fails : (xs : List SeenAggregate) (tag : List ℕ) (ls : Lines) → enumerators_from [] ls ≡ None → one_enum xs tag ls ≡ None
enum_fails xs tag ls e = ap (option_and_then (enum_behind xs tag)) (sym (from_first ls) ∙ e)

pub enum_twice : (s r : Setting) (names : List (List ℕ)) (k : ℕ) (tag : List ℕ) (ms : List SeenMember) (ls vs : Lines) → Holds s names k → env_in r ≡ env_in s → enumerators_from [] ls ≡ Some (ms, vs) → with_new (env_in r).tags tag ≡ None → one_enum (aggregates_in s.graph names) tag ls ≡ None
enum_twice s r names k tag ms ls vs h env e f =
    ap (option_and_then (enum_behind (aggregates_in s.graph names) tag)) (sym (from_first ls) ∙ e)
    ∙ ap (λ b. cond {A = LinesReading (List SeenAggregate)} b None (Some (aggregates_in s.graph names ++ enum_with tag ms ∷ [], vs)))
    (ap (λ ts. is_among ts tag) (sym h.tags) ∙ ap (λ (v : Env). is_among v.tags tag) (sym env) ∙ new_none (env_in r).tags tag f)

set_last : {A : Type 0} (xs : List A) (x y : A) → slice_set (xs ++ x ∷ []) (length xs) y ≡ xs ++ y ∷ []
set_last [] x y = refl
set_last (z ∷ xs) x y = ap (λ zs. z ∷ zs) (set_last xs x y)

enum_open : (g h : Graph) (names later : List (List ℕ)) (tag : List ℕ) (a : ℕ) → AggregatesKnown g names → KeepsNames names later → AddsTag g h later Enum tag → a ≡ length g.aggs → drop a (aggregates_in h later) ≡ incomplete (Enum, tag) ∷ []
enum_open g h names later tag a k q t e =
    ap (λ xs. drop a xs) (tag_seen g h names later Enum tag k q t)
    ∙ ap (λ n. drop n (aggregates_in g names ++ incomplete (Enum, tag) ∷ [])) (e ∙ sym (count_in g names))
    ∙ drop-append_seam (aggregates_in g names) (incomplete (Enum, tag) ∷ [])

is_open : (xs : List SeenAggregate) (t : Tag) → xs ≡ incomplete t ∷ [] → AreOpen xs
is_open xs t e = subst AreOpen (sym e) (refl, tt)

grown_by : (g h : Graph) (names : List (List ℕ)) (tag : List ℕ) → AddsTag g h names Enum tag → Grows g h
grown_by g h names tag t = grows_agg g h (bare Enum t.name) t.is

pub enum_seen : (g h i : Graph) (names later : List (List ℕ)) (a : AggId) (ms : List Member) (tag : List ℕ) → AggregatesKnown g names → MembersKnown g names ms → KeepsNames names later → AddsTag g h later Enum tag → a.0 ≡ length g.aggs → completed h a ms ≡ Some i →
    aggregates_in i later ≡ aggregates_in g names ++ enum_with tag (members_in g.nodes names ms) ∷ []
enum_seen g h i names later a ms tag k m q t e f =
    let bare_here = enum_open g h names later tag a.0 k q t e in
    let xs = aggregates_in g names in
    let given_to = complete_with (Enum, tag) (members_in g.nodes names ms) in
    complete_seen h i later a ms (is_open (drop a.0 (aggregates_in h later)) (Enum, tag) bare_here) f
    ∙ ap (λ ys. slice_set (aggregates_in h later) a.0 (complete_with (first_tag ys) (members_in h.nodes later ms))) bare_here
    ∙ ap (λ ys. slice_set (aggregates_in h later) a.0 (complete_with (Enum, tag) ys)) (m.steady h later (grown_by g h later tag t) q)
    ∙ ap (λ ys. slice_set ys a.0 given_to) (tag_seen g h names later Enum tag k q t)
    ∙ ap (λ n. slice_set (xs ++ incomplete (Enum, tag) ∷ []) n given_to) (e ∙ sym (count_in g names))
    ∙ set_last xs (incomplete (Enum, tag)) given_to

pub enum_gives : (s r q t : Setting) (names later last : List (List ℕ)) (k : ℕ) (a : AggId) (ms : List Member) (tag : List ℕ) (ls vs : Lines) → Holds s names k → Grows s.graph r.graph → KeepsAggregates s.graph r.graph → env_in r ≡ env_in s → KeepsNames names later →
    enumerators_from [] ls ≡ Some (members_in r.graph.nodes later ms, vs) → MembersKnown r.graph later ms → KeepsNames later last → AddsTag r.graph q.graph last Enum tag → with_new (env_in r).tags tag ≡ Some (env_in q).tags → a.0 ≡ length r.graph.aggs →
    completed q.graph a ms ≡ Some t.graph → one_enum (aggregates_in s.graph names) tag ls ≡ Some (aggregates_in t.graph last, vs)
enum_gives s r q t names later last k a ms tag ls vs h grows same env keeps e m keeps' adds new at f =
    let xs = aggregates_in s.graph names in
    let now = seen_later s.graph r.graph names later h.seen grows same keeps in
    ap (option_and_then (enum_behind xs tag)) (sym (from_first ls) ∙ e)
    ∙ ap (λ b. cond {A = LinesReading (List SeenAggregate)} b None (Some (xs ++ enum_with tag (members_in r.graph.nodes later ms) ∷ [], vs)))
    (ap (λ ts. is_among ts tag) (sym h.tags) ∙ ap (λ (v : Env). is_among v.tags tag) (sym env) ∙ (new_some (env_in r).tags (env_in q).tags tag new).0)
    ∙ ap (λ ys. Some (ys ++ enum_with tag (members_in r.graph.nodes later ms) ∷ [], vs)) (sym now)
    ∙ ap (λ ys. Some (ys, vs)) (sym (enum_seen r.graph q.graph t.graph later last a ms tag (aggregates_later s.graph r.graph names later h.seen grows same keeps) m keeps' adds at f))

pub enum_holds : (s r q t : Setting) (names later last : List (List ℕ)) (a : AggId) (ms : List Member) (x : Names) (tag : List ℕ) → Holds s names (length s.graph.aggs) → Grows s.graph r.graph → KeepsAggregates s.graph r.graph → env_in r ≡ env_in s → KeepsNames names later →
    MembersKnown r.graph later ms → KeepsNames later last → AddsTag r.graph q.graph last Enum tag → with_new (env_in r).tags tag ≡ Some (env_in q).tags → (env_in q).members ≡ (env_in r).members → a.0 ≡ length r.graph.aggs →
    x.numbering ≡ [] → completed q.graph a ms ≡ Some t.graph → Grows q.graph t.graph → env_in t ≡ with_fields (env_in q) (locals_of q.graph.nodes x) → Holds t last (length t.graph.aggs)
enum_holds s r q t names later last a ms x tag h grows same env keeps m keeps' adds new fields at none f grown env' =
    let k = length s.graph.aggs in
    let first = holds_later s r names later k h grows same env keeps in
    let count : k ≡ length r.graph.aggs = sym (ap length same.0) in
    let now = tag_holds r q later last k Enum tag first (omega (arith, count)) keeps' adds new fields in
    let place : k ≡ a.0 = count ∙ sym at in
    let bare_here = enum_open r.graph q.graph later last tag a.0 first.seen keeps' adds at in
    let flat : seen_fields (complete_with (tag_at a.0 (aggregates_in q.graph last)) (members_in q.graph.nodes last ms)) ≡ [] = ap (λ ys. seen_fields (complete_with (first_tag ys) (members_in q.graph.nodes last ms))) bare_here in
    let done = core_holds q t last a ms (locals_of q.graph.nodes x) (subst (Holds q last) place now) (is_open (drop a.0 (aggregates_in q.graph last)) (Enum, tag) bare_here) (members_later r.graph q.graph later last ms (grown_by r.graph q.graph last tag adds) keeps' m) f grown env'
    (ap (λ ns. zipped q.graph.nodes ns x.types.items) none ∙ sym flat) in
    let found = completed_some q.graph t.graph a ms f in
    let size : length t.graph.aggs ≡ suc a.0 =
    ap (λ (i : Graph). length i.aggs) found.3 ∙ length-set q.graph.aggs a.0 (given found.0 ms)
    ∙ ap (λ (i : Graph). length i.aggs) adds.is ∙ length-append r.graph.aggs (bare Enum adds.name ∷ [])
    ∙ plus_one (length r.graph.aggs) ∙ ap suc (sym at) in
    subst (Holds t last) (sym size) done

-- each enumerator has the type int
int_by : (name : List ℕ) (m : SeenMember) (r : Numbered × List Word) → enumerator_at name r ≡ Some m → m.type ≡ IntType int
int_by name m (x, Comma ∷ []) e = by (reading_fits x) e
  where
    reading_fits : Numbered → Bool
    reading_fits y = fits int y.1

    by : (b : Bool) → cond b (Some (enumerator_with name x.1)) None ≡ Some m → m.type ≡ IntType int
    by true f = let same : enumerator_with name x.1 ≡ m = cc in ap (λ (y : SeenMember). y.type) (sym same)
    by false f = absurd (cc f)
int_by name m (x, Comma ∷ w ∷ ws) e = absurd (cc e)
int_by name m (x, _) e = absurd (cc e)

int_read : (name : List ℕ) (m : SeenMember) (o : Option (Numbered × List Word)) → option_and_then (enumerator_at name) o ≡ Some m → m.type ≡ IntType int
int_read name m None e = absurd (cc e)
int_read name m (Some r) e = int_by name m r e

pub int_line : (ws : List Word) (m : SeenMember) → read_enumerator ws ≡ Some m → m.type ≡ IntType int
int_line (Name name ∷ Assign ∷ ws) m e = int_read name m (read_number ws) e
int_line _ m e = absurd (cc e)

int_held : (before : List SeenAggregate) (kind : AggKind) (behind : Bool) (m : SeenMember) (ms : List SeenMember) → m.type ≡ IntType int → can_hold before kind true ms ≡ true → can_hold before kind behind (m ∷ ms) ≡ true
int_held before kind behind m ms e f =
    ap (λ (s : Shape). (is_complete before s || (is_struct kind && (behind && (reading.is_last ms && is_flexible before s)))) && can_hold before kind true ms) e ∙ f

enum_held : (ls : Lines) (before : List SeenAggregate) (kind : AggKind) (behind : Bool) (ms : List SeenMember) (vs : Lines) → read_members read_enumerator ls ≡ Some (ms, vs) → can_hold before kind behind ms ≡ true
enum_held [] before kind behind ms vs e = absurd (cc e)
enum_held (line ∷ ls) before kind behind ms vs e = by (is_close line) (read_enumerator line) refl (λ ns ws. enum_held ls before kind true ns ws) e
  where
    last : (m : SeenMember) → read_enumerator line ≡ Some m → ((ns : List SeenMember) (ws : Lines) → read_members read_enumerator ls ≡ Some (ns, ws) → can_hold before kind true ns ≡ true) → (o : LinesReading (List SeenMember)) → read_members read_enumerator ls ≡ o → option_map (member_first m) o ≡ Some (ms, vs) → can_hold before kind behind ms ≡ true
    last m p again None q f = absurd (cc f)
    last m p again (Some r) q f =
        let pair : member_first m r ≡ (ms, vs) = cc in
        let same : m ∷ r.0 ≡ ms = ap (λ (u : List SeenMember × Lines). u.0) pair in
        ap (can_hold before kind behind) (sym same) ∙ int_held before kind behind m r.0 (int_line line m p) (again r.0 r.1 q)

    by : (b : Bool) (o : Option SeenMember) → read_enumerator line ≡ o → ((ns : List SeenMember) (ws : Lines) → read_members read_enumerator ls ≡ Some (ns, ws) → can_hold before kind true ns ≡ true) → cond {A = LinesReading (List SeenMember)} b (Some ([], ls)) (option_and_then (λ (m : SeenMember). option_map (member_first m) (read_members read_enumerator ls)) o) ≡ Some (ms, vs) → can_hold before kind behind ms ≡ true
    by true o p again f = let pair : ([], ls) ≡ (ms, vs) = cc in ap (λ (u : List SeenMember × Lines). can_hold before kind behind u.0) (sym pair)
    by false None p again f = absurd (cc f)
    by false (Some m) p again f = last m p again (read_members read_enumerator ls) refl f

pub enum_refused : (s r q : Setting) (names later last : List (List ℕ)) (k : ℕ) (a : AggId) (ms : List Member) (tag : List ℕ) (ls vs : Lines) → Holds s names k → Grows s.graph r.graph → KeepsAggregates s.graph r.graph → KeepsNames names later →
    enumerators_from [] ls ≡ Some (members_in r.graph.nodes later ms, vs) → MembersKnown r.graph later ms → KeepsNames later last → AddsTag r.graph q.graph last Enum tag → a.0 ≡ length r.graph.aggs → completed q.graph a ms ≡ None → one_enum (aggregates_in s.graph names) tag ls ≡ None
enum_refused s r q names later last k a ms tag ls vs h grows same keeps e m keeps' adds at f =
    let bare_here = enum_open r.graph q.graph later last tag a.0 (aggregates_later s.graph r.graph names later h.seen grows same keeps) keeps' adds at in
    let held = enum_held ls (take a.0 (aggregates_in q.graph last)) (tag_at a.0 (aggregates_in q.graph last)).0 false (members_in q.graph.nodes last ms) vs
    (sym (from_first ls) ∙ e ∙ ap (λ ys. Some (ys, vs)) (sym (m.steady q.graph last (grown_by r.graph q.graph last tag adds) keeps'))) in
    let size : length q.graph.aggs ≡ suc a.0 = ap (λ (i : Graph). length i.aggs) adds.is ∙ length-append r.graph.aggs (bare Enum adds.name ∷ []) ∙ plus_one (length r.graph.aggs) ∙ ap suc (sym at) in
    let unfit = complete_unfit q.graph last a ms (is_open (drop a.0 (aggregates_in q.graph last)) (Enum, tag) bare_here) (omega (arith, size)) f in
    absurd (cc (sym held ∙ unfit))

-- enums in order

apart_by : (xs : List SeenAggregate) (ls : Lines) (b : Bool) → are_different (map tag_of xs) ≡ b → tags_apart (xs, ls) ≡ cond {A = LinesReading (List SeenAggregate)} b (Some (xs, ls)) None
apart_by xs ls b e = ap (λ c. cond {A = LinesReading (List SeenAggregate)} c (Some (xs, ls)) None) e

tags_middle : (xs ys : List SeenAggregate) (y : SeenAggregate) → map tag_of (xs ++ y ∷ ys) ≡ map tag_of xs ++ tag_of y ∷ map tag_of ys
tags_middle [] ys y = refl
tags_middle (x ∷ xs) ys y = ap (λ ts. tag_of x ∷ ts) (tags_middle xs ys y)

-- one more whose tag is one of theirs
tag_twice : (xs : List SeenAggregate) (y : SeenAggregate) (o : LinesReading (List SeenAggregate)) → is_among (map tag_of xs) (tag_of y) ≡ true → option_and_then tags_apart (option_map (with_enums xs) (option_map (aggregate_first y) o)) ≡ None
tag_twice xs y None e = refl
tag_twice xs y (Some r) e = apart_by (xs ++ y ∷ r.0) r.1 false (ap are_different (tags_middle xs r.0 y) ∙ different_without (map tag_of xs) (map tag_of r.0) (tag_of y) e)

enum_first : (xs : List SeenAggregate) (y : SeenAggregate) (o : LinesReading (List SeenAggregate)) → option_map (with_enums xs) (option_map (aggregate_first y) o) ≡ option_map (with_enums (xs ++ y ∷ [])) o
enum_first xs y None = refl
enum_first xs y (Some r) = ap (λ ys. Some (ys, r.1)) (sym (append_assoc xs (y ∷ []) r.0))

ended_by : (xs : List SeenAggregate) (ls : Lines) → are_different (map tag_of xs) ≡ true → tags_apart (xs ++ [], ls) ≡ Some (xs, ls)
ended_by xs ls d = ap (λ ys. tags_apart (ys, ls)) (append-nil xs) ∙ apart_by xs ls true d

enums_by : (k : ℕ) (xs : List SeenAggregate) (ls : Lines) → are_different (map tag_of xs) ≡ true → enums_from (suc k) xs ls ≡ option_and_then (enums_on k) (next_enum xs ls)
unfolding enums_from
enums_by k xs [] d = ended_by xs [] d
enums_by k xs (line ∷ ls) d = by (opened_tag line)
  where
    one : (tag : List ℕ) (r : List SeenMember × Lines) (b : Bool) → is_among (map tag_of xs) tag ≡ b →
        option_and_then tags_apart (option_map (with_enums xs) (option_map (aggregate_first (enum_with tag r.0)) (read_enums k r.1)))
        ≡ option_and_then (enums_on k) (option_map one_more (cond {A = LinesReading (List SeenAggregate)} b None (Some (xs ++ enum_with tag r.0 ∷ [], r.1))))
    one tag r true e = tag_twice xs (enum_with tag r.0) (read_enums k r.1) e
    one tag r false e = ap (option_and_then tags_apart) (enum_first xs (enum_with tag r.0) (read_enums k r.1))

    all : (tag : List ℕ) (o : LinesReading (List SeenMember)) →
        option_and_then tags_apart (option_map (with_enums xs) (option_and_then (λ (r : List SeenMember × Lines). option_map (aggregate_first (enum_with tag r.0)) (read_enums k r.1)) o))
        ≡ option_and_then (enums_on k) (option_map one_more (option_and_then (enum_behind xs tag) o))
    all tag None = refl
    all tag (Some r) = one tag r (is_among (map tag_of xs) tag) refl

    by : (o : Option (List ℕ)) →
        option_and_then tags_apart (option_map (with_enums xs) (elim o as (λ _. LinesReading (List SeenAggregate)) [
          | None ↦ Some ([], line ∷ ls)
          | Some tag ↦ option_and_then (λ (r : List SeenMember × Lines). option_map (aggregate_first (enum_with tag r.0)) (read_enums k r.1)) (read_members read_enumerator ls)
        ]))
        ≡ option_and_then (enums_on k) (enum_if xs (line ∷ ls) ls o)
    by None = ended_by xs (line ∷ ls) d
    by (Some tag) = all tag (read_members read_enumerator ls)

different_in : (s : Setting) (names : List (List ℕ)) (k : ℕ) → Holds s names k → are_different (map tag_of (aggregates_in s.graph names)) ≡ true
different_in s names k h = ap are_different (sym h.tags) ∙ h.apart

less_one : (n i : ℕ) → i < n → n - i ≡ suc (n - (i + 1))
less_one n i h = omega arith

at_one : (n : ℕ) → n ≢ 0 → n ≡ suc (n - 1)
at_one n h = omega (arith, h)

pub enums_nothing : (s : Setting) (names : List (List ℕ)) (k n : ℕ) (ls : Lines) → Holds s names k → n ≡ 0 → enums_from n (aggregates_in s.graph names) ls ≡ Some (aggregates_in s.graph names, ls)
unfolding enums_from
enums_nothing s names k n ls h e = ap (λ i. enums_from i (aggregates_in s.graph names) ls) e ∙ ended_by (aggregates_in s.graph names) ls (different_in s names k h)

pub enums_begin : (s : Setting) (names : List (List ℕ)) (k n : ℕ) (b : Bool) (ys : List SeenAggregate) (ls vs : Lines) → Holds s names k → n ≢ 0 → next_enum (aggregates_in s.graph names) ls ≡ Some (b, (ys, vs)) → enums_on (n - 1) (b, (ys, vs)) ≡ enums_from n (aggregates_in s.graph names) ls
enums_begin s names k n b ys ls vs h some e =
    let xs = aggregates_in s.graph names in
    sym (ap (λ i. enums_from i xs ls) (at_one n some) ∙ enums_by (n - 1) xs ls (different_in s names k h) ∙ ap (option_and_then (enums_on (n - 1))) e)

pub enums_none : (s : Setting) (names : List (List ℕ)) (k n : ℕ) (ls : Lines) → Holds s names k → n ≢ 0 → next_enum (aggregates_in s.graph names) ls ≡ None → enums_from n (aggregates_in s.graph names) ls ≡ None
enums_none s names k n ls h some e =
    let xs = aggregates_in s.graph names in
    ap (λ i. enums_from i xs ls) (at_one n some) ∙ enums_by (n - 1) xs ls (different_in s names k h) ∙ ap (option_and_then (enums_on (n - 1))) e

pub enums_next : (s : Setting) (names : List (List ℕ)) (k n i : ℕ) (m b : Bool) (ys : List SeenAggregate) (ls vs : Lines) (whole : LinesReading (List SeenAggregate)) → Holds s names k → i < n → m ≡ true → next_enum (aggregates_in s.graph names) ls ≡ Some (b, (ys, vs)) →
    enums_on (n - i) (m, (aggregates_in s.graph names, ls)) ≡ whole → enums_on (n - (i + 1)) (b, (ys, vs)) ≡ whole
enums_next s names k n i m b ys ls vs whole h less t e inv =
    let xs = aggregates_in s.graph names in
    sym (ap (λ c. enums_on (n - i) (c, (xs, ls))) t ∙ ap (λ j. enums_from j xs ls) (less_one n i less) ∙ enums_by (n - (i + 1)) xs ls (different_in s names k h) ∙ ap (option_and_then (enums_on (n - (i + 1)))) e) ∙ inv

pub enums_end : (n i : ℕ) (m : Bool) (xs : List SeenAggregate) (ls : Lines) (whole : LinesReading (List SeenAggregate)) → m ≡ false → enums_on (n - i) (m, (xs, ls)) ≡ whole → whole ≡ Some (xs, ls)
enums_end n i m xs ls whole t inv = sym inv ∙ ap (λ c. enums_on (n - i) (c, (xs, ls))) t

pub enums_fail : (s : Setting) (names : List (List ℕ)) (k n i : ℕ) (m : Bool) (ls : Lines) (whole : LinesReading (List SeenAggregate)) → Holds s names k → i < n → m ≡ true → next_enum (aggregates_in s.graph names) ls ≡ None →
    enums_on (n - i) (m, (aggregates_in s.graph names, ls)) ≡ whole → whole ≡ None
enums_fail s names k n i m ls whole h less t e inv =
    let xs = aggregates_in s.graph names in
    sym inv ∙ ap (λ c. enums_on (n - i) (c, (xs, ls))) t ∙ ap (λ j. enums_from j xs ls) (less_one n i less) ∙ enums_by (n - (i + 1)) xs ls (different_in s names k h) ∙ ap (option_and_then (enums_on (n - (i + 1)))) e

pub enums_stop : (s : Setting) (names : List (List ℕ)) (k n i : ℕ) (m : Bool) (ls : Lines) (whole : LinesReading (List SeenAggregate)) → Holds s names k → n ≤ i → enums_on (n - i) (m, (aggregates_in s.graph names, ls)) ≡ whole → whole ≡ Some (aggregates_in s.graph names, ls)
unfolding enums_from
enums_stop s names k n i true ls whole h less inv = let e : n - i ≡ 0 = omega (arith, less) in sym inv ∙ ap (λ j. enums_from j (aggregates_in s.graph names) ls) e ∙ ended_by (aggregates_in s.graph names) ls (different_in s names k h)
enums_stop s names k n i false ls whole h less inv = sym inv

-- tags in order

tags_by : (xs : List SeenAggregate) (ls : Lines) → are_different (map tag_of xs) ≡ true → tags_from xs ls ≡ option_and_then tags_on (next_tag xs ls)
unfolding tags_from
tags_by xs [] d = ended_by xs [] d
tags_by xs (line ∷ ls) d = by (lone_tag line)
  where
    one : (x : Tag) (b : Bool) → is_among (map tag_of xs) x.1 ≡ b → tags_apart (tags_behind xs (tag_first x (read_tags ls))) ≡ option_and_then tags_on (option_map (tag_before ls) (cond b None (Some (xs ++ incomplete x ∷ []))))
    one x true e = apart_by (xs ++ incomplete x ∷ map incomplete (read_tags ls).0) (read_tags ls).1 false
        (ap are_different (tags_middle xs (map incomplete (read_tags ls).0) (incomplete x)) ∙ different_without (map tag_of xs) (map tag_of (map incomplete (read_tags ls).0)) x.1 e)
    one x false e = ap (λ ys. tags_apart (ys, (read_tags ls).1)) (sym (append_assoc xs (incomplete x ∷ []) (map incomplete (read_tags ls).0)))

    by : (o : Option Tag) → tags_apart (tags_behind xs (elim o as (λ _. List Tag × Lines) [ None ↦ ([], line ∷ ls) | Some x ↦ tag_first x (read_tags ls) ])) ≡ option_and_then tags_on (tag_if xs (line ∷ ls) ls o)
    by None = ended_by xs (line ∷ ls) d
    by (Some x) = one x (is_among (map tag_of xs) x.1) refl

pub tags_begin : (s : Setting) (names : List (List ℕ)) (k : ℕ) (b : Bool) (ys : List SeenAggregate) (ls vs : Lines) → Holds s names k → next_tag (aggregates_in s.graph names) ls ≡ Some (b, (ys, vs)) → tags_on (b, (ys, vs)) ≡ tags_from (aggregates_in s.graph names) ls
tags_begin s names k b ys ls vs h e = sym (tags_by (aggregates_in s.graph names) ls (different_in s names k h) ∙ ap (option_and_then tags_on) e)

pub tags_none : (s : Setting) (names : List (List ℕ)) (k : ℕ) (ls : Lines) → Holds s names k → next_tag (aggregates_in s.graph names) ls ≡ None → tags_from (aggregates_in s.graph names) ls ≡ None
tags_none s names k ls h e = tags_by (aggregates_in s.graph names) ls (different_in s names k h) ∙ ap (option_and_then tags_on) e

pub tags_next : (s : Setting) (names : List (List ℕ)) (k : ℕ) (m b : Bool) (ys : List SeenAggregate) (ls vs : Lines) (whole : LinesReading (List SeenAggregate)) → Holds s names k → m ≡ true → next_tag (aggregates_in s.graph names) ls ≡ Some (b, (ys, vs)) →
    tags_on (m, (aggregates_in s.graph names, ls)) ≡ whole → tags_on (b, (ys, vs)) ≡ whole
tags_next s names k m b ys ls vs whole h t e inv = let xs = aggregates_in s.graph names in sym (ap (λ c. tags_on (c, (xs, ls))) t ∙ tags_by xs ls (different_in s names k h) ∙ ap (option_and_then tags_on) e) ∙ inv

pub tags_end : (m : Bool) (xs : List SeenAggregate) (ls : Lines) (whole : LinesReading (List SeenAggregate)) → m ≡ false → tags_on (m, (xs, ls)) ≡ whole → whole ≡ Some (xs, ls)
tags_end m xs ls whole t inv = sym inv ∙ ap (λ c. tags_on (c, (xs, ls))) t

pub tags_fail : (s : Setting) (names : List (List ℕ)) (k : ℕ) (m : Bool) (ls : Lines) (whole : LinesReading (List SeenAggregate)) → Holds s names k → m ≡ true → next_tag (aggregates_in s.graph names) ls ≡ None →
    tags_on (m, (aggregates_in s.graph names, ls)) ≡ whole → whole ≡ None
tags_fail s names k m ls whole h t e inv = let xs = aggregates_in s.graph names in sym inv ∙ ap (λ c. tags_on (c, (xs, ls))) t ∙ tags_by xs ls (different_in s names k h) ∙ ap (option_and_then tags_on) e

pub bit_falls : (a b : ℕ) (m n : Bool) → m ≡ true → a + bit n ≤ b → a + bit n < b + bit m
bit_falls a b m n e h = let f : bit m ≡ 1 = ap bit e in omega (arith, h, f)

-- structs and unions in order

abbrev structs_on : (List Word → Option SeenMember) → List Tag → List SeenAggregate × Lines → LinesReading (List SeenAggregate)
structs_on of ts r = structs_behind of r.0 ts r.1

stands_first : (before : List SeenAggregate) (y : SeenAggregate) (o : LinesReading (List SeenAggregate)) (b : Bool) → stands_well before y ≡ b →
    option_and_then (stands_behind before) (option_map (aggregate_first y) o) ≡ cond b (option_and_then (stands_behind (before ++ y ∷ [])) o) None
stands_first before y None true e = refl
stands_first before y None false e = refl
stands_first before y (Some r) true e =
    ap (λ c. cond {A = LinesReading (List SeenAggregate)} (c && stand_well (before ++ y ∷ []) r.0) (Some (before ++ y ∷ r.0, r.1)) None) e
    ∙ ap (λ ys. cond {A = LinesReading (List SeenAggregate)} (stand_well (before ++ y ∷ []) r.0) (Some (ys, r.1)) None) (sym (append_assoc before (y ∷ []) r.0))
stands_first before y (Some r) false e = ap (λ c. cond {A = LinesReading (List SeenAggregate)} (c && stand_well (before ++ y ∷ []) r.0) (Some (before ++ y ∷ r.0, r.1)) None) e

structs_by : (of : List Word → Option SeenMember) (before : List SeenAggregate) (x : Tag) (ts : List Tag) (ls : Lines) → structs_behind of before (x ∷ ts) ls ≡ option_and_then (structs_on of ts) (one_struct of before x ls)
unfolding structs_behind
structs_by of before x ts [] = stands_first before (incomplete x) (read_structs of ts []) true refl
structs_by of before x ts (line ∷ ls) = by (is_opened (opened_tag line) x.1)
  where
    one : (r : List SeenMember × Lines) (b : Bool) → stands_well before (complete_with x r.0) ≡ b →
        option_and_then (stands_behind before) (option_map (aggregate_first (complete_with x r.0)) (read_structs of ts r.1)) ≡ option_and_then (structs_on of ts) (cond {A = LinesReading (List SeenAggregate)} b (Some (before ++ complete_with x r.0 ∷ [], r.1)) None)
    one r true e = stands_first before (complete_with x r.0) (read_structs of ts r.1) true e
    one r false e = stands_first before (complete_with x r.0) (read_structs of ts r.1) false e

    all : (o : LinesReading (List SeenMember)) →
        option_and_then (stands_behind before) (option_and_then (λ (r : List SeenMember × Lines). option_map (aggregate_first (complete_with x r.0)) (read_structs of ts r.1)) o) ≡ option_and_then (structs_on of ts) (option_and_then (complete_behind before x) o)
    all None = refl
    all (Some r) = one r (stands_well before (complete_with x r.0)) refl

    by : (b : Bool) →
        option_and_then (stands_behind before) (cond b
        (option_and_then (λ (r : List SeenMember × Lines). option_map (aggregate_first (complete_with x r.0)) (read_structs of ts r.1)) (read_members of ls))
        (option_map (aggregate_first (incomplete x)) (read_structs of ts (line ∷ ls))))
        ≡ option_and_then (structs_on of ts) (cond {A = LinesReading (List SeenAggregate)} b (one_complete of before x ls) (Some (before ++ incomplete x ∷ [], line ∷ ls)))
    by true = all (read_members of ls)
    by false = stands_first before (incomplete x) (read_structs of ts (line ∷ ls)) true refl

tags_next_at : (a : ℕ) (xs : List SeenAggregate) → a < length xs → map tag_back (drop a xs) ≡ tag_at a xs ∷ map tag_back (drop (a + 1) xs)
tags_next_at a xs less =
    let found = get_there xs a less in
    let e = drop_next a xs found.0 found.1 in
    ap (map tag_back) e
    ∙ ap (λ ys. first_tag ys ∷ map tag_back (drop (suc a) xs)) (sym e)
    ∙ ap (λ k. tag_at a xs ∷ map tag_back (drop k xs)) (sym (plus_one a))

-- what base words are read by, where the tags are those of all aggregates
read_by : (s : Setting) (names : List (List ℕ)) (k : ℕ) (abi : Abi) → Holds s names k → s.graph.abi ≡ abi → bases (env_in s) ≡ bases_from abi (aggregates_in s.graph names)
read_by s names k abi h model = ap (λ (a : Abi). bases_in a (env_in s).tags) (setting_model s ∙ model) ∙ ap (bases_in abi) h.tags

read_alike : (s t : Setting) → (env_in t).tags ≡ (env_in s).tags → t.graph.abi ≡ s.graph.abi → bases (env_in t) ≡ bases (env_in s)
read_alike s t tags model = ap (λ (a : Abi). bases_in a (env_in t).tags) (setting_model t ∙ model ∙ sym (setting_model s)) ∙ ap (bases_in (env_in s).abi) tags

pub structs_begin : (f : Graph) (s : Setting) (old names : List (List ℕ)) (k n : ℕ) (xs : List SeenAggregate) (ls vs : Lines) → AggregatesAdded f s.graph old names → Holds s names k → tags_from xs ls ≡ Some (aggregates_in s.graph names, vs) →
    structs_behind (read_member (bases (env_in s)) n) (take k (aggregates_in s.graph names)) (map tag_back (drop k (aggregates_in s.graph names))) vs ≡ tagged_structs f.abi n k xs ls
structs_begin f s old names k n xs ls vs a h e =
    let ys = aggregates_in s.graph names in
    ap (λ (b : Bases). structs_behind (read_member b n) (take k ys) (map tag_back (drop k ys)) vs) (read_by s names k f.abi h a.model) ∙ sym (ap (option_and_then (structs_after f.abi n k)) e)

pub structs_none : (abi : Abi) (n k : ℕ) (xs : List SeenAggregate) (ls : Lines) → tags_from xs ls ≡ None → tagged_structs abi n k xs ls ≡ None
structs_none abi n k xs ls e = ap (option_and_then (structs_after abi n k)) e

pub structs_next : (s t : Setting) (names later : List (List ℕ)) (n a : ℕ) (ls vs : Lines) (whole : LinesReading (List SeenAggregate)) → a < length s.graph.aggs → (env_in t).tags ≡ (env_in s).tags → AggregatesAdded s.graph t.graph names later →
    one_struct (read_member (bases (env_in s)) n) (take a (aggregates_in s.graph names)) (tag_at a (aggregates_in s.graph names)) ls ≡ Some (take (a + 1) (aggregates_in t.graph later), vs) → drop (a + 1) (aggregates_in t.graph later) ≡ drop (a + 1) (aggregates_in s.graph names) →
    structs_behind (read_member (bases (env_in s)) n) (take a (aggregates_in s.graph names)) (map tag_back (drop a (aggregates_in s.graph names))) ls ≡ whole →
    structs_behind (read_member (bases (env_in t)) n) (take (a + 1) (aggregates_in t.graph later)) (map tag_back (drop (a + 1) (aggregates_in t.graph later))) vs ≡ whole
structs_next s t names later n a ls vs whole less same added e rest inv =
    let xs = aggregates_in s.graph names in
    let ys = aggregates_in t.graph later in
    let of = read_member (bases (env_in s)) n in
    ap (λ (b : Bases). structs_behind (read_member b n) (take (a + 1) ys) (map tag_back (drop (a + 1) ys)) vs) (read_alike s t same added.model)
    ∙ ap (λ zs. structs_behind of (take (a + 1) ys) (map tag_back zs) vs) rest
    ∙ sym (
    ap (λ zs. structs_behind of (take a xs) zs ls) (tags_next_at a xs (omega (arith, less, count_in s.graph names)))
    ∙ structs_by of (take a xs) (tag_at a xs) (map tag_back (drop (a + 1) xs)) ls
    ∙ ap (option_and_then (structs_on of (map tag_back (drop (a + 1) xs)))) e)
    ∙ inv

pub structs_fail : (s : Setting) (names : List (List ℕ)) (n a : ℕ) (ls : Lines) (whole : LinesReading (List SeenAggregate)) → a < length s.graph.aggs →
    one_struct (read_member (bases (env_in s)) n) (take a (aggregates_in s.graph names)) (tag_at a (aggregates_in s.graph names)) ls ≡ None →
    structs_behind (read_member (bases (env_in s)) n) (take a (aggregates_in s.graph names)) (map tag_back (drop a (aggregates_in s.graph names))) ls ≡ whole → whole ≡ None
structs_fail s names n a ls whole less e inv =
    let xs = aggregates_in s.graph names in
    let of = read_member (bases (env_in s)) n in
    sym inv
    ∙ ap (λ zs. structs_behind of (take a xs) zs ls) (tags_next_at a xs (omega (arith, less, count_in s.graph names)))
    ∙ structs_by of (take a xs) (tag_at a xs) (map tag_back (drop (a + 1) xs)) ls
    ∙ ap (option_and_then (structs_on of (map tag_back (drop (a + 1) xs)))) e

pub structs_end : (s : Setting) (names : List (List ℕ)) (n a : ℕ) (ls : Lines) (whole : LinesReading (List SeenAggregate)) → length s.graph.aggs ≤ a →
    structs_behind (read_member (bases (env_in s)) n) (take a (aggregates_in s.graph names)) (map tag_back (drop a (aggregates_in s.graph names))) ls ≡ whole → whole ≡ Some (aggregates_in s.graph names, ls)
unfolding structs_behind
structs_end s names n a ls whole less inv =
    let xs = aggregates_in s.graph names in
    let past : length xs ≤ a = omega (arith, less, count_in s.graph names) in
    sym inv
    ∙ ap (λ zs. structs_behind (read_member (bases (env_in s)) n) (take a xs) (map tag_back zs) ls) (drop_of_length-le xs past)
    ∙ ap (λ zs. Some (zs, ls)) (append-nil (take a xs) ∙ take_all a xs past)

pub structs_open : (a : ℕ) (xs ys : List SeenAggregate) → AreOpen (drop a xs) → a < length xs → drop (a + 1) ys ≡ drop (a + 1) xs → AreOpen (drop (a + 1) ys)
structs_open a xs ys o less e =
    let found = get_there xs a less in
    subst AreOpen (ap (λ k. drop k xs) (sym (plus_one a)) ∙ sym e) (subst AreOpen (drop_next a xs found.0 found.1) o).1

pub structs_plain : (a : ℕ) (xs ys : List SeenAggregate) → ArePlain (drop a xs) → a < length xs → drop (a + 1) ys ≡ drop (a + 1) xs → ArePlain (drop (a + 1) ys)
structs_plain a xs ys o less e =
    let found = get_there xs a less in
    subst ArePlain (ap (λ k. drop k xs) (sym (plus_one a)) ∙ sym e) (subst ArePlain (drop_next a xs found.0 found.1) o).1

pub holds_all : (s : Setting) (names : List (List ℕ)) (a : ℕ) → Holds s names a → length s.graph.aggs ≤ a → Holds s names (length s.graph.aggs)
holds_all s names a h less =
    let xs = aggregates_in s.graph names in
    let count = count_in s.graph names in record {
      seen = h.seen;
      tags = h.tags;
      apart = h.apart;
      fields = h.fields ∙ ap (map seen_fields) (take_all a xs (omega (arith, less, count)) ∙ sym (take_all (length s.graph.aggs) xs (omega (arith, count))));
      plain = h.plain;
    }

pub holds_fields : (s : Setting) (names : List (List ℕ)) → Holds s names (length s.graph.aggs) → (env_in s).members ≡ map seen_fields (aggregates_in s.graph names)
holds_fields s names h = h.fields ∙ ap (map seen_fields) (take_all (length s.graph.aggs) (aggregates_in s.graph names) (omega (arith, count_in s.graph names)))

-- all aggregates

enums_some : (n : ℕ) (ls vs : Lines) (xs : List SeenAggregate) → enums_from n [] ls ≡ Some (xs, vs) → (read_enums n ls ≡ Some (xs, vs)) × (are_different (map tag_of xs) ≡ true)
unfolding enums_from
enums_some n ls vs xs e = by (read_enums n ls) refl e
  where
    one : (r : List SeenAggregate × Lines) (b : Bool) → read_enums n ls ≡ Some r → are_different (map tag_of r.0) ≡ b → cond b (Some r) None ≡ Some (xs, vs) → (read_enums n ls ≡ Some (xs, vs)) × (are_different (map tag_of xs) ≡ true)
    one r true p d f = let same : r ≡ (xs, vs) = cc in (p ∙ ap Some same, ap (λ (u : List SeenAggregate × Lines). are_different (map tag_of u.0)) (sym same) ∙ d)
    one r false p d f = absurd (cc f)

    by : (o : LinesReading (List SeenAggregate)) → read_enums n ls ≡ o → option_and_then tags_apart (option_map (with_enums []) o) ≡ Some (xs, vs) → (read_enums n ls ≡ Some (xs, vs)) × (are_different (map tag_of xs) ≡ true)
    by None p f = absurd (cc f)
    by (Some r) p f = one r (are_different (map tag_of r.0)) p refl f

-- the tags that are read behind these aggregates
record TagsRead (xs ys : List SeenAggregate) (ls vs : Lines) : Type 0 where
  all : ys ≡ xs ++ map incomplete (read_tags ls).0
  rest : vs ≡ (read_tags ls).1
  apart : are_different (map tag_of ys) ≡ true

tags_some : (xs ys : List SeenAggregate) (ls vs : Lines) → tags_from xs ls ≡ Some (ys, vs) → TagsRead xs ys ls vs
unfolding tags_from
tags_some xs ys ls vs e = by (are_different (map tag_of (xs ++ map incomplete (read_tags ls).0))) refl e
  where
    zs : List SeenAggregate
    zs = xs ++ map incomplete (read_tags ls).0

    by : (b : Bool) → are_different (map tag_of zs) ≡ b → cond {A = LinesReading (List SeenAggregate)} b (Some (zs, (read_tags ls).1)) None ≡ Some (ys, vs) → TagsRead xs ys ls vs
    by true d f = let pair : (zs, (read_tags ls).1) ≡ (ys, vs) = cc in let same : zs ≡ ys = ap (λ (u : List SeenAggregate × Lines). u.0) pair in record { all = sym same; rest = sym (ap (λ (u : List SeenAggregate × Lines). u.1) pair); apart = ap (λ us. are_different (map tag_of us)) (sym same) ∙ d }
    by false d f = absurd (cc f)

all_open : (ts : List Tag) → AreOpen (map incomplete ts)
all_open [] = tt
all_open (t ∷ ts) = (refl, all_open ts)

backs : (ts : List Tag) → map tag_back (map incomplete ts) ≡ ts
backs [] = refl
backs (t ∷ ts) = ap (λ us. t ∷ us) (backs ts)

abbrev EachPlain : List Tag → Type 0
EachPlain [] = Unit {0}
EachPlain (t ∷ ts) = (is_enum t.0 ≡ false) × EachPlain ts

lone_plain : (ws : List Word) (t : Tag) → lone_tag ws ≡ Some t → is_enum t.0 ≡ false
lone_plain (TagWord kind ∷ Name tag ∷ Semicolon ∷ ws) t e = by (is_enum kind) refl e
  where
    by : (b : Bool) → is_enum kind ≡ b → cond {A = Option Tag} b None (Some (kind, tag)) ≡ Some t → is_enum t.0 ≡ false
    by true d f = absurd (cc f)
    by false d f = let same : (kind, tag) ≡ t = cc in ap (λ (u : Tag). is_enum u.0) (sym same) ∙ d
lone_plain _ t e = absurd (cc e)

read_plain : (ls : Lines) → EachPlain (read_tags ls).0
read_plain [] = tt
read_plain (line ∷ ls) = by (lone_tag line) refl (read_plain ls)
  where
    by : (o : Option Tag) → lone_tag line ≡ o → EachPlain (read_tags ls).0 → EachPlain (elim o as (λ _. List Tag × Lines) [ None ↦ ([], line ∷ ls) | Some x ↦ tag_first x (read_tags ls) ]).0
    by None e rest = tt
    by (Some x) e rest = (lone_plain line x e, rest)

all_plain : (ts : List Tag) → EachPlain ts → ArePlain (map incomplete ts)
all_plain [] e = tt
all_plain (t ∷ ts) e = (e.0, all_plain ts e.1)

drop_read : (xs ys : List SeenAggregate) (ls vs : Lines) (k : ℕ) → TagsRead xs ys ls vs → k ≡ length xs → drop k ys ≡ map incomplete (read_tags ls).0
drop_read xs ys ls vs k t e = ap (λ zs. drop k zs) t.all ∙ ap (λ n. drop n (xs ++ map incomplete (read_tags ls).0)) e ∙ drop-append_seam xs (map incomplete (read_tags ls).0)

take_read : (xs ys : List SeenAggregate) (ls vs : Lines) (k : ℕ) → TagsRead xs ys ls vs → k ≡ length xs → take k ys ≡ xs
take_read xs ys ls vs k t e = ap (λ zs. take k zs) t.all ∙ ap (λ n. take n (xs ++ map incomplete (read_tags ls).0)) e ∙ take-append_seam xs (map incomplete (read_tags ls).0)

pub whole_open : (r : Setting) (names : List (List ℕ)) (ys : List SeenAggregate) (ls vs : Lines) (k : ℕ) → tags_from (aggregates_in r.graph names) ls ≡ Some (ys, vs) → k ≡ length r.graph.aggs → AreOpen (drop k ys)
whole_open r names ys ls vs k e c =
    let xs = aggregates_in r.graph names in
    subst AreOpen (sym (drop_read xs ys ls vs k (tags_some xs ys ls vs e) (c ∙ sym (count_in r.graph names)))) (all_open (read_tags ls).0)

pub whole_plain : (r : Setting) (names : List (List ℕ)) (ys : List SeenAggregate) (ls vs : Lines) (k : ℕ) → tags_from (aggregates_in r.graph names) ls ≡ Some (ys, vs) → k ≡ length r.graph.aggs → ArePlain (drop k ys)
whole_plain r names ys ls vs k e c =
    let xs = aggregates_in r.graph names in
    subst ArePlain (sym (drop_read xs ys ls vs k (tags_some xs ys ls vs e) (c ∙ sym (count_in r.graph names)))) (all_plain (read_tags ls).0 (read_plain ls))

tags_first : (x : Tag) (ts : List Tag) (o : LinesReading (List SeenAggregate)) (y : SeenAggregate) (r : List SeenAggregate × Lines) → tag_of y ≡ x.1 → ((q : List SeenAggregate × Lines) → o ≡ Some q → map tag_of q.0 ≡ map tag_text_of ts) →
    option_map (aggregate_first y) o ≡ Some r → map tag_of r.0 ≡ x.1 ∷ map tag_text_of ts
tags_first x ts None y r t rest e = absurd (cc e)
tags_first x ts (Some q) y r t rest e =
    let same : (y ∷ q.0, q.1) ≡ r = cc in
    ap (λ (u : List SeenAggregate × Lines). map tag_of u.0) (sym same) ∙ ap (λ v. v ∷ map tag_of q.0) t ∙ ap (λ vs. x.1 ∷ vs) (rest q refl)

-- the tags of the structs and unions that are read
structs_tags : (of : List Word → Option SeenMember) (ts : List Tag) (ls : Lines) (r : List SeenAggregate × Lines) → read_structs of ts ls ≡ Some r → map tag_of r.0 ≡ map tag_text_of ts
structs_tags of [] ls r e = let same : ([], ls) ≡ r = cc in ap (λ (u : List SeenAggregate × Lines). map tag_of u.0) (sym same)
structs_tags of (x ∷ ts) [] r e = tags_first x ts (read_structs of ts []) (incomplete x) r refl (structs_tags of ts []) e
structs_tags of (x ∷ ts) (line ∷ ls) r e = by (is_opened (opened_tag line) x.1) (λ ks q. structs_tags of ts ks q) e
  where
    opened : (o : LinesReading (List SeenMember)) → ((ks : Lines) (q : List SeenAggregate × Lines) → read_structs of ts ks ≡ Some q → map tag_of q.0 ≡ map tag_text_of ts) → option_and_then (λ (q : List SeenMember × Lines). option_map (aggregate_first (complete_with x q.0)) (read_structs of ts q.1)) o ≡ Some r → map tag_of r.0 ≡ x.1 ∷ map tag_text_of ts
    opened None again f = absurd (cc f)
    opened (Some q) again f = tags_first x ts (read_structs of ts q.1) (complete_with x q.0) r refl (again q.1) f

    by : (b : Bool) → ((ks : Lines) (q : List SeenAggregate × Lines) → read_structs of ts ks ≡ Some q → map tag_of q.0 ≡ map tag_text_of ts) → cond b (option_and_then (λ (q : List SeenMember × Lines). option_map (aggregate_first (complete_with x q.0)) (read_structs of ts q.1)) (read_members of ls)) (option_map (aggregate_first (incomplete x)) (read_structs of ts (line ∷ ls))) ≡ Some r → map tag_of r.0 ≡ x.1 ∷ map tag_text_of ts
    by true again f = opened (read_members of ls) again f
    by false again f = tags_first x ts (read_structs of ts (line ∷ ls)) (incomplete x) r refl (again (line ∷ ls)) f

stand_all : (before xs ys : List SeenAggregate) → stand_well before (xs ++ ys) ≡ stand_well before xs && stand_well (before ++ xs) ys
stand_all before [] ys = ap (λ zs. stand_well zs ys) (sym (append-nil before))
stand_all before (x ∷ xs) ys = by (stands_well before x) (stand_all (before ++ x ∷ []) xs ys) (ap (λ zs. stand_well zs ys) (append_assoc before (x ∷ []) xs))
  where
    by : (b : Bool) → stand_well (before ++ x ∷ []) (xs ++ ys) ≡ stand_well (before ++ x ∷ []) xs && stand_well ((before ++ x ∷ []) ++ xs) ys → stand_well ((before ++ x ∷ []) ++ xs) ys ≡ stand_well (before ++ x ∷ xs) ys →
        b && stand_well (before ++ x ∷ []) (xs ++ ys) ≡ (b && stand_well (before ++ x ∷ []) xs) && stand_well (before ++ x ∷ xs) ys
    by true e f = e ∙ ap (λ c. stand_well (before ++ x ∷ []) xs && c) f
    by false e f = refl

-- enums stand well
enum_stands : (before : List SeenAggregate) (tag : List ℕ) (ms : List SeenMember) → can_hold before Enum false ms ≡ true → stands_well before (enum_with tag ms) ≡ true
enum_stands before tag ms e = ap (λ b. b && true) e

enums_stand : (n : ℕ) (ls : Lines) (before : List SeenAggregate) (r : List SeenAggregate × Lines) → read_enums n ls ≡ Some r → stand_well before r.0 ≡ true
enums_stand zero ls before r e = let same : ([], ls) ≡ r = cc in ap (λ (u : List SeenAggregate × Lines). stand_well before u.0) (sym same)
enums_stand (suc n) [] before r e = let same : ([], []) ≡ r = cc in ap (λ (u : List SeenAggregate × Lines). stand_well before u.0) (sym same)
enums_stand (suc n) (line ∷ ls) before r e = by (opened_tag line) (λ ks zs u. enums_stand n ks zs u) e
  where
    last : (tag : List ℕ) (q : List SeenMember × Lines) (o : LinesReading (List SeenAggregate)) → ((ks : Lines) (zs : List SeenAggregate) (u : List SeenAggregate × Lines) → read_enums n ks ≡ Some u → stand_well zs u.0 ≡ true) → read_members read_enumerator ls ≡ Some q → read_enums n q.1 ≡ o → option_map (aggregate_first (enum_with tag q.0)) o ≡ Some r → stand_well before r.0 ≡ true
    last tag q None again p g f = absurd (cc f)
    last tag q (Some u) again p g f =
        let same : (enum_with tag q.0 ∷ u.0, u.1) ≡ r = cc in
        ap (λ (v : List SeenAggregate × Lines). stand_well before v.0) (sym same)
        ∙ ap (λ b. b && stand_well (before ++ enum_with tag q.0 ∷ []) u.0) (enum_stands before tag q.0 (enum_held ls before Enum false q.0 q.1 p))
        ∙ again q.1 (before ++ enum_with tag q.0 ∷ []) u g

    all : (tag : List ℕ) (o : LinesReading (List SeenMember)) → ((ks : Lines) (zs : List SeenAggregate) (u : List SeenAggregate × Lines) → read_enums n ks ≡ Some u → stand_well zs u.0 ≡ true) → read_members read_enumerator ls ≡ o → option_and_then (λ (q : List SeenMember × Lines). option_map (aggregate_first (enum_with tag q.0)) (read_enums n q.1)) o ≡ Some r → stand_well before r.0 ≡ true
    all tag None again p f = absurd (cc f)
    all tag (Some q) again p f = last tag q (read_enums n q.1) again p refl f

    by : (o : Option (List ℕ)) → ((ks : Lines) (zs : List SeenAggregate) (u : List SeenAggregate × Lines) → read_enums n ks ≡ Some u → stand_well zs u.0 ≡ true) → elim o as (λ _. LinesReading (List SeenAggregate)) [
      | None ↦ Some ([], line ∷ ls)
      | Some tag ↦ option_and_then (λ (q : List SeenMember × Lines). option_map (aggregate_first (enum_with tag q.0)) (read_enums n q.1)) (read_members read_enumerator ls)
    ] ≡ Some r → stand_well before r.0 ≡ true
    by None again f = let same : ([], line ∷ ls) ≡ r = cc in ap (λ (u : List SeenAggregate × Lines). stand_well before u.0) (sym same)
    by (Some tag) again f = all tag (read_members read_enumerator ls) again refl f

abbrev whole_by : Abi → ℕ → List SeenAggregate → List Tag × Lines → LinesReading (List SeenAggregate)
whole_by abi n es t = option_and_then (allowed first_allowed) (structs_from abi n es t)

whole_is : (abi : Abi) (n : ℕ) (ls vs : Lines) (es : List SeenAggregate) → read_enums n ls ≡ Some (es, vs) → read_placed abi n ls ≡ whole_by abi n es (read_tags vs)
whole_is abi n ls vs es e = ap (λ o. option_and_then (allowed first_allowed) (option_and_then (λ (r : List SeenAggregate × Lines). structs_from abi n r.0 (read_tags r.1)) o)) e

allowed_by : (xs : List SeenAggregate) (vs : Lines) (b c : Bool) → are_different (map tag_of xs) ≡ b → stand_well [] xs ≡ c → allowed first_allowed (xs, vs) ≡ cond {A = LinesReading (List SeenAggregate)} (b && c) (Some (xs, vs)) None
allowed_by xs vs b c e f =
    ap (λ u. cond {A = LinesReading (List SeenAggregate)} (u && stand_well [] xs) (Some (xs, vs)) None) e
    ∙ ap (λ u. cond {A = LinesReading (List SeenAggregate)} (b && u) (Some (xs, vs)) None) f

tag_texts : (us : List Tag) → map tag_of (map incomplete us) ≡ map tag_text_of us
tag_texts [] = refl
tag_texts (u ∷ us) = ap (λ vs. u.1 ∷ vs) (tag_texts us)

-- structs and unions behind enums and tags
whole_structs : (es : List SeenAggregate) (ts : List Tag) (o : LinesReading (List SeenAggregate)) → stand_well [] es ≡ true → are_different (map tag_of (es ++ map incomplete ts)) ≡ true → ((r : List SeenAggregate × Lines) → o ≡ Some r → map tag_of r.0 ≡ map tag_text_of ts) →
    option_and_then (allowed first_allowed) (option_map (with_enums es) o) ≡ option_and_then (stands_behind es) o
whole_structs es ts None s d t = refl
whole_structs es ts (Some r) s d t = allowed_by (es ++ r.0) r.1 true (stand_well es r.0) tags stands
  where
    tags : are_different (map tag_of (es ++ r.0)) ≡ true
    tags =
        ap are_different (map-append tag_of es r.0 ∙ ap (λ us. map tag_of es ++ us) (t r refl ∙ sym (tag_texts ts)) ∙ sym (map-append tag_of es (map incomplete ts)))
        ∙ d

    stands : stand_well [] (es ++ r.0) ≡ stand_well es r.0
    stands = stand_all [] es r.0 ∙ ap (λ b. b && stand_well es r.0) s

all_are : (es ys : List SeenAggregate) (ts : List Tag) → ys ≡ es ++ map incomplete ts → all_tags es ts ≡ map tag_of ys
all_are es ys ts e = ap (λ us. map tag_of es ++ us) (sym (tag_texts ts)) ∙ sym (map-append tag_of es (map incomplete ts)) ∙ ap (map tag_of) (sym e)

-- what is left of the reading behind the tags
whole_left : (abi : Abi) (n : ℕ) (ls ls1 ls2 : Lines) (es ys : List SeenAggregate) (k : ℕ) → enums_from n [] ls ≡ Some (es, ls1) → tags_from es ls1 ≡ Some (ys, ls2) → k ≡ length es →
    read_placed abi n ls ≡ structs_after abi n k (ys, ls2)
unfolding structs_behind
whole_left abi n ls ls1 ls2 es ys k e f c =
    let enums = enums_some n ls ls1 es e in
    let tags = tags_some es ys ls1 ls2 f in
    let ts = (read_tags ls1).0 in
    whole_is abi n ls ls1 es enums.0
    ∙ whole_structs es ts (read_structs (read_member (all_bases abi es ts) n) ts (read_tags ls1).1) (enums_stand n ls [] (es, ls1) enums.0) (ap (λ us. are_different (map tag_of us)) (sym tags.all) ∙ tags.apart) (structs_tags (read_member (all_bases abi es ts) n) ts (read_tags ls1).1)
    ∙ ap (λ us. option_and_then (stands_behind es) (read_structs (read_member (bases_in abi us) n) ts (read_tags ls1).1)) (all_are es ys ts tags.all)
    ∙ ap (λ vs. option_and_then (stands_behind es) (read_structs (read_member (bases_from abi ys) n) ts vs)) (sym tags.rest)
    ∙ ap (λ us. option_and_then (stands_behind es) (read_structs (read_member (bases_from abi ys) n) us ls2)) (sym (ap (map tag_back) (drop_read es ys ls1 ls2 k tags c) ∙ backs ts))
    ∙ ap (λ us. option_and_then (stands_behind us) (read_structs (read_member (bases_from abi ys) n) (map tag_back (drop k ys)) ls2)) (sym (take_read es ys ls1 ls2 k tags c))

-- tags that are alike
refused_by : (es : List SeenAggregate) (o : LinesReading (List SeenAggregate)) → ((r : List SeenAggregate × Lines) → o ≡ Some r → are_different (map tag_of (es ++ r.0)) ≡ false) → option_and_then (allowed first_allowed) (option_map (with_enums es) o) ≡ None
refused_by es None d = refl
refused_by es (Some r) d = allowed_by (es ++ r.0) r.1 false (stand_well [] (es ++ r.0)) (d r refl) refl

apart_none : (xs : List SeenAggregate) (vs : Lines) → tags_apart (xs, vs) ≡ None → are_different (map tag_of xs) ≡ false
apart_none xs vs e = by (are_different (map tag_of xs)) e
  where
    by : (b : Bool) → cond {A = LinesReading (List SeenAggregate)} b (Some (xs, vs)) None ≡ None → b ≡ false
    by true f = absurd (cc f)
    by false f = refl

pub whole_fails : (s : Setting) (names : List (List ℕ)) (abi : Abi) (n : ℕ) (ls : Lines) → IsBlank s → enums_from n (aggregates_in s.graph names) ls ≡ None → read_placed abi n ls ≡ None
unfolding enums_from
whole_fails s names abi n ls b e = by (read_enums n ls) (ap (λ xs. enums_from n xs ls) (sym (blank_none s names b)) ∙ e)
  where
    one : (r : List SeenAggregate × Lines) → are_different (map tag_of r.0) ≡ false → whole_by abi n r.0 (read_tags r.1) ≡ None
    one r d = refused_by r.0 (read_structs (read_member (all_bases abi r.0 (read_tags r.1).0) n) (read_tags r.1).0 (read_tags r.1).1)
        (λ q _. ap are_different (map-append tag_of r.0 q.0) ∙ different_front (map tag_of r.0) (map tag_of q.0) d)

    by : (o : LinesReading (List SeenAggregate)) → option_and_then tags_apart (option_map (with_enums []) o) ≡ None → option_and_then (allowed first_allowed) (option_and_then (λ (r : List SeenAggregate × Lines). structs_from abi n r.0 (read_tags r.1)) o) ≡ None
    by None f = refl
    by (Some r) f = one r (apart_none r.0 r.1 f)

twice : (abi : Abi) (n : ℕ) (ls ls1 : Lines) (es : List SeenAggregate) → enums_from n [] ls ≡ Some (es, ls1) → tags_from es ls1 ≡ None → read_placed abi n ls ≡ None
unfolding tags_from
twice abi n ls ls1 es e f = whole_is abi n ls ls1 es (enums_some n ls ls1 es e).0 ∙ refused_by es (read_structs of ts (read_tags ls1).1) alike
  where
    ts : List Tag
    ts = (read_tags ls1).0

    of : List Word → Option SeenMember
    of = read_member (all_bases abi es ts) n

    alike : (r : List SeenAggregate × Lines) → read_structs of ts (read_tags ls1).1 ≡ Some r → are_different (map tag_of (es ++ r.0)) ≡ false
    alike r p =
        ap are_different (map-append tag_of es r.0 ∙ ap (λ us. map tag_of es ++ us) (structs_tags of ts (read_tags ls1).1 r p ∙ sym (tag_texts ts)) ∙ sym (map-append tag_of es (map incomplete ts)))
        ∙ apart_none (es ++ map incomplete ts) (read_tags ls1).1 f

whole_both : (abi : Abi) (n : ℕ) (ls ls1 : Lines) (es : List SeenAggregate) (k : ℕ) → enums_from n [] ls ≡ Some (es, ls1) → k ≡ length es → read_placed abi n ls ≡ tagged_structs abi n k es ls1
whole_both abi n ls ls1 es k e c = by (tags_from es ls1) refl
  where
    by : (o : LinesReading (List SeenAggregate)) → tags_from es ls1 ≡ o → read_placed abi n ls ≡ option_and_then (structs_after abi n k) o
    by None f = twice abi n ls ls1 es e f
    by (Some t) f = whole_left abi n ls ls1 t.1 es t.0 k e f c

-- the whole is what the code's parts give
pub whole_gives : (s q : Setting) (names next : List (List ℕ)) (n k : ℕ) (ls ls1 : Lines) (r : List SeenAggregate × Lines) → IsBlank s → enums_from n (aggregates_in s.graph names) ls ≡ Some (aggregates_in q.graph next, ls1) → AggregatesAdded s.graph q.graph names next → k ≡ length q.graph.aggs →
    tagged_structs q.graph.abi n k (aggregates_in q.graph next) ls1 ≡ Some r → read_placed s.graph.abi n ls ≡ Some r
whole_gives s q names next n k ls ls1 r b e added c g =
    whole_both s.graph.abi n ls ls1 (aggregates_in q.graph next) k (ap (λ xs. enums_from n xs ls) (sym (blank_none s names b)) ∙ e) (c ∙ sym (count_in q.graph next))
    ∙ ap (λ (abi : Abi). tagged_structs abi n k (aggregates_in q.graph next) ls1) (sym added.model)
    ∙ g

pub whole_refused : (s q : Setting) (names next : List (List ℕ)) (n k : ℕ) (ls ls1 : Lines) → IsBlank s → enums_from n (aggregates_in s.graph names) ls ≡ Some (aggregates_in q.graph next, ls1) → AggregatesAdded s.graph q.graph names next → k ≡ length q.graph.aggs →
    tagged_structs q.graph.abi n k (aggregates_in q.graph next) ls1 ≡ None → read_placed s.graph.abi n ls ≡ None
whole_refused s q names next n k ls ls1 b e added c g =
    whole_both s.graph.abi n ls ls1 (aggregates_in q.graph next) k (ap (λ xs. enums_from n xs ls) (sym (blank_none s names b)) ∙ e) (c ∙ sym (count_in q.graph next))
    ∙ ap (λ (abi : Abi). tagged_structs abi n k (aggregates_in q.graph next) ls1) (sym added.model)
    ∙ g

-- the aggregate that a line opens

number_later : (o : Option ℕ) (a : ℕ) → is_number (option_map suc o) (suc a) ≡ is_number o a
number_later None a = refl
number_later (Some n) a = grind (arith, nat_tests)

number_first : (o : Option ℕ) → is_number (option_map suc o) 0 ≡ false
number_first None = refl
number_first (Some n) = grind (arith, nat_tests)

other_tag : (ts : List (List ℕ)) (s t u : List ℕ) (a : ℕ) → not (is_among ts u) && are_different ts ≡ true → slice_get ts a ≡ Some s → bytes_eq t u ≡ true → bytes_eq t s ≡ false
other_tag ts s t u a d at e = by (bytes_eq t s) refl
  where
    apart : (b : Bool) → is_among ts u ≡ b → not b && are_different ts ≡ true → is_among ts u ≡ false
    apart true p f = absurd (cc f)
    apart false p f = p

    by : (b : Bool) → bytes_eq t s ≡ b → bytes_eq t s ≡ false
    by false p = p
    by true p =
        let same : s ≡ u = sym ((bytes_eq-Decides t s).0 p) ∙ (bytes_eq-Decides t u).0 e in
        let there : is_among ts u ≡ true = list_any-get ts a u (at ∙ ap Some same) in
        absurd (cc (sym there ∙ apart (is_among ts u) refl d))

number_is : (ts : List (List ℕ)) (t s : List ℕ) (a : ℕ) → are_different ts ≡ true → slice_get ts a ≡ Some s → is_number (find t ts) a ≡ bytes_eq t s
number_is [] t s a d at = absurd (cc at)
number_is (u ∷ ts) t s zero d at = let same : u ≡ s = cc in by (bytes_eq t u) ∙ ap (bytes_eq t) same
  where
    by : (b : Bool) → is_number (cond b (Some 0) (option_map suc (find t ts))) 0 ≡ b
    by true = refl
    by false = number_first (find t ts)
number_is (u ∷ ts) t s (suc a) d at = by (bytes_eq t u) refl (number_is ts t s a (rest (is_among ts u) d) at)
  where
    nothing : (k : ℕ) → nat_eq 0 (suc k) ≡ false
    nothing k = grind (arith, nat_tests)

    rest : (b : Bool) → not b && are_different ts ≡ true → are_different ts ≡ true
    rest true f = absurd (cc f)
    rest false f = f

    by : (b : Bool) → bytes_eq t u ≡ b → is_number (find t ts) a ≡ bytes_eq t s → is_number (cond b (Some 0) (option_map suc (find t ts))) (suc a) ≡ bytes_eq t s
    by true p f = nothing a ∙ sym (other_tag ts s t u a d at p)
    by false p f = number_later (find t ts) a ∙ f

tag_found : (s : Setting) (names : List (List ℕ)) (a : ℕ) (tag : List ℕ) → Holds s names a → a < length s.graph.aggs → is_number (find tag (env_in s).tags) a ≡ bytes_eq tag (tag_at a (aggregates_in s.graph names)).1
tag_found s names a tag h less =
    let xs = aggregates_in s.graph names in
    let found = get_there xs a (omega (arith, less, count_in s.graph names)) in
    number_is (env_in s).tags tag (tag_of found.0) a h.apart (ap (λ ts. slice_get ts a) h.tags ∙ slice_get-map tag_of xs a ∙ ap (option_map tag_of) found.1)
    ∙ ap (λ ys. bytes_eq tag (first_tag ys).1) (sym (drop_next a xs found.0 found.1))

abbrev struct_with : (List Word → Option SeenMember) → List SeenAggregate → Tag → Lines → Option Lines → LinesReading (List SeenAggregate)
struct_with of before x ls None = Some (before ++ incomplete x ∷ [], ls)
struct_with of before x ls (Some vs) = one_complete of before x vs

struct_by : (s : Setting) (names : List (List ℕ)) (a : ℕ) (of : List Word → Option SeenMember) (ls : Lines) → Holds s names a → a < length s.graph.aggs →
    one_struct of (take a (aggregates_in s.graph names)) (tag_at a (aggregates_in s.graph names)) ls ≡ struct_with of (take a (aggregates_in s.graph names)) (tag_at a (aggregates_in s.graph names)) ls (own_members (env_in s).tags a ls)
struct_by s names a of [] h less = refl
struct_by s names a of (line ∷ ls) h less = by (opened_tag line)
  where
    before : List SeenAggregate
    before = take a (aggregates_in s.graph names)

    x : Tag
    x = tag_at a (aggregates_in s.graph names)

    one : (b : Bool) → cond {A = LinesReading (List SeenAggregate)} b (one_complete of before x ls) (Some (before ++ incomplete x ∷ [], line ∷ ls)) ≡ struct_with of before x (line ∷ ls) (cond b (Some ls) None)
    one true = refl
    one false = refl

    by : (o : Option (List ℕ)) → cond {A = LinesReading (List SeenAggregate)} (is_opened o x.1) (one_complete of before x ls) (Some (before ++ incomplete x ∷ [], line ∷ ls)) ≡ struct_with of before x (line ∷ ls) (own_if (env_in s).tags a ls o)
    by None = refl
    by (Some tag) = one (bytes_eq tag x.1) ∙ ap (λ b. struct_with of before x (line ∷ ls) (cond b (Some ls) None)) (sym (tag_found s names a tag h less))

pub struct_complete : (s : Setting) (names : List (List ℕ)) (a : ℕ) (n : ℕ) (ls vs ws : Lines) (ys : List SeenAggregate) → Holds s names a → a < length s.graph.aggs → Some vs ≡ own_members (env_in s).tags a ls →
    one_complete (read_member (bases (env_in s)) n) (take a (aggregates_in s.graph names)) (tag_at a (aggregates_in s.graph names)) vs ≡ Some (ys, ws) → one_struct (read_member (bases (env_in s)) n) (take a (aggregates_in s.graph names)) (tag_at a (aggregates_in s.graph names)) ls ≡ Some (ys, ws)
struct_complete s names a n ls vs ws ys h less e f =
    let of = read_member (bases (env_in s)) n in
    struct_by s names a of ls h less ∙ ap (struct_with of (take a (aggregates_in s.graph names)) (tag_at a (aggregates_in s.graph names)) ls) (sym e) ∙ f

pub struct_bad : (s : Setting) (names : List (List ℕ)) (a : ℕ) (n : ℕ) (ls vs : Lines) → Holds s names a → a < length s.graph.aggs → Some vs ≡ own_members (env_in s).tags a ls →
    one_complete (read_member (bases (env_in s)) n) (take a (aggregates_in s.graph names)) (tag_at a (aggregates_in s.graph names)) vs ≡ None → one_struct (read_member (bases (env_in s)) n) (take a (aggregates_in s.graph names)) (tag_at a (aggregates_in s.graph names)) ls ≡ None
struct_bad s names a n ls vs h less e f =
    let of = read_member (bases (env_in s)) n in
    struct_by s names a of ls h less ∙ ap (struct_with of (take a (aggregates_in s.graph names)) (tag_at a (aggregates_in s.graph names)) ls) (sym e) ∙ f

pub struct_left : (s : Setting) (names : List (List ℕ)) (a : ℕ) (n : ℕ) (ls : Lines) (ys : List SeenAggregate) → Holds s names a → a < length s.graph.aggs → None ≡ own_members (env_in s).tags a ls →
    Some (take a (aggregates_in s.graph names) ++ incomplete (tag_at a (aggregates_in s.graph names)) ∷ []) ≡ Some ys → one_struct (read_member (bases (env_in s)) n) (take a (aggregates_in s.graph names)) (tag_at a (aggregates_in s.graph names)) ls ≡ Some (ys, ls)
struct_left s names a n ls ys h less e f =
    let of = read_member (bases (env_in s)) n in
    let xs = aggregates_in s.graph names in
    struct_by s names a of ls h less ∙ ap (struct_with of (take a xs) (tag_at a xs) ls) (sym e) ∙ ap (option_map (λ (zs : List SeenAggregate). (zs, ls))) f

pub left_rest : (s t : Setting) (names : List (List ℕ)) (k : ℕ) → t.graph ≡ s.graph → drop k (aggregates_in t.graph names) ≡ drop k (aggregates_in s.graph names)
left_rest s t names k e = ap (λ (g : Graph). drop k (aggregates_in g names)) e
