-- Device: what the reading of aggregates adds to the graph are parts of the types of their members.
use Rattle.std.proofs.Common.{◌≡◌, ◌⊎◌, inl, inr, ℕ, zero, suc, ◌<◌, ◌≤◌, Bool, true, false, cond, not, ◌&&◌, List, [], ◌∷◌, ◌++◌, map, length, drop, slice_get, slice_set, Option, Some, None, refl, sym, ap, ◌∙◌, subst, append_assoc}
use Rattle.std.specs.List.{list_all}
use Rattle.std.proofs.lemmas.List.Folds.{list_all-append}
use Rattle.std.specs.Option.{option_map, option_and_then}
use Rattle.cil_base.specs.declared.kinds.IntKind.TheVariants.{Int as int}
use Rattle.cil_base.specs.declared.numbers.AggId.{AggId}
use Rattle.cil_base.specs.declared.numbers.TypeId.{TypeId}
use Rattle.type_graph.specs.declared.aggregates.AggKind.{AggKind}
use Rattle.type_graph.specs.declared.aggregates.AggKind.TheVariants.{Enum}
use Rattle.type_graph.specs.declared.aggregates.Aggregate.{Aggregate}
use Rattle.type_graph.specs.declared.aggregates.Member.{Member}
use Rattle.type_graph.specs.declared.nodes.Node.{Node}
use Rattle.type_graph.specs.Shapes.{Shape, IntType, shape}
use Rattle.type_graph.specs.Arena.{Graph, EachType}
use Rattle.type_graph.specs.Growth.{Grows, KeepsAggregates, with_members}
use Rattle.type_graph.proofs.ShapeLaws.{kept}
use Rattle.cil_tree.specs.WellFormedTypes.{has_member}
use Rattle.cil_tree.specs.Programs.{SeenMember, SeenAggregate, seen_aggregate}
use Rattle.cil_text.specs.Allowed.{is_last, is_filled}
use Rattle.cil_text.specs.ReadAggregates.{Lines, LinesReading, member_first, is_close, read_enumerator, read_members, enum_with, complete_with, incomplete}
use Rattle.cil_text.specs.TypesOf.{parts, Among, AddsParts, type_of_member, types_in_aggregate, member_types}
use Rattle.cil_text.proofs.PartsAdded.{among_first, among_last, among_either, adds_none, adds_twice}
use Rattle.cil_reader.specs.declared.names.Names.{Names}
use Rattle.cil_reader.specs.Settings.{Setting}
use Rattle.cil_reader.specs.Pools.{KeepsNames}
use Rattle.cil_reader.specs.Members.{may_hold, members_in, MembersKnown, type_number, FieldsKnown, enumerators_from}
use Rattle.cil_reader.specs.Aggregates.{program_with, aggregates_in, Holds, AddsTag, completed, tag_back, AreOpen, tag_at, types_at, FieldsAdded, MembersAdded, AggregatesAdded}
use Rattle.cil_declarators.proofs.AddedLaws.{adds_among}
use Rattle.cil_reader.proofs.MemberLaws.{both_true}
use Rattle.cil_reader.proofs.AggregateLaws.{seen_later, aggregates_later, tag_seen, completed_some, seen_at, open_at, complete_seen, open_later, fields_types, from_first, enum_seen, int_line}
use Rattle.cil_reader.proofs.FilledLaws.{seen_filled}

-- graphs

-- aggregates that were added or completed add no type
pub adds_nodes : (f g h : Graph) (ss : List Shape) → h.nodes ≡ g.nodes → AddsParts f g ss → AddsParts f h ss
adds_nodes f g h ss e adds = record {
  part = subst (λ (ns : List Node). (t : ℕ) → length f.nodes ≤ t → t < length ns → (s : Shape) × Among s ss × Among (shape ns t) (parts s)) (sym e) adds.part;
}

-- members

types_kept : (g h : Graph) (ts : List TypeId) → Grows g h → EachType (length g.nodes) ts → types_at h.nodes ts ≡ types_at g.nodes ts
types_kept g h [] grows each = refl
types_kept g h (t ∷ ts) grows each = ap (λ ss. shape h.nodes t.0 ∷ ss) (types_kept g h ts grows each.1) ∙ ap (λ s. s ∷ types_at g.nodes ts) (kept g h t.0 grows each.0)

types_on : (nodes : List Node) (ts : List TypeId) (t : TypeId) → types_at nodes (ts ++ t ∷ []) ≡ types_at nodes ts ++ shape nodes t.0 ∷ []
types_on nodes [] t = refl
types_on nodes (u ∷ ts) t = ap (λ ss. shape nodes u.0 ∷ ss) (types_on nodes ts t)

pub field_added : (g h : Graph) (names : List (List ℕ)) (ms : List Member) (x y : Names) (t : TypeId) → FieldsKnown g names ms x → Grows g h → AddsParts g h (shape h.nodes t.0 ∷ []) → y.types.items ≡ x.types.items ++ t ∷ [] → FieldsAdded g h x.types.items y.types.items
field_added g h names ms x y t k grows adds e = record { added = one }
  where
    same : types_at h.nodes y.types.items ≡ types_at g.nodes x.types.items ++ shape h.nodes t.0 ∷ []
    same = ap (types_at h.nodes) e ∙ types_on h.nodes x.types.items t ∙ ap (λ ss. ss ++ shape h.nodes t.0 ∷ []) (types_kept g h x.types.items grows (fields_types g names ms x k))

    one : (f : Graph) → AddsParts f g (types_at g.nodes x.types.items) → AddsParts f h (types_at h.nodes y.types.items)
    one f first = subst (AddsParts f h) (sym same) (adds_twice f g h (types_at g.nodes x.types.items) (shape h.nodes t.0 ∷ []) grows first adds)

pub fields_same : (g : Graph) (ts : List TypeId) → FieldsAdded g g ts ts
fields_same g ts = record { added = λ f first. first }

pub fields_begin : (g h : Graph) (ts us : List TypeId) → FieldsAdded g h ts us → AddsParts g h (types_at h.nodes us)
fields_begin g h ts us a = a.added g (adds_none g (types_at g.nodes ts))

pub fields_on : (f g h : Graph) (ts us : List TypeId) → AddsParts f g (types_at g.nodes ts) → FieldsAdded g h ts us → AddsParts f h (types_at h.nodes us)
fields_on f g h ts us first a = a.added f first

types_seen : (nodes : List Node) (names : List (List ℕ)) (ms : List Member) → map type_of_member (members_in nodes names ms) ≡ types_at nodes (map type_number ms)
unfolding members_in
types_seen nodes names [] = refl
types_seen nodes names (m ∷ ms) = ap (λ ss. shape nodes m.ty.of.0 ∷ ss) (types_seen nodes names ms)

-- lists of aggregates

member_types_on : (xs ys : List SeenAggregate) → member_types (xs ++ ys) ≡ member_types xs ++ member_types ys
member_types_on [] ys = refl
member_types_on (x ∷ xs) ys = ap (λ ss. types_in_aggregate x ++ ss) (member_types_on xs ys) ∙ sym (append_assoc (types_in_aggregate x) (member_types xs) (member_types ys))

both : (b c : Bool) → b ≡ true → c ≡ true → b && c ≡ true
both b c e f = ap (λ d. d && c) e ∙ f

filled_front : (xs ys : List SeenAggregate) → list_all is_filled (xs ++ ys) ≡ true → list_all is_filled xs ≡ true
filled_front xs ys e = (both_true (list_all is_filled xs) (list_all is_filled ys) (sym (list_all-append is_filled xs ys) ∙ e)).0

filled_last : (xs : List SeenAggregate) (y : SeenAggregate) → list_all is_filled (xs ++ y ∷ []) ≡ true → is_filled y ≡ true
filled_last xs y e = (both_true (is_filled y) true (both_true (list_all is_filled xs) (is_filled y && true) (sym (list_all-append is_filled xs (y ∷ [])) ∙ e)).1).0

old_types : (xs ys : List SeenAggregate) (u : Shape) → Among u (member_types xs) → Among u (member_types (xs ++ ys))
old_types xs ys u a = subst (Among u) (sym (member_types_on xs ys)) (among_first (member_types xs) (member_types ys) u a)

new_types : (xs : List SeenAggregate) (y : SeenAggregate) (u : Shape) → Among u (types_in_aggregate y) → Among u (member_types (xs ++ y ∷ []))
new_types xs y u a = subst (Among u) (sym (member_types_on xs (y ∷ []))) (among_last (member_types xs) (member_types (y ∷ [])) u (among_first (types_in_aggregate y) [] u a))

filled_set : (xs : List SeenAggregate) (a : ℕ) (z y : SeenAggregate) → slice_get xs a ≡ Some z → is_filled z ≡ true → list_all is_filled (slice_set xs a y) ≡ true → list_all is_filled xs ≡ true
filled_set [] a z y at f e = refl
filled_set (x ∷ xs) zero z y at f e = let same : x ≡ z = cc in both (is_filled x) (list_all is_filled xs) (ap is_filled same ∙ f) (both_true (is_filled y) (list_all is_filled xs) e).1
filled_set (x ∷ xs) (suc a) z y at f e =
    let h = both_true (is_filled x) (list_all is_filled (slice_set xs a y)) e in
    both (is_filled x) (list_all is_filled xs) h.0 (filled_set xs a z y at f h.1)

not_first : (ss ts : List Shape) (u : Shape) → ss ≡ [] → Among u (ss ++ ts) → Among u ts
not_first ss ts u e a = subst (λ (rs : List Shape). Among u (rs ++ ts)) e a

among_behind : (ss ts us : List Shape) (u : Shape) → (Among u ts → Among u us) → Among u (ss ++ ts) → Among u (ss ++ us)
among_behind ss ts us u more a = by (among_either ss ts u a)
  where
    by : Among u ss ⊎ Among u ts → Among u (ss ++ us)
    by (inl h) = among_first ss us u h
    by (inr h) = among_last ss us u (more h)

old_set : (xs : List SeenAggregate) (a : ℕ) (z y : SeenAggregate) → slice_get xs a ≡ Some z → types_in_aggregate z ≡ [] → (u : Shape) → Among u (member_types xs) → Among u (member_types (slice_set xs a y))
old_set [] a z y at f u h = absurd h
old_set (x ∷ xs) zero z y at f u h = let same : x ≡ z = cc in among_last (types_in_aggregate y) (member_types xs) u (not_first (types_in_aggregate x) (member_types xs) u (ap types_in_aggregate same ∙ f) h)
old_set (x ∷ xs) (suc a) z y at f u h = among_behind (types_in_aggregate x) (member_types xs) (member_types (slice_set xs a y)) u (λ g. old_set xs a z y at f u g) h

new_set : (xs : List SeenAggregate) (a : ℕ) (z y : SeenAggregate) → slice_get xs a ≡ Some z → (u : Shape) → Among u (types_in_aggregate y) → Among u (member_types (slice_set xs a y))
new_set [] a z y at u h = absurd (cc at)
new_set (x ∷ xs) zero z y at u h = among_first (types_in_aggregate y) (member_types xs) u h
new_set (x ∷ xs) (suc a) z y at u h = among_last (types_in_aggregate x) (member_types (slice_set xs a y)) u (new_set xs a z y at u h)

-- steps

stepped : (f s r t : Graph) (xs ys : List SeenAggregate) (ss : List Shape) → Grows s r → t.nodes ≡ r.nodes → AddsParts f s (member_types xs) → AddsParts s r ss →
    ((u : Shape) → Among u (member_types xs) → Among u (member_types ys)) → ((u : Shape) → Among u ss → Among u (member_types ys)) → AddsParts f t (member_types ys)
stepped f s r t xs ys ss grows same first second old new =
    adds_among f t (member_types xs ++ ss) (member_types ys) (λ u a. by u (among_either (member_types xs) ss u a)) (adds_nodes f r t (member_types xs ++ ss) same (adds_twice f s r (member_types xs) ss grows first second))
  where
    by : (u : Shape) → Among u (member_types xs) ⊎ Among u ss → Among u (member_types ys)
    by u (inl a) = old u a
    by u (inr a) = new u a

pub added_none : (g : Graph) (names : List (List ℕ)) → AggregatesAdded g g names names
added_none g names = record { added = λ f m. m; model = refl }

pub added_twice : (g h i : Graph) (names later last : List (List ℕ)) → AggregatesAdded g h names later → AggregatesAdded h i later last → AggregatesAdded g i names last
added_twice g h i names later last p q = record { added = λ f m. q.added f (p.added f m); model = q.model ∙ p.model }

pub added_model : (g h : Graph) (names later : List (List ℕ)) → AggregatesAdded g h names later → h.abi ≡ g.abi
added_model g h names later a = a.model

pub left_added : (s t : Setting) (names : List (List ℕ)) → t.graph ≡ s.graph → AggregatesAdded s.graph t.graph names names
left_added s t names e = subst (λ (g : Graph). AggregatesAdded s.graph g names names) (sym e) (added_none s.graph names)

-- enums

abbrev has_first : LinesReading (List SeenMember) → Bool
has_first None = false
has_first (Some r) = not (is_last r.0)

first_int : (ls : Lines) (m : SeenMember) (ms : List SeenMember) (vs : Lines) → read_members read_enumerator ls ≡ Some (m ∷ ms, vs) → m.type ≡ IntType int
first_int [] m ms vs e = absurd (cc e)
first_int (line ∷ ls) m ms vs e = by (is_close line) (read_enumerator line) refl e
  where
    last : (n : SeenMember) → read_enumerator line ≡ Some n → (o : LinesReading (List SeenMember)) → option_map (member_first n) o ≡ Some (m ∷ ms, vs) → m.type ≡ IntType int
    last n p None f = absurd (cc f)
    last n p (Some r) f =
        let pair : member_first n r ≡ (m ∷ ms, vs) = cc in
        let lists : n ∷ r.0 ≡ m ∷ ms = ap (λ (u : List SeenMember × Lines). u.0) pair in
        let same : n ≡ m = cc in
        ap (λ (x : SeenMember). x.type) (sym same) ∙ int_line line n p

    by : (b : Bool) (o : Option SeenMember) → read_enumerator line ≡ o → cond {A = LinesReading (List SeenMember)} b (Some ([], ls)) (option_and_then (λ (n : SeenMember). option_map (member_first n) (read_members read_enumerator ls)) o) ≡ Some (m ∷ ms, vs) → m.type ≡ IntType int
    by true o p f = absurd (cc (ap has_first f))
    by false None p f = absurd (cc f)
    by false (Some n) p f = last n p (read_members read_enumerator ls) f

enum_int : (ls vs : Lines) (tag : List ℕ) (ms : List SeenMember) → read_members read_enumerator ls ≡ Some (ms, vs) → is_filled (enum_with tag ms) ≡ true → Among (IntType int) (types_in_aggregate (enum_with tag ms))
enum_int ls vs tag [] e f = absurd (cc f)
enum_int ls vs tag (m ∷ ms) e f = inl (sym (first_int ls m ms vs e))

pub enum_added : (s r q t : Setting) (names later last : List (List ℕ)) (k : ℕ) (i : TypeId) (a : AggId) (ms : List Member) (tag : List ℕ) (ls vs : Lines) → Holds s names k → Grows s.graph r.graph → KeepsAggregates s.graph r.graph → KeepsNames names later →
    enumerators_from [] ls ≡ Some (members_in r.graph.nodes later ms, vs) → MembersKnown r.graph later ms → KeepsNames later last → AddsTag r.graph q.graph last Enum tag → a.0 ≡ length r.graph.aggs → completed q.graph a ms ≡ Some t.graph →
    Some (IntType int) ≡ Some (shape r.graph.nodes i.0) → AddsParts s.graph r.graph (shape r.graph.nodes i.0 ∷ []) → AggregatesAdded s.graph t.graph names last
enum_added s r q t names later last k i a ms tag ls vs h grows same keeps e m keeps' adds at c is int_added =
    record { added = λ f before. record { part = λ filled. subst (λ (zs : List SeenAggregate). AddsParts f t.graph (member_types zs)) (sym now) (step f before (ap (list_all is_filled) (sym now) ∙ filled)) }; model = ap (λ (g : Graph). g.abi) (completed_some q.graph t.graph a ms c).3 ∙ ap (λ (g : Graph). g.abi) adds.is ∙ grows.abi }
  where
    xs : List SeenAggregate
    xs = aggregates_in s.graph names

    y : SeenAggregate
    y = enum_with tag (members_in r.graph.nodes later ms)

    now : aggregates_in t.graph last ≡ xs ++ y ∷ []
    now =
        enum_seen r.graph q.graph t.graph later last a ms tag (aggregates_later s.graph r.graph names later h.seen grows same keeps) m keeps' adds at c
        ∙ ap (λ zs. zs ++ y ∷ []) (seen_later s.graph r.graph names later h.seen grows same keeps)

    nodes : t.graph.nodes ≡ r.graph.nodes
    nodes = ap (λ (g : Graph). g.nodes) (completed_some q.graph t.graph a ms c).3 ∙ ap (λ (g : Graph). g.nodes) adds.is

    int_is : shape r.graph.nodes i.0 ≡ IntType int
    int_is = let same : IntType int ≡ shape r.graph.nodes i.0 = cc in sym same

    new : is_filled y ≡ true → (u : Shape) → Among u (shape r.graph.nodes i.0 ∷ []) → Among u (member_types (xs ++ y ∷ []))
    new filled u (inl v) = new_types xs y u (subst (λ (w : Shape). Among w (types_in_aggregate y)) (sym (v ∙ int_is)) (enum_int ls vs tag (members_in r.graph.nodes later ms) (sym (from_first ls) ∙ e) filled))
    new filled u (inr b) = absurd b

    step : (f : Graph) → MembersAdded f s.graph names → list_all is_filled (xs ++ y ∷ []) ≡ true → AddsParts f t.graph (member_types (xs ++ y ∷ []))
    step f before filled =
        stepped f s.graph r.graph t.graph xs (xs ++ y ∷ []) (shape r.graph.nodes i.0 ∷ []) grows nodes (before.part (filled_front xs (y ∷ []) filled)) int_added (old_types xs (y ∷ [])) (new (filled_last xs y filled))

-- tags

pub tag_added : (s t : Setting) (names later : List (List ℕ)) (k : ℕ) (kind : AggKind) (tag : List ℕ) → Holds s names k → KeepsNames names later → AddsTag s.graph t.graph later kind tag → AggregatesAdded s.graph t.graph names later
tag_added s t names later k kind tag h keeps adds =
    record { added = λ f before. record { part = λ filled. subst (λ (zs : List SeenAggregate). AddsParts f t.graph (member_types zs)) (sym now) (step f before (ap (list_all is_filled) (sym now) ∙ filled)) }; model = ap (λ (g : Graph). g.abi) adds.is }
  where
    xs : List SeenAggregate
    xs = aggregates_in s.graph names

    y : SeenAggregate
    y = incomplete (kind, tag)

    now : aggregates_in t.graph later ≡ xs ++ y ∷ []
    now = tag_seen s.graph t.graph names later kind tag h.seen keeps adds

    step : (f : Graph) → MembersAdded f s.graph names → list_all is_filled (xs ++ y ∷ []) ≡ true → AddsParts f t.graph (member_types (xs ++ y ∷ []))
    step f before filled =
        adds_among f t.graph (member_types xs) (member_types (xs ++ y ∷ [])) (old_types xs (y ∷ []))
        (adds_nodes f s.graph t.graph (member_types xs) (ap (λ (g : Graph). g.nodes) adds.is) (before.part (filled_front xs (y ∷ []) filled)))

-- structs and unions

pub complete_added : (s r t : Setting) (names later : List (List ℕ)) (a : AggId) (ms : List Member) (x : Names) → Holds s names a.0 → AreOpen (drop a.0 (aggregates_in s.graph names)) → Grows s.graph r.graph → KeepsAggregates s.graph r.graph → KeepsNames names later →
    FieldsKnown r.graph later ms x → AddsParts s.graph r.graph (types_at r.graph.nodes x.types.items) → completed r.graph a ms ≡ Some t.graph → AggregatesAdded s.graph t.graph names later
complete_added s r t names later a ms x h o grows same keeps k adds c =
    record { added = λ f before. record { part = λ filled. subst (λ (zs : List SeenAggregate). AddsParts f t.graph (member_types zs)) (sym now) (step f before (ap (list_all is_filled) (sym now) ∙ filled)) }; model = ap (λ (g : Graph). g.abi) found.3 ∙ grows.abi }
  where
    xs : List SeenAggregate
    xs = aggregates_in r.graph later

    still : AreOpen (drop a.0 xs)
    still = open_later s.graph r.graph names later a.0 h.seen grows same keeps o

    found : (w : Aggregate) × (slice_get r.graph.aggs a.0 ≡ Some w) × (may_hold r.graph w ms ≡ true) × (t.graph ≡ with_members r.graph a w ms)
    found = completed_some r.graph t.graph a ms c

    z : SeenAggregate
    z = seen_aggregate (program_with r.graph later) found.0

    at : slice_get xs a.0 ≡ Some z
    at = seen_at r.graph later a.0 found.0 found.1

    bare : z ≡ incomplete (tag_back z)
    bare = open_at xs a.0 z at still

    y : SeenAggregate
    y = complete_with (tag_at a.0 xs) (members_in r.graph.nodes later ms)

    now : aggregates_in t.graph later ≡ slice_set xs a.0 y
    now = complete_seen r.graph t.graph later a ms still c

    before_now : xs ≡ aggregates_in s.graph names
    before_now = seen_later s.graph r.graph names later h.seen grows same keeps

    types : types_in_aggregate y ≡ types_at r.graph.nodes x.types.items
    types = types_seen r.graph.nodes later ms ∙ ap (types_at r.graph.nodes) (sym k.typed)

    step : (f : Graph) → MembersAdded f s.graph names → list_all is_filled (slice_set xs a.0 y) ≡ true → AddsParts f t.graph (member_types (slice_set xs a.0 y))
    step f before filled =
        stepped f s.graph r.graph t.graph (aggregates_in s.graph names) (slice_set xs a.0 y) (types_at r.graph.nodes x.types.items) grows (ap (λ (g : Graph). g.nodes) found.3)
        (before.part (ap (list_all is_filled) (sym before_now) ∙ filled_set xs a.0 z y at (ap is_filled bare) filled)) adds
        (λ u g. old_set xs a.0 z y at (ap types_in_aggregate bare) u (subst (λ (zs : List SeenAggregate). Among u (member_types zs)) (sym before_now) g))
        (λ u g. new_set xs a.0 z y at u (subst (Among u) (sym types) g))

-- all aggregates

pub whole_added : (g h : Graph) (names later : List (List ℕ)) → AggregatesAdded g h names later → list_all has_member h.aggs ≡ true → AddsParts g h (member_types (aggregates_in h later))
whole_added g h names later a e = (a.added g (record { part = λ filled. adds_none g (member_types (aggregates_in g names)) })).part (seen_filled h later e)
