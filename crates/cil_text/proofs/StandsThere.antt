-- Device: a reader allows the aggregates of a well-formed program: their tags differ, and their members may be where they stand.
use Rattle.std.proofs.Common.{◌≡◌, ℕ, suc, zero, ◌<◌, ◌&&◌, ◌||◌, not, Bool, true, false, List, [], ◌∷◌, ◌++◌, map, length, Option, Some, None, is_some, slice_get, refl, sym, ap, ◌∙◌, arith, ltb-true, length-append, append_assoc}
use Rattle.std.specs.List.{list_all}
use Rattle.std.specs.Option.{option_map, option_and_then}
use Rattle.std.proofs.lemmas.Option.{slice_get-map}
use Rattle.type_graph.specs.declared.aggregates.AggKind.{AggKind}
use Rattle.type_graph.specs.declared.aggregates.Aggregate.{Aggregate}
use Rattle.type_graph.specs.declared.aggregates.Member.{Member}
use Rattle.type_graph.specs.Shapes.{Shape, VoidType, IntType, PtrType, ArrayType, FuncType, AggType, shape}
use Rattle.type_graph.specs.Arena.{members_of, complete_shape, flexible_shape, is_struct, members_fit}
use Rattle.type_graph.specs.Arena as arena
use Rattle.cil_tree.specs.Tree.{Program}
use Rattle.cil_tree.specs.Typing.{is_enum}
use Rattle.cil_tree.specs.WellFormedTypes.{holds_below, elements_below, stands_after, all_stand_after, flexible_is_last, is_nonempty, has_member}
use Rattle.cil_tree.specs.Names.{is_plain_name, are_different, member_names, members_are_named}
use Rattle.cil_tree.specs.Declarators.{tag_text}
use Rattle.cil_tree.specs.Text.{member_name}
use Rattle.cil_tree.specs.Programs.{IsProgram, seen_member, SeenAggregate, seen_aggregate}
use Rattle.cil_text.specs.Allowed.{members_among, is_complete, is_flexible, is_last, can_hold, member_name_of, are_named_apart, stands_well, stand_well, is_filled}
use Rattle.cil_text.specs.ReadAggregates.{tag_of, aggregates_allowed}
use Rattle.cil_text.proofs.WordsBack.{both}
use Rattle.cil_text.proofs.AggregatesBack.{map_joined, tags_seen}

-- truth values

pub all_true : (a b : Bool) → a ≡ true → b ≡ true → a && b ≡ true
all_true a b e f = ap (λ (x : Bool). x && b) e ∙ f

any_true : (a b : Bool) → b ≡ true → a || b ≡ true
any_true true b e = refl
any_true false b e = e

either_true : (a b c d : Bool) → (a ≡ true → b ≡ true) → (c ≡ true → d ≡ true) → a || c ≡ true → b || d ≡ true
either_true true b c d f g e = ap (λ (x : Bool). x || d) (f refl)
either_true false b c d f g e = any_true b d (g e)

then_true : (a b c : Bool) → (b ≡ true → c ≡ true) → a && b ≡ true → a && c ≡ true
then_true a b c f e = let h = both a b e in all_true a c h.0 (f h.1)

-- what is complete in the whole graph is complete among the aggregates in front, if it has none of the others within itself

front_get : (front rest : List Aggregate) (a : ℕ) → a < length front → (x : Aggregate) × (slice_get front a ≡ Some x) × (slice_get (front ++ rest) a ≡ Some x)
front_get [] rest a low = absurd (omega arith)
front_get (x ∷ front) rest zero low = (x, refl, refl)
front_get (x ∷ front) rest (suc a) low = front_get front rest a (omega arith)

some_seen : (p : Program) (o : Option (List Member)) → is_some o ≡ true → is_some (option_map (map (seen_member p)) o) ≡ true
some_seen p None e = absurd (cc e)
some_seen p (Some ms) e = refl

members_known : (p : Program) (front rest : List Aggregate) (a : ℕ) → p.graph.aggs ≡ front ++ rest → a < length front → is_some (members_of p.graph.aggs a) ≡ true → is_some (members_among (map (seen_aggregate p) front) a) ≡ true
members_known p front rest a e low complete =
    let h = front_get front rest a low in
    let whole : members_of p.graph.aggs a ≡ h.0.members = ap (λ xs. members_of xs a) e ∙ ap (option_and_then (λ (x : Aggregate). x.members)) h.2 in
    let known : members_among (map (seen_aggregate p) front) a ≡ option_map (map (seen_member p)) h.0.members =
    ap (option_and_then (λ (x : SeenAggregate). x.members)) (slice_get-map (seen_aggregate p) front a ∙ ap (option_map (seen_aggregate p)) h.1) in
    ap is_some known ∙ some_seen p h.0.members (sym (ap is_some whole) ∙ complete)

complete_known : (p : Program) (front rest : List Aggregate) → p.graph.aggs ≡ front ++ rest → (s : Shape) → holds_below (length front) s ≡ true → complete_shape p.graph.aggs s ≡ true → is_complete (map (seen_aggregate p) front) s ≡ true
complete_known p front rest e VoidType below complete = absurd (cc complete)
complete_known p front rest e (IntType k) below complete = refl
complete_known p front rest e (PtrType q s) below complete = refl
complete_known p front rest e (ArrayType q s None) below complete = absurd (cc complete)
complete_known p front rest e (ArrayType q s (Some n)) below complete = complete_known p front rest e s below complete
complete_known p front rest e (FuncType ret params proto variadic) below complete = absurd (cc complete)
complete_known p front rest e (AggType a) below complete = members_known p front rest a e (ltb-true a (length front) below) complete

flexible_known : (p : Program) (front rest : List Aggregate) → p.graph.aggs ≡ front ++ rest → (s : Shape) → holds_below (length front) s ≡ true → flexible_shape p.graph.aggs s ≡ true → is_flexible (map (seen_aggregate p) front) s ≡ true
flexible_known p front rest e VoidType below flexible = absurd (cc flexible)
flexible_known p front rest e (IntType k) below flexible = absurd (cc flexible)
flexible_known p front rest e (PtrType q s) below flexible = absurd (cc flexible)
flexible_known p front rest e (ArrayType q s None) below flexible = complete_known p front rest e s below flexible
flexible_known p front rest e (ArrayType q s (Some n)) below flexible = absurd (cc flexible)
flexible_known p front rest e (FuncType ret params proto variadic) below flexible = absurd (cc flexible)
flexible_known p front rest e (AggType a) below flexible = absurd (cc flexible)

-- members

last_seen : (p : Program) (ms : List Member) → arena.is_last ms ≡ true → is_last (map (seen_member p) ms) ≡ true
last_seen p [] e = refl
last_seen p (m ∷ ms) e = absurd (cc e)

abbrev is_below : Program → ℕ → Member → Bool
is_below p a m = holds_below a (shape p.graph.nodes m.ty.of.0) && elements_below a (shape p.graph.nodes m.ty.of.0)

held_known : (p : Program) (front rest : List Aggregate) → p.graph.aggs ≡ front ++ rest → (kind : AggKind) (behind : Bool) (ms : List Member) → list_all (is_below p (length front)) ms ≡ true → members_fit p.graph kind behind ms ≡ true →
    can_hold (map (seen_aggregate p) front) kind behind (map (seen_member p) ms) ≡ true
held_known p front rest e kind behind [] below fit = refl
held_known p front rest e kind behind (m ∷ ms) below fit =
    let xs = map (seen_aggregate p) front in
    let s = shape p.graph.nodes m.ty.of.0 in
    let low = both (is_below p (length front) m) (list_all (is_below p (length front)) ms) below in
    let holds = (both (holds_below (length front) s) (elements_below (length front) s) low.0).0 in
    let last = λ (f : arena.is_last ms && flexible_shape p.graph.aggs s ≡ true).
    let k = both (arena.is_last ms) (flexible_shape p.graph.aggs s) f in
    all_true (is_last (map (seen_member p) ms)) (is_flexible xs s) (last_seen p ms k.0) (flexible_known p front rest e s holds k.1) in
    let flexible = then_true (is_struct kind) (behind && (arena.is_last ms && flexible_shape p.graph.aggs s)) (behind && (is_last (map (seen_member p) ms) && is_flexible xs s))
    (then_true behind (arena.is_last ms && flexible_shape p.graph.aggs s) (is_last (map (seen_member p) ms) && is_flexible xs s) last) in
    let h = both (complete_shape p.graph.aggs s || (is_struct kind && (behind && (arena.is_last ms && flexible_shape p.graph.aggs s)))) (members_fit p.graph kind true ms) fit in
    all_true (is_complete xs s || (is_struct kind && (behind && (is_last (map (seen_member p) ms) && is_flexible xs s)))) (can_hold xs kind true (map (seen_member p) ms))
    (either_true (complete_shape p.graph.aggs s) (is_complete xs s) (is_struct kind && (behind && (arena.is_last ms && flexible_shape p.graph.aggs s))) (is_struct kind && (behind && (is_last (map (seen_member p) ms) && is_flexible xs s)))
    (complete_known p front rest e s holds) flexible h.0)
    (held_known p front rest e kind true ms low.1 h.1)

names_seen : (p : Program) (ms : List Member) → map member_name_of (map (seen_member p) ms) ≡ map (member_name p) ms
names_seen p [] = refl
names_seen p (m ∷ ms) = ap (λ xs. member_name p m ∷ xs) (names_seen p ms)

-- aggregates

stands_known : (p : Program) (front : List Aggregate) (x : Aggregate) (rest : List Aggregate) → p.graph.aggs ≡ front ++ x ∷ rest → stands_after p.graph (length front) x ≡ true → flexible_is_last p.graph x ≡ true → members_are_named p x ≡ true →
    stands_well (map (seen_aggregate p) front) (seen_aggregate p x) ≡ true
stands_known p front x rest e after fit named = by x.members after fit differ
  where
    differ : are_different (member_names p x) ≡ true
    differ = (both (list_all is_plain_name (member_names p x)) (are_different (member_names p x)) (both (is_plain_name (tag_text p x)) (list_all is_plain_name (member_names p x) && are_different (member_names p x)) named).1).1

    by : (o : Option (List Member)) → elim o as (λ _. Bool) [ None ↦ true | Some ms ↦ list_all (is_below p (length front)) ms ] ≡ true → elim o as (λ _. Bool) [ None ↦ true | Some ms ↦ members_fit p.graph x.kind false ms ] ≡ true →
        are_different (elim o as (λ _. List (List ℕ)) [ None ↦ [] | Some ms ↦ map (member_name p) ms ]) ≡ true →
        elim (option_map (map (seen_member p)) o) as (λ _. Bool) [ None ↦ true | Some ms ↦ can_hold (map (seen_aggregate p) front) x.kind false ms && are_named_apart x.kind ms ] ≡ true
    by None a f d = refl
    by (Some ms) a f d =
        all_true (can_hold (map (seen_aggregate p) front) x.kind false (map (seen_member p) ms)) (are_named_apart x.kind (map (seen_member p) ms))
        (held_known p front (x ∷ rest) e x.kind false ms a f)
        (any_true (is_enum x.kind) (are_different (map member_name_of (map (seen_member p) ms))) (ap are_different (names_seen p ms) ∙ d))

longer : (front : List Aggregate) (x : Aggregate) → length (front ++ x ∷ []) ≡ suc (length front)
longer front x = omega (arith, length-append front (x ∷ []))

all_known : (p : Program) (front rest : List Aggregate) → p.graph.aggs ≡ front ++ rest → all_stand_after p.graph (length front) rest ≡ true → list_all (flexible_is_last p.graph) rest ≡ true → list_all (members_are_named p) rest ≡ true →
    stand_well (map (seen_aggregate p) front) (map (seen_aggregate p) rest) ≡ true
all_known p front [] e after fit named = refl
all_known p front (x ∷ rest) e after fit named =
    let a = both (stands_after p.graph (length front) x) (all_stand_after p.graph (suc (length front)) rest) after in
    let f = both (flexible_is_last p.graph x) (list_all (flexible_is_last p.graph) rest) fit in
    let n = both (members_are_named p x) (list_all (members_are_named p) rest) named in
    all_true (stands_well (map (seen_aggregate p) front) (seen_aggregate p x)) (stand_well (map (seen_aggregate p) front ++ seen_aggregate p x ∷ []) (map (seen_aggregate p) rest))
    (stands_known p front x rest e a.0 f.0 n.0)
    (ap (λ before. stand_well before (map (seen_aggregate p) rest)) (sym (map_joined (seen_aggregate p) front (x ∷ [])))
    ∙ all_known p (front ++ x ∷ []) rest (e ∙ sym (append_assoc front (x ∷ []) rest)) (ap (λ (k : ℕ). all_stand_after p.graph k rest) (longer front x) ∙ a.1) f.1 n.1)

pub allowed_there : (p : Program) → IsProgram p → aggregates_allowed (map (seen_aggregate p) p.graph.aggs) ≡ true
allowed_there p is =
    let xs = map (seen_aggregate p) p.graph.aggs in
    all_true (are_different (map tag_of xs)) (stand_well [] xs) (ap are_different (tags_seen p p.graph.aggs) ∙ is.names.tags) (all_known p [] p.graph.aggs refl is.types.ordered is.types.fit.flexible is.names.members)

-- each has a member

filled_seen : (p : Program) (xs : List Aggregate) → list_all has_member xs ≡ true → list_all is_filled (map (seen_aggregate p) xs) ≡ true
filled_seen p [] e = refl
filled_seen p (x ∷ xs) e =
    let h = both (has_member x) (list_all has_member xs) e in
    all_true (is_filled (seen_aggregate p x)) (list_all is_filled (map (seen_aggregate p) xs)) (by x.members h.0) (filled_seen p xs h.1)
  where
    by : (o : Option (List Member)) → elim o as (λ _. Bool) [ None ↦ true | Some ms ↦ is_nonempty ms ] ≡ true → elim (option_map (map (seen_member p)) o) as (λ _. Bool) [ None ↦ true | Some ms ↦ not (is_last ms) ] ≡ true
    by None f = refl
    by (Some []) f = absurd (cc f)
    by (Some (m ∷ ms)) f = refl

pub filled_there : (p : Program) → IsProgram p → list_all is_filled (map (seen_aggregate p) p.graph.aggs) ≡ true
filled_there p is = filled_seen p p.graph.aggs is.types.fit.members
